-- Reading six quantities one by one.
use Rattle.std.proofs.Common.{◌≡◌, ℕ, ◌+◌, ◌<◌, true, ◌&&◌, List, length, get_or, ℤ, Ok, Decides, sym, ap, ◌∙◌, ⊎_elim, add-zero, arith}
use Rattle.std.proofs.Math.ListN.{set}
use Rattle.std.proofs.lemmas.Bool.{cond-true, cases_eq}
use Rattle.std.proofs.lemmas.List.{ext_get_or, get_or-set_other}
use Rattle.std.proofs.lemmas.Grind.{get_or-set_at}
use Rattle.market.specs.Reading.{field, small_of, is_quantity, are_quantities, quantities_of, limited}
use Rattle.market.proofs.Deciding.{dec_six}
use Rattle.market.proofs.Fields.{six_at}

-- the quantities before the place n
abbrev pub ReadTo : List ℤ → ℕ → List ℕ → ℕ → Type 0
ReadTo zs i qs n = (k : ℕ) → k < n → (is_quantity (field zs (i + k)) ≡ true) × (get_or qs k 0 ≡ small_of (field zs (i + k)))

pub read_more : (zs : List ℤ) (i : ℕ) (qs : List ℕ) (n q : ℕ) → n < length qs → ReadTo zs i qs n → is_quantity (field zs (i + n)) ≡ true → q ≡ small_of (field zs (i + n)) → ReadTo zs i (set qs n q) (n + 1)
read_more zs i qs n q long h ok is k l =
    ⊎_elim
    (λ (e : k ≡ n). (ap (λ j. is_quantity (field zs (i + j))) e ∙ ok, get_or-set_at qs n k q 0 e long ∙ is ∙ ap (λ j. small_of (field zs (i + j))) (sym e)))
    (λ (e : k ≡ n → ⊥). ((h k (omega arith)).0, get_or-set_other qs n k q 0 e ∙ (h k (omega arith)).1))
    (cases_eq k n)

are_six : (zs : List ℤ) (i : ℕ) → are_quantities zs i ≡ (is_quantity (field zs (i + 0)) && (is_quantity (field zs (i + 1)) && (is_quantity (field zs (i + 2)) && (is_quantity (field zs (i + 3)) && (is_quantity (field zs (i + 4)) && is_quantity (field zs (i + 5)))))))
are_six zs i = ap (λ k. is_quantity (field zs k) && (is_quantity (field zs (i + 1)) && (is_quantity (field zs (i + 2)) && (is_quantity (field zs (i + 3)) && (is_quantity (field zs (i + 4)) && is_quantity (field zs (i + 5))))))) (sym (add-zero i))

dec_all : (zs : List ℤ) (i : ℕ) → Decides (are_quantities zs i) ((p : ℕ) → p < 6 → is_quantity (field zs (i + p)) ≡ true)
dec_all zs i = rw (are_six zs i) (dec_six (λ p. is_quantity (field zs (i + p))) (λ p. is_quantity (field zs (i + p)) ≡ true) (λ p. ((λ h. h), (λ h. h))))

pub read_six : (zs : List ℤ) (i : ℕ) (qs : List ℕ) → length qs ≡ 6 → ReadTo zs i qs 6 → limited (are_quantities zs i) (quantities_of zs i) ≡ Ok qs
read_six zs i qs six h =
    cond-true (are_quantities zs i) _ _ ((dec_all zs i).1 (λ p l. (h p l).0))
    ∙ ap Ok (ext_get_or 0 (quantities_of zs i) qs (sym six) (λ p l. six_at zs i p l ∙ sym (h p l).1))
