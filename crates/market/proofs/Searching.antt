-- A search through a list, and through the places of its entries.
use Rattle.std.proofs.Common.{◌≡◌, ℕ, zero, suc, Bool, true, false, ◌&&◌, ◌||◌, leb, List, [], ◌∷◌, length, get_or, drop, sym, refl, ap, ◌∙◌, arith}
use Rattle.std.proofs.lemmas.Bool.{le-leb, lt-leb}
use Rattle.std.proofs.lemmas.Bool.Decides.{nat_tests}
use Rattle.std.specs.List.{list_any}
use Rattle.numbers.specs.Searches.{any_to}
use Rattle.numbers.proofs.Searches.{any_none, any_same}

or_swap : (a b c : Bool) → (a || (b || c)) ≡ (b || (a || c))
or_swap true true c = refl
or_swap true false c = refl
or_swap false b c = refl

-- the first place and the later ones
any_front : (n : ℕ) (f : ℕ → Bool) → any_to (suc n) f ≡ (f 0 || any_to n (λ i. f (suc i)))
unfolding any_to
any_front zero f = refl
any_front (suc n) f = ap (λ b. f (suc n) || b) (any_front n f) ∙ or_swap (f (suc n)) (f 0) (any_to n (λ i. f (suc i)))

pub any_place : {X : Type 0} (d : X) (xs : List X) (f : X → Bool) → list_any f xs ≡ any_to (length xs) (λ i. f (get_or xs i d))
any_place d [] f = sym (any_none (λ i. f (get_or [] i d)))
any_place d (x ∷ xs) f = ap (λ b. f x || b) (any_place d xs f) ∙ sym (any_front (length xs) (λ i. f (get_or (x ∷ xs) i d)))

later : (n i : ℕ) → leb n i ≡ leb (suc n) (suc i)
later n i = grind (arith, nat_tests)

-- past the first n
pub any_past : {X : Type 0} (d : X) (n : ℕ) (xs : List X) (f : X → Bool) → list_any f (drop n xs) ≡ any_to (length xs) (λ i. leb n i && f (get_or xs i d))
any_past d zero xs f = any_place d xs f ∙ any_same (length xs) _ _ (λ i _. ap (λ b. b && f (get_or xs i d)) (sym (le-leb 0 i (omega arith))))
any_past d (suc n) [] f = sym (any_none (λ i. leb (suc n) i && f (get_or [] i d)))
any_past d (suc n) (x ∷ xs) f =
    any_past d n xs f
    ∙ any_same (length xs) _ _ (λ i _. ap (λ b. b && f (get_or xs i d)) (later n i))
    ∙ ap (λ b. (b && f x) || any_to (length xs) (λ i. leb (suc n) (suc i) && f (get_or xs i d))) (sym (lt-leb (suc n) 0 (omega arith)))
    ∙ sym (any_front (length xs) (λ i. leb (suc n) i && f (get_or (x ∷ xs) i d)))
