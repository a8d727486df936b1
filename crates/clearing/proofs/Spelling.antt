-- The bytes of the marks of a file.
use Rattle.std.proofs.Common.{◌≡◌, ℕ, ◌+◌, ◌-◌, ◌≤◌, Bool, true, false, cond, eqb, List, [], ◌∷◌, ◌++◌, length, get_or, take, drop, ℤ, pos, Some, None, Ok, Option, sym, refl, ap, ◌∙◌, subst, ⊎_elim, arith, take-add}
use Rattle.std.specs.List.{AllByRecursion}
use Rattle.std.proofs.ByRecursion.{All-drop}
use Rattle.std.proofs.lemmas.List.{append-nil, append_assoc}
use Rattle.std.proofs.lemmas.Bool.{cases_eq, ne_eqb, cond-false}
use Rattle.records.specs.Read.{Content, read, field_count}
use Rattle.records.specs.Write.{Byte, encode}
use Rattle.records.proofs.Rewriting.{begins}
use Rattle.records.proofs.Spelling.{read_own}
use Rattle.records.proofs.Tails.{encode_more}
use Rattle.market.specs.Market.{Market}
use Rattle.clearing.specs.declared.marks.Mark.{Mark}
use Rattle.clearing.specs.declared.marks.Mark.TheVariants.{Parts, Price}
use Rattle.clearing.specs.Files.{kinds, Run, InOrder}
use Rattle.clearing.specs.Marks.{mark_of, kind_of, number_of, amount_of, bytes_of}

take_two : (zs : List ℤ) → 2 ≤ length zs → take 2 zs ≡ get_or zs 0 (pos 0) ∷ get_or zs 1 (pos 0) ∷ []
take_two [] h = absurd (omega arith)
take_two (x ∷ []) h = absurd (omega arith)
take_two (x ∷ y ∷ zs) h = refl

-- both kinds have two fields
two_fields : (b d : Bool) (count : ℕ) → cond b (Some 2) (cond d (Some 2) None) ≡ Some count → count ≡ 2
two_fields true d count e = cc
two_fields false true count e = cc
two_fields false false count e = absurd cc

-- the encoding of a mark
abbrev written : Mark → List ℕ
written x = encode (kind_of x) (number_of x ∷ amount_of x ∷ [])

abbrev Same : ℤ → ℤ → ℕ → Type 0
Same a b k = encode k (a ∷ b ∷ []) ≡ written (cond (eqb k 6) (Parts a b) (Price a b))

-- a record of kind 6 or 7 is that of its mark
same_record : (a b : ℤ) (k count : ℕ) → field_count kinds k ≡ Some count → Same a b k
same_record a b k count e =
    ⊎_elim
    (λ (six : 6 ≡ k). subst (Same a b) six refl)
    (λ (six : 6 ≡ k → ⊥). ⊎_elim
    (λ (seven : 7 ≡ k). subst (Same a b) seven refl)
    (λ (seven : 7 ≡ k → ⊥).
    let n : field_count kinds k ≡ None = cond-false (eqb 6 k) _ _ (ne_eqb 6 k six) ∙ cond-false (eqb 7 k) _ _ (ne_eqb 7 k seven) in
    absurd cc)
    (cases_eq 7 k))
    (cases_eq 6 k)

-- the bytes of a record are those of its mark
mark_bytes : (bs : List ℕ) (c : Content) → AllByRecursion Byte bs → read kinds bs ≡ Ok c → take c.size bs ≡ written (mark_of c)
mark_bytes bs c all is =
    let own = read_own kinds bs c is in
    let two : own.count ≡ 2 = two_fields (eqb 6 c.kind) (eqb 7 c.kind) own.count own.counted in
    let front : take own.count c.fields ≡ get_or c.fields 0 (pos 0) ∷ get_or c.fields 1 (pos 0) ∷ [] = ap (λ n. take n c.fields) two ∙ take_two c.fields (omega (arith, own.long)) in
    begins kinds bs c all is
    ∙ ap (encode c.kind) own.parts
    ∙ encode_more c.kind (take own.count c.fields) (16 - own.count)
    ∙ ap (encode c.kind) front
    ∙ same_record (get_or c.fields 0 (pos 0)) (get_or c.fields 1 (pos 0)) c.kind own.count own.counted

-- from p on, the bytes are those of the marks
pub run_bytes : (m : Market) (file : List ℕ) → AllByRecursion Byte file → (p : ℕ) (last : Option Mark) (xs : List Mark) (q : ℕ) (end : Option Mark) → Run m file p last xs q end
    → take q file ≡ take p file ++ bytes_of xs
run_bytes m file all p last [] q end run = ap (λ n. take n file) run.0 ∙ sym (append-nil (take p file))
run_bytes m file all p last (x ∷ xs) q end run =
    let c = run.0 in
    let here : take c.size (drop p file) ≡ written x = mark_bytes (drop p file) c (All-drop Byte p file all) run.1 ∙ ap written (sym run.2) in
    run_bytes m file all (p + c.size) (Some x) xs q end run.4
    ∙ ap (λ l. l ++ bytes_of xs) (take-add p c.size file ∙ ap (λ l. take p file ++ l) here)
    ∙ append_assoc (take p file) (written x) (bytes_of xs)

pub run_ordered : (m : Market) (file : List ℕ) (p : ℕ) (last : Option Mark) (xs : List Mark) (q : ℕ) (end : Option Mark) → Run m file p last xs q end → InOrder m last xs
run_ordered m file p last [] q end run = tt
run_ordered m file p last (x ∷ xs) q end run = (run.3, run_ordered m file (p + run.0.size) (Some x) xs q end run.4)
