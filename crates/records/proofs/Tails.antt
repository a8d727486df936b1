-- The fields past a kind's own are 0, so a record's bytes are those of its own fields. Assumes nothing.
use Rattle.std.proofs.Common.{◌≡◌, ℕ, zero, suc, ◌+◌, ◌-◌, ◌*◌, ◌/◌, ◌%◌, ◌^◌, ◌≤◌, true, false, cond, eqb, List, [], ◌∷◌, ◌++◌, length, drop, replicate, ℤ, pos, sym, refl, ap, ◌∙◌, div-one, arith}
use native.Mathlib.Nat.{pow-succ', div-div-eq-div-mul}
use Rattle.records.specs.Bytes.{width, value}
use Rattle.records.specs.Read.{is_zero, fields}
use Rattle.records.specs.Write.{field_bytes, map_of, packed, encode, padded}

fields_none : (kind n : ℕ) (bs : List ℕ) → fields kind n 0 bs ≡ replicate n (pos 0)
unfolding fields
fields_none kind zero bs = refl
fields_none kind (suc n) bs = ap (λ zs. pos 0 ∷ zs) (fields_none kind n bs)

pub fields_tail : (count n kind map : ℕ) (bs : List ℕ) → map / 2 ^ count ≡ 0 → drop count (fields kind n map bs) ≡ replicate (n - count) (pos 0)
unfolding fields
fields_tail zero n kind map bs e = ap (λ m. fields kind n m bs) (sym (div-one map) ∙ e) ∙ fields_none kind n bs ∙ ap (λ k. replicate k (pos 0)) (omega arith)
fields_tail (suc c) zero kind map bs e = ap (λ k. replicate k (pos 0)) {x = 0} {y = zero - suc c} (omega arith)
fields_tail (suc c) (suc n) kind map bs e =
    let less : map / 2 / 2 ^ c ≡ 0 = div-div-eq-div-mul map 2 (2 ^ c) ∙ ap (λ k. map / k) (sym (pow-succ' 2 c)) ∙ e in
    let left = ap (λ k. replicate k (pos 0)) {x = n - c} {y = suc n - suc c} (omega arith) in
    elim (eqb (map % 2) 0) as (λ b. drop (suc c) (cond b (pos 0 ∷ fields kind n (map / 2) bs) (value kind bs ∷ fields kind n (map / 2) (drop (width kind) bs))) ≡ replicate (suc n - suc c) (pos 0)) [
      | true ↦ fields_tail c n kind (map / 2) bs less ∙ left
      | false ↦ fields_tail c n kind (map / 2) (drop (width kind) bs) less ∙ left
    ]

-- zeros at the end leave no trace
map_zeros : (k : ℕ) → map_of (replicate k (pos 0)) ≡ 0
map_zeros zero = refl
map_zeros (suc k) = let rest = map_zeros k in omega arith

packed_zeros : (kind k : ℕ) → packed kind (replicate k (pos 0)) ≡ []
packed_zeros kind zero = refl
packed_zeros kind (suc k) = packed_zeros kind k

map_more : (zs : List ℤ) (k : ℕ) → map_of (zs ++ replicate k (pos 0)) ≡ map_of zs
map_more [] k = map_zeros k
map_more (z ∷ zs) k = ap (λ m. cond (is_zero z) 0 1 + 2 * m) (map_more zs k)

packed_more : (kind : ℕ) (zs : List ℤ) (k : ℕ) → packed kind (zs ++ replicate k (pos 0)) ≡ packed kind zs
packed_more kind [] k = packed_zeros kind k
packed_more kind (z ∷ zs) k = ap (λ l. cond (is_zero z) [] (field_bytes kind z) ++ l) (packed_more kind zs k)

pub encode_more : (kind : ℕ) (zs : List ℤ) (k : ℕ) → encode kind (zs ++ replicate k (pos 0)) ≡ encode kind zs
encode_more kind zs k = λ i. kind ∷ (map_more zs k i / 256) ∷ (map_more zs k i % 256) ∷ packed_more kind zs k i

pub padded_more : (n : ℕ) (zs : List ℤ) → length zs ≤ n → padded n zs ≡ zs ++ replicate (n - length zs) (pos 0)
unfolding padded
padded_more zero [] h = refl
padded_more zero (z ∷ zs) h = absurd (omega arith)
padded_more (suc n) [] h = ap (λ l. pos 0 ∷ l) (padded_more n [] (omega arith)) ∙ ap (λ k. replicate k (pos 0)) {x = suc (n - 0)} {y = suc n - 0} (omega arith)
padded_more (suc n) (z ∷ zs) h = ap (λ l. z ∷ l) (padded_more n zs (omega arith)) ∙ ap (λ k. z ∷ (zs ++ replicate k (pos 0))) (omega arith)
