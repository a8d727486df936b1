-- Where a field stands among the bytes. Assumes nothing.
use Rattle.std.proofs.Common.{◌≡◌, ℕ, zero, suc, ◌+◌, ◌-◌, ◌*◌, ◌/◌, ◌%◌, ◌^◌, ◌<◌, ◌≤◌, Bool, true, false, cond, eqb, ltb, List, ◌∷◌, length, get_or, drop, ℤ, pos, sym, refl, ap, ◌∙◌, suc-mul, zero-mul, div-one, add-one, one-add, arith, drop-drop, pow_mono}
use native.Mathlib.Nat.{mod-one}
use lib.Bits.{bit_and}
use lib.Count.{ones, ones_cat}
use Rattle.std.proofs.lemmas.Nat.{and_mask, one_shl, mod-pow-add, shr-shr, mod_below, div_below, pow_pos}
use Rattle.std.proofs.lemmas.List.{get_or_past}
use Rattle.std.proofs.lemmas.Bool.{eqb-true, eqb-false, eq-eqb, ne_eqb, ltb-true, ltb-false, cond-true, cond-false}
use Rattle.records.specs.Bytes.{value, width}
use Rattle.records.specs.Read.{fields}

-- the code's mask
pub mask_is : (m i : ℕ) → i < 16 → bit_and m ((1 * 2 ^ i) % 65536 - 1) ≡ m % 2 ^ i
mask_is m i h = ap (λ k. bit_and m (k - 1)) (one_shl i 16 h) ∙ and_mask m i

-- a map of 16 bits has none from bit 16 on
pub no_bit : (m i : ℕ) → m < 2 ^ 16 → 16 ≤ i → m / 2 ^ i ≡ 0
no_bit m i h far =
    let one : m / 2 ^ i < 1 = div_below m (2 ^ i) 1 (pow_pos i) (omega (arith, pow_mono {i = 16} {j = i} far)) in
    omega (arith, one)

ones_bit : (b : ℕ) → b < 2 → ones b ≡ b
unfolding ones
ones_bit zero h = refl
ones_bit (suc zero) h = refl
ones_bit (suc (suc b)) h = absurd (omega arith)

ones_low : (m i : ℕ) → ones (m % 2 ^ (i + 1)) ≡ m % 2 + ones (m / 2 % 2 ^ i)
ones_low m i =
    let low : m % 2 < 2 = mod_below m 2 (omega arith) in
    let split : ones (m / 2 % 2 ^ i * 2 ^ 1 + m % 2) ≡ ones (m / 2 % 2 ^ i) + ones (m % 2) = ones_cat 1 (m / 2 % 2 ^ i) (m % 2) low in
    omega (arith, ap ones (mod-pow-add m i 1), split, ones_bit (m % 2) low)

-- what stands for bit i
abbrev pub field_at : ℕ → ℕ → List ℕ → ℕ → ℤ
field_at kind m bs i = cond (eqb (m / 2 ^ i % 2) 0) (pos 0) (value kind (drop (ones (m % 2 ^ i) * width kind) bs))

first : (b : Bool) (x y : ℤ) (xs ys : List ℤ) → get_or (cond b (x ∷ xs) (y ∷ ys)) 0 (pos 0) ≡ cond b x y
first true x y xs ys = refl
first false x y xs ys = refl

later : (b : Bool) (x y : ℤ) (xs ys : List ℤ) (i : ℕ) → get_or (cond b (x ∷ xs) (y ∷ ys)) (suc i) (pos 0) ≡ cond b (get_or xs i (pos 0)) (get_or ys i (pos 0))
later true x y xs ys i = refl
later false x y xs ys i = refl

-- a field by its bit and by how many bytes stand before it
found : ℕ → List ℕ → ℕ → ℕ → ℤ
found kind bs bits before = cond (eqb (bits % 2) 0) (pos 0) (value kind (drop before bs))

same_found : (kind : ℕ) (bs : List ℕ) (a b k l : ℕ) → a ≡ b → k ≡ l → found kind bs a k ≡ found kind bs b l
same_found kind bs a b k l p q = λ i. found kind bs (p i) (q i)

none_below : (m w : ℕ) → 0 ≡ ones (m % 2 ^ 0) * w
unfolding ones
none_below m w = sym (ap (λ k. ones k * w) (mod-one m) ∙ zero-mul w)

shifted : (m i : ℕ) → m / 2 / 2 ^ i ≡ m / 2 ^ suc i
shifted m i = shr-shr m 1 i ∙ ap (λ k. m / 2 ^ k) (one-add i)

ones_next : (m i : ℕ) → ones (m % 2 ^ suc i) ≡ m % 2 + ones (m / 2 % 2 ^ i)
ones_next m i = ap (λ k. ones (m % 2 ^ k)) (sym (add-one i)) ∙ ones_low m i

-- bit i of m / 2 is bit suc i of m
field_at_next : (kind m : ℕ) (bs : List ℕ) (i : ℕ) (b : Bool) → b ≡ eqb (m % 2) 0 → cond b (field_at kind (m / 2) bs i) (field_at kind (m / 2) (drop (width kind) bs) i) ≡ field_at kind m bs (suc i)
unfolding found
field_at_next kind m bs i true e =
    let even : m % 2 ≡ 0 = eqb-true (m % 2) 0 (sym e) in
    let k : ones (m % 2 ^ suc i) ≡ ones (m / 2 % 2 ^ i) = omega (arith, ones_next m i) in
    same_found kind bs _ _ _ _ (shifted m i) (ap (λ k. k * width kind) (sym k))
field_at_next kind m bs i false e =
    let odd : m % 2 ≡ 1 = omega (arith, mod_below m 2 (omega arith), eqb-false (m % 2) 0 (sym e)) in
    let w : ℕ = width kind in
    let k : ones (m % 2 ^ suc i) ≡ suc (ones (m / 2 % 2 ^ i)) = omega (arith, ones_next m i) in
    let far : w + ones (m / 2 % 2 ^ i) * w ≡ ones (m % 2 ^ suc i) * w = omega (arith, ap (λ k. k * w) k, suc-mul (ones (m / 2 % 2 ^ i)) w) in
    ap (λ t. cond (eqb (m / 2 / 2 ^ i % 2) 0) (pos 0) (value kind t)) (drop-drop (ones (m / 2 % 2 ^ i) * w) w bs)
    ∙ same_found kind bs _ _ _ _ (shifted m i) far

pub fields_at : (kind n m : ℕ) (bs : List ℕ) (i : ℕ) → i < n → get_or (fields kind n m bs) i (pos 0) ≡ field_at kind m bs i
unfolding fields found
fields_at kind zero m bs i h = absurd (omega arith)
fields_at kind (suc n) m bs zero h = first (eqb (m % 2) 0) (pos 0) (value kind bs) (fields kind n (m / 2) bs) (fields kind n (m / 2) (drop (width kind) bs)) ∙ same_found kind bs _ _ _ _ (sym (div-one m)) (none_below m (width kind))
fields_at kind (suc n) m bs (suc i) h =
    let here = fields_at kind n (m / 2) bs i (omega arith) in
    let there = fields_at kind n (m / 2) (drop (width kind) bs) i (omega arith) in
    later (eqb (m % 2) 0) (pos 0) (value kind bs) (fields kind n (m / 2) bs) (fields kind n (m / 2) (drop (width kind) bs)) i ∙ (λ j. cond (eqb (m % 2) 0) (here j) (there j)) ∙ field_at_next kind m bs i _ refl

pub fields_length : (kind n map : ℕ) (bs : List ℕ) → length (fields kind n map bs) ≡ n
unfolding fields
fields_length kind zero map bs = refl
fields_length kind (suc n) map bs =
    elim (eqb (map % 2) 0) as (λ b. length (cond b (pos 0 ∷ fields kind n (map / 2) bs) (value kind bs ∷ fields kind n (map / 2) (drop (width kind) bs))) ≡ suc n) [
      | true ↦ ap suc (fields_length kind n (map / 2) bs)
      | false ↦ ap suc (fields_length kind n (map / 2) (drop (width kind) bs))
    ]

-- what the code reads, where the bit stands and where it does not
bit_off : (x : ℕ) → eqb (x % 2) 1 ≡ false → eqb (x % 2) 0 ≡ true
bit_off x e = eq-eqb (x % 2) 0 (omega (arith, mod_below x 2 (omega arith), eqb-false (x % 2) 1 e))

bit_on : (x : ℕ) → eqb (x % 2) 1 ≡ true → eqb (x % 2) 0 ≡ false
bit_on x e = ne_eqb (x % 2) 0 (λ z. omega (arith, eqb-true (x % 2) 1 e))

pub field_absent : (kind m : ℕ) (bs : List ℕ) (i : ℕ) → eqb (m / 2 ^ i % 2) 1 ≡ false → pos 0 ≡ get_or (fields kind 16 m bs) i (pos 0)
field_absent kind m bs i e =
    elim (ltb i 16) as (λ b. b ≡ ltb i 16 → pos 0 ≡ get_or (fields kind 16 m bs) i (pos 0)) [
      | true ↦ λ h. sym (fields_at kind 16 m bs i (ltb-true i 16 (sym h)) ∙ cond-true _ (pos 0) _ (bit_off (m / 2 ^ i) e))
      | false ↦ λ h. sym (get_or_past (fields kind 16 m bs) i (pos 0) (omega (arith, fields_length kind 16 m bs, ltb-false i 16 (sym h))))
    ] refl

pub field_stands : (kind m : ℕ) (bs : List ℕ) (i at : ℕ) → i < 16 → eqb (m / 2 ^ i % 2) 1 ≡ true → at ≡ ones (m % 2 ^ i) * width kind → value kind (drop at bs) ≡ get_or (fields kind 16 m bs) i (pos 0)
field_stands kind m bs i at h stands e =
    ap (λ k. value kind (drop k bs)) e
    ∙ sym (fields_at kind 16 m bs i h ∙ cond-false _ (pos 0) _ (bit_on (m / 2 ^ i) stands))
