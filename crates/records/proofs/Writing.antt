-- Reading gives back what was written. Assumes nothing.
use Rattle.std.proofs.Common.{◌≡◌, ℕ, zero, suc, ◌+◌, ◌*◌, ◌/◌, ◌%◌, ◌^◌, ◌<◌, ◌≤◌, Bool, true, false, cond, ◌||◌, List, [], ◌∷◌, ◌++◌, length, drop, ℤ, pos, negsuc, Ok, sym, refl, ap, ◌∙◌, pow-suc, mul-zero, mul-suc, arith, length-append, w32, w64, SFits, to_z, of_z}
use lib.Count.{ones, ones_step}
use Rattle.std.proofs.lemmas.Nat.{div-add-mod', div_below, pow_pos}
use Rattle.std.proofs.lemmas.List.{take_at, drop_at, length_push}
use Rattle.std.proofs.lemmas.Int.{to_z-of_z}
use Rattle.std.proofs.lemmas.Bool.{cond-true, cond-false, eq-eqb, ne_eqb, le-ltb}
use Rattle.std.specs.List.{AllByRecursion}
use Rattle.records.specs.Bytes.{big_endian, narrow, wide, is_narrow, width, value}
use Rattle.records.specs.Read.{is_zero, has_zero, values, fields, body}
use Rattle.records.specs.Write.{digits, field_bytes, map_of, packed, padded, FitsKind, ReadsBack}
use Rattle.records.proofs.Bodies.{body_ok}
use Rattle.records.proofs.Sizes.{value_long, zero_is}

length_digits : (n x : ℕ) → length (digits n x) ≡ n
unfolding digits
length_digits zero x = refl
length_digits (suc n) x = length_push (digits n (x / 256)) (x % 256) ∙ omega (arith, length_digits n (x / 256))

big_endian_push : (a : ℕ) (ds : List ℕ) (d : ℕ) → big_endian a (ds ++ d ∷ []) ≡ big_endian a ds * 256 + d
big_endian_push a [] d = refl
big_endian_push a (x ∷ ds) d = big_endian_push (a * 256 + x) ds d

big_endian_digits : (n x : ℕ) → x < 256 ^ n → big_endian 0 (digits n x) ≡ x
unfolding digits
big_endian_digits zero x h = omega arith
big_endian_digits (suc n) x h =
    let below : x / 256 < 256 ^ n = div_below x 256 (256 ^ n) (omega arith) (omega (arith, pow-suc 256 n)) in
    big_endian_push 0 (digits n (x / 256)) (x % 256) ∙ ap (λ k. k * 256 + x % 256) (big_endian_digits n (x / 256) below) ∙ div-add-mod' x 256

low_narrow : (z : ℤ) → SFits w32 z → of_z w32 z < 256 ^ 4
low_narrow (pos n) h = omega (arith, h.sfits)
low_narrow (negsuc n) h = omega arith

low_wide : (z : ℤ) → SFits w64 z → of_z w64 z < 256 ^ 8
low_wide (pos n) h = omega (arith, h.sfits)
low_wide (negsuc n) h = omega arith

-- a field's bytes before others: b says that they are 4
abbrev at : Bool → ℤ → List ℕ
at b z = cond b (digits 4 (of_z w32 z)) (digits 8 (of_z w64 z))

length_at : (b : Bool) (z : ℤ) → length (at b z) ≡ cond b 4 8
length_at true z = length_digits 4 (of_z w32 z)
length_at false z = length_digits 8 (of_z w64 z)

value_at : (b : Bool) (z : ℤ) (t : List ℕ) → SFits (cond b w32 w64) z → cond b (narrow (at b z ++ t)) (wide (at b z ++ t)) ≡ z
value_at true z t h =
    ap (λ l. to_z w32 (big_endian 0 l)) (take_at (digits 4 (of_z w32 z)) t 4 (length_digits 4 (of_z w32 z)))
    ∙ ap (to_z w32) (big_endian_digits 4 (of_z w32 z) (low_narrow z h)) ∙ to_z-of_z w32 z h
value_at false z t h =
    ap (λ l. to_z w64 (big_endian 0 l)) (take_at (digits 8 (of_z w64 z)) t 8 (length_digits 8 (of_z w64 z)))
    ∙ ap (to_z w64) (big_endian_digits 8 (of_z w64 z) (low_wide z h)) ∙ to_z-of_z w64 z h

module _ (kind : ℕ) (z : ℤ) (t : List ℕ) where
  value_back : FitsKind kind z → value kind (field_bytes kind z ++ t) ≡ z
  value_back h =
      let long : width kind ≤ length (field_bytes kind z ++ t) = simp length-append (omega (arith, length_at (is_narrow kind) z)) in
      value_long kind (field_bytes kind z ++ t) long ∙ value_at (is_narrow kind) z t h

  drop_back : drop (width kind) (field_bytes kind z ++ t) ≡ t
  drop_back = drop_at (field_bytes kind z) t (width kind) (length_at (is_narrow kind) z)

-- one field more in the map
even_half : (m : ℕ) → (0 + 2 * m) / 2 ≡ m
even_half m = omega arith

even_bit : (m : ℕ) → (0 + 2 * m) % 2 ≡ 0
even_bit m = omega arith

odd_half : (m : ℕ) → (1 + 2 * m) / 2 ≡ m
odd_half m = omega arith

odd_bit : (m : ℕ) → (1 + 2 * m) % 2 ≡ 1
odd_bit m = omega arith

ones_even : (m : ℕ) → ones (0 + 2 * m) ≡ ones m
ones_even m = ones_step (0 + 2 * m) ∙ omega (arith, even_bit m, ap ones (even_half m))

ones_odd : (m : ℕ) → ones (1 + 2 * m) ≡ suc (ones m)
ones_odd m = ones_step (1 + 2 * m) ∙ omega (arith, odd_bit m, ap ones (odd_half m))

-- how much is written
module _ (kind : ℕ) where
  abbrev front : Bool → ℤ → List ℕ
  front b z = cond b [] (field_bytes kind z)

  length_front : (b : Bool) (z : ℤ) (m : ℕ) (t : List ℕ) → length t ≡ width kind * ones m → length (front b z ++ t) ≡ width kind * ones (cond b 0 1 + 2 * m)
  length_front true z m t h = h ∙ ap (λ k. width kind * k) (sym (ones_even m))
  length_front false z m t h =
      length-append (field_bytes kind z) t ∙ omega (arith, length_at (is_narrow kind) z, h, mul-suc (width kind) (ones m)) ∙ ap (λ k. width kind * k) (sym (ones_odd m))

  length_packed : (zs : List ℤ) → length (packed kind zs) ≡ width kind * ones (map_of zs)
  unfolding ones
  length_packed [] = sym (mul-zero (width kind))
  length_packed (z ∷ zs) = length_front (is_zero z) z (map_of zs) (packed kind zs) (length_packed zs)

  -- the fields are read back
  fields_front : (b : Bool) (z : ℤ) (n m : ℕ) (t : List ℕ) (zs : List ℤ) → is_zero z ≡ b → FitsKind kind z → fields kind n m t ≡ zs → fields kind (suc n) (cond b 0 1 + 2 * m) (front b z ++ t) ≡ z ∷ zs
  unfolding fields
  fields_front true z n m t zs e h rest =
      cond-true _ _ _ (eq-eqb ((0 + 2 * m) % 2) 0 (even_bit m))
      ∙ (λ i. sym (zero_is z e) i ∷ fields kind n (even_half m i) t) ∙ ap (λ l. z ∷ l) rest
  fields_front false z n m t zs e h rest =
      cond-false _ _ _ (ne_eqb ((1 + 2 * m) % 2) 0 (λ k. omega (arith, odd_bit m)))
      ∙ (λ i. value_back kind z t h i ∷ fields kind n (odd_half m i) (drop_back kind z t i)) ∙ ap (λ l. z ∷ l) rest

  fields_back : (n : ℕ) (zs : List ℤ) → length zs ≤ n → AllByRecursion (FitsKind kind) zs → fields kind n (map_of zs) (packed kind zs) ≡ padded n zs
  unfolding fields padded
  fields_back zero [] l h = refl
  fields_back zero (z ∷ zs) l h = absurd (omega arith)
  fields_back (suc n) [] l h = ap (λ l. pos 0 ∷ l) (fields_back n [] (omega arith) tt)
  fields_back (suc n) (z ∷ zs) l h = fields_front (is_zero z) z n (map_of zs) (packed kind zs) (padded n zs) refl h.0 (fields_back n zs (omega arith) h.1)

  -- none of them is 0
  none_front : (b : Bool) (z : ℤ) (m : ℕ) (t : List ℕ) → is_zero z ≡ b → FitsKind kind z → has_zero (values kind (ones m) t) ≡ false → has_zero (values kind (ones (cond b 0 1 + 2 * m)) (front b z ++ t)) ≡ false
  none_front true z m t e h rest = ap (λ k. has_zero (values kind k t)) (ones_even m) ∙ rest
  none_front false z m t e h rest =
      ap (λ k. has_zero (values kind k (field_bytes kind z ++ t))) (ones_odd m)
      ∙ (λ i. is_zero (value_back kind z t h i) || has_zero (values kind (ones m) (drop_back kind z t i)))
      ∙ (λ i. e i || rest i)

  none_back : (zs : List ℤ) → AllByRecursion (FitsKind kind) zs → has_zero (values kind (ones (map_of zs)) (packed kind zs)) ≡ false
  unfolding ones
  none_back [] h = refl
  none_back (z ∷ zs) h = none_front (is_zero z) z (map_of zs) (packed kind zs) refl h.0 (none_back zs h.1)

-- a map has no more bits than there are fields
bit_small : (b : Bool) → cond b 0 1 ≤ 1
bit_small true = omega arith
bit_small false = omega arith

map_below : (zs : List ℤ) (n : ℕ) → length zs ≤ n → map_of zs < 2 ^ n
map_below [] n h = pow_pos n
map_below (z ∷ zs) zero h = absurd (omega arith)
map_below (z ∷ zs) (suc n) h = omega (arith, map_below zs n (omega arith), bit_small (is_zero z), pow-suc 2 n)

pub reads_back : ReadsBack
reads_back kinds kind zs rest w =
    let m = map_of zs in
    let count = w.count in
    let long : width kind * ones m ≤ length (packed kind zs ++ rest) = simp length-append (omega (arith, length_packed kind zs)) in
    let none : m / 2 ^ count < 1 = div_below m (2 ^ count) 1 (pow_pos count) (omega (arith, map_below zs count w.few)) in
    let cut = sym (take_at (packed kind zs) rest (width kind * ones m) (length_packed kind zs)) in
    (λ i. body kind (div-add-mod' m 256 i) (packed kind zs ++ rest) (w.counted i))
    ∙ body_ok kind m count (packed kind zs ++ rest) (packed kind zs) long (le-ltb 0 (m / 2 ^ count) (omega (arith, none))) cut (none_back kind zs w.fit)
    ∙ (λ i. Ok (record { kind = kind; fields = fields_back kind 16 zs w.mapped w.fit i; size = 3 + length (packed kind zs) }))
    ∙ ap (λ n. Ok (record { kind = kind; fields = padded 16 zs; size = n })) (omega arith)
