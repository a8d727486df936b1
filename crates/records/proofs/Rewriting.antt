-- Writing gives back the bytes that were read. Assumes nothing.
use Rattle.std.proofs.Common.{◌≡◌, ℕ, zero, suc, ◌+◌, ◌*◌, ◌/◌, ◌%◌, ◌^◌, ◌<◌, ◌≤◌, Bool, true, false, cond, eqb, List, [], ◌∷◌, ◌++◌, length, take, drop, ℤ, pos, Ok, Option, sym, refl, ap, ◌∙◌, subst, mul_assoc, pow-suc, mul-zero, mul-suc, div-one, arith, length-drop, take-append-drop, length-take-le, w32, w64, of_z}
use native.Mathlib.Nat.{pow-succ', div-div-eq-div-mul}
use lib.Count.{ones, ones_step}
use Rattle.std.proofs.lemmas.Nat.{div-mul-add, mod-mul-add, div_below, mul-le, div-add-mod', mod_below}
use Rattle.std.proofs.lemmas.Int.{of_z-to_z}
use Rattle.std.proofs.lemmas.Bool.{eqb-true, eqb-false, or_parts}
use Rattle.records.specs.declared.Kind.{Kind}
use Rattle.std.specs.List.{AllByRecursion}
use Rattle.records.specs.Bytes.{big_endian, narrow, wide, is_narrow, width, value}
use Rattle.records.specs.Read.{field_count, is_zero, has_zero, values, fields, Content, body, read}
use Rattle.records.specs.Write.{Byte, digits, field_bytes, map_of, packed, encode, WritesBack}
use Rattle.records.proofs.Bodies.{body_passed}
use Rattle.records.proofs.Sizes.{value_long}

shift_front : (x n : ℕ) → x / 256 / 256 ^ n ≡ x / 256 ^ suc n
shift_front x n = div-div-eq-div-mul x 256 (256 ^ n) ∙ ap (λ k. x / k) (sym (pow-succ' 256 n))

shift_back : (x n : ℕ) → x / 256 ^ n / 256 ≡ x / 256 ^ suc n
shift_back x n = div-div-eq-div-mul x (256 ^ n) 256 ∙ ap (λ k. x / k) (sym (pow-suc 256 n))

-- the first digit, and the rest
digits_front : (n x : ℕ) → digits (suc n) x ≡ (x / 256 ^ n % 256) ∷ digits n x
unfolding digits
digits_front zero x = ap (λ k. k % 256 ∷ []) (sym (div-one x))
digits_front (suc n) x =
    ap (λ l. l ++ (x % 256) ∷ []) (digits_front n (x / 256)) ∙ ap (λ k. k % 256 ∷ (digits n (x / 256) ++ (x % 256) ∷ [])) (shift_front x n)

big_endian_high : (a : ℕ) (ds : List ℕ) → AllByRecursion Byte ds → big_endian a ds / 256 ^ length ds ≡ a
big_endian_high a [] h = div-one a
big_endian_high a (d ∷ ds) h =
    sym (shift_back (big_endian (a * 256 + d) ds) (length ds)) ∙ ap (λ k. k / 256) (big_endian_high (a * 256 + d) ds h.1) ∙ div-mul-add a 256 d h.0

digits_back : (a : ℕ) (ds : List ℕ) → AllByRecursion Byte ds → digits (length ds) (big_endian a ds) ≡ ds
unfolding digits
digits_back a [] h = refl
digits_back a (d ∷ ds) h =
    digits_front (length ds) (big_endian (a * 256 + d) ds)
    ∙ (λ i. (big_endian_high (a * 256 + d) ds h.1 i % 256) ∷ digits_back (a * 256 + d) ds h.1 i)
    ∙ ap (λ k. k ∷ ds) (mod-mul-add a 256 d h.0)

big_endian_below : (a : ℕ) (ds : List ℕ) → AllByRecursion Byte ds → big_endian a ds < suc a * 256 ^ length ds
big_endian_below a [] h = omega arith
big_endian_below a (d ∷ ds) h =
    let p = 256 ^ length ds in
    let most : suc (a * 256 + d) * p ≤ (suc a * 256) * p = mul-le (suc (a * 256 + d)) p (suc a * 256) p (omega (arith, h.0)) (omega arith) in
    omega (arith, big_endian_below (a * 256 + d) ds h.1, most, mul_assoc (suc a) 256 p, ap (λ k. suc a * k) (pow-succ' 256 (length ds)))

module _ {X : Type 0} (P : X → Type 0) where
  pub all_take : (n : ℕ) (xs : List X) → AllByRecursion P xs → AllByRecursion P (take n xs)
  all_take zero xs h = tt
  all_take (suc n) [] h = tt
  all_take (suc n) (x ∷ xs) h = (h.0, all_take n xs h.1)

  all_drop : (n : ℕ) (xs : List X) → AllByRecursion P xs → AllByRecursion P (drop n xs)
  all_drop zero xs h = h
  all_drop (suc n) [] h = tt
  all_drop (suc n) (x ∷ xs) h = all_drop n xs h.1

-- the bytes of a field that is read
field_at : (b : Bool) (bs : List ℕ) → cond b 4 8 ≤ length bs → AllByRecursion Byte bs → cond b (digits 4 (of_z w32 (cond b (narrow bs) (wide bs)))) (digits 8 (of_z w64 (cond b (narrow bs) (wide bs)))) ≡ take (cond b 4 8) bs
field_at true bs l h =
    let four : length (take 4 bs) ≡ 4 = length-take-le 4 bs l in
    let low : big_endian 0 (take 4 bs) < 2 ^ 32 = omega (arith, big_endian_below 0 (take 4 bs) (all_take Byte 4 bs h), ap (λ n. 256 ^ n) four) in
    ap (digits 4) (of_z-to_z w32 (big_endian 0 (take 4 bs)) low) ∙ ap (λ n. digits n (big_endian 0 (take 4 bs))) (sym four) ∙ digits_back 0 (take 4 bs) (all_take Byte 4 bs h)
field_at false bs l h =
    let eight : length (take 8 bs) ≡ 8 = length-take-le 8 bs l in
    let low : big_endian 0 (take 8 bs) < 2 ^ 64 = omega (arith, big_endian_below 0 (take 8 bs) (all_take Byte 8 bs h), ap (λ n. 256 ^ n) eight) in
    ap (digits 8) (of_z-to_z w64 (big_endian 0 (take 8 bs)) low) ∙ ap (λ n. digits n (big_endian 0 (take 8 bs))) (sym eight) ∙ digits_back 0 (take 8 bs) (all_take Byte 8 bs h)

-- the map and the bytes of the fields that are read
module _ (kind : ℕ) where
  abbrev Written : ℕ → ℕ → List ℕ → Type 0
  Written n m bs = (map_of (fields kind n m bs) ≡ m) × (packed kind (fields kind n m bs) ≡ bs)

  abbrev Sound : ℕ → List ℕ → Type 0
  Sound m bs = (length bs ≡ width kind * ones m) × AllByRecursion Byte bs × (has_zero (values kind (ones m) bs) ≡ false)

  written_next : (n m : ℕ) (bs : List ℕ) (b : Bool) → b ≡ eqb (m % 2) 0 → Sound m bs → ((ds : List ℕ) → Sound (m / 2) ds → Written n (m / 2) ds)
      → (let zs : List ℤ = cond b (pos 0 ∷ fields kind n (m / 2) bs) (value kind bs ∷ fields kind n (m / 2) (drop (width kind) bs)) in (map_of zs ≡ m) × (packed kind zs ≡ bs))
  written_next n m bs true e s rec =
      let even : m % 2 ≡ 0 = eqb-true (m % 2) 0 (sym e) in
      let same : ones m ≡ ones (m / 2) = omega (arith, ones_step m) in
      let k = rec bs (s.0 ∙ ap (λ n. width kind * n) same, s.1, ap (λ n. has_zero (values kind n bs)) (sym same) ∙ s.2) in
      (omega (arith, k.0, div-add-mod' m 2), k.1)
  written_next n m bs false e s rec =
      let w = width kind in
      let odd : m % 2 ≡ 1 = omega (arith, mod_below m 2 (omega arith), eqb-false (m % 2) 0 (sym e)) in
      let more : ones m ≡ suc (ones (m / 2)) = omega (arith, ones_step m) in
      let long : length bs ≡ w * ones (m / 2) + w = s.0 ∙ ap (λ n. w * n) more ∙ mul-suc w (ones (m / 2)) in
      let none = or_parts (is_zero (value kind bs)) (has_zero (values kind (ones (m / 2)) (drop w bs))) (ap (λ n. has_zero (values kind n bs)) (sym more) ∙ s.2) in
      let k = rec (drop w bs) (length-drop w bs ∙ omega (arith, long), all_drop Byte w bs s.1, none.1) in (
        ap (λ b. cond b 0 1 + 2 * map_of (fields kind n (m / 2) (drop w bs))) none.0 ∙ omega (arith, k.0, div-add-mod' m 2),
        (λ i. cond (none.0 i) [] (field_bytes kind (value kind bs)) ++ k.1 i)
            ∙ ap (λ z. field_bytes kind z ++ drop w bs) (value_long kind bs (omega (arith, long)))
            ∙ ap (λ l. l ++ drop w bs) (field_at (is_narrow kind) bs (omega (arith, long)) s.1) ∙ take-append-drop w bs,
      )

  pub written_fields : (n m : ℕ) (bs : List ℕ) → m < 2 ^ n → Sound m bs → Written n m bs
  unfolding fields ones
  written_fields zero m [] h s = (omega arith, refl)
  written_fields zero m (b ∷ bs) h s =
      let none : m ≡ 0 = omega arith in
      absurd (omega (arith, s.0 ∙ ap (λ n. width kind * ones n) none, mul-zero (width kind)))
  written_fields (suc n) m bs h s = written_next n m bs _ refl s (λ ds t. written_fields n (m / 2) ds (div_below m 2 (2 ^ n) (omega arith) (omega (arith, pow-suc 2 n))) t)

-- a record that is read
pub body_back : (kind high low : ℕ) (rest : List ℕ) (o : Option ℕ) (c : Content) → Byte high → Byte low → AllByRecursion Byte rest → body kind (high * 256 + low) rest o ≡ Ok c → take c.size (kind ∷ high ∷ low ∷ rest) ≡ encode c.kind c.fields
body_back kind high low rest o c p q all h =
    let m = high * 256 + low in
    let size = width kind * ones m in
    let by = body_passed kind m rest o c h in
    let fit : m < 2 ^ 16 = omega arith in
    let three : 3 + size ≡ suc (suc (suc size)) = omega arith in
    let w = written_fields kind 16 m (take size rest) fit (length-take-le size rest by.long, all_take Byte size rest all, by.none_zero) in
    subst (λ c. take c.size (kind ∷ high ∷ low ∷ rest) ≡ encode c.kind c.fields) by.is
    (ap (λ n. take n (kind ∷ high ∷ low ∷ rest)) three
    ∙ (λ i. kind ∷ sym (div-mul-add high 256 low q) i ∷ sym (mod-mul-add high 256 low q) i ∷ take size rest)
    ∙ (λ i. kind ∷ (sym w.0 i / 256) ∷ (sym w.0 i % 256) ∷ sym w.1 i))

pub begins : (kinds : List Kind) (bs : List ℕ) (c : Content) → AllByRecursion Byte bs → read kinds bs ≡ Ok c → take c.size bs ≡ encode c.kind c.fields
begins kinds [] c all h = absurd cc
begins kinds (x ∷ []) c all h = absurd cc
begins kinds (x ∷ y ∷ []) c all h = absurd cc
begins kinds (kind ∷ high ∷ low ∷ rest) c all h = body_back kind high low rest (field_count kinds kind) c all.1.0 all.1.1.0 all.1.1.1 h

pub writes_back : WritesBack
writes_back kinds bs c all h = sym (take-append-drop c.size bs) ∙ ap (λ l. l ++ drop c.size bs) (begins kinds bs c all h)
