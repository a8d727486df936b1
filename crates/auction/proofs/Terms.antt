-- Products and sums of what is measured of sell orders, as the code computes them.
use Rattle.std.proofs.Common.{◌≡◌, ℕ, ◌+◌, ◌*◌, ◌<◌, ◌≤◌, ◌^◌, ℤ, pos, ◌+ℤ◌, ◌-ℤ◌, ◌*ℤ◌, neg_ℤ, ap, ap₂, ◌∙◌, mul-le-mul_right, arith, w64, FitsSigned, to_z, of_z}
use Rattle.std.proofs.lemmas.Int.{ints}
use Rattle.numbers.specs.Sums.{sum_to, Within, Term, Summed}
use Rattle.numbers.proofs.Products.{Multiplied}
use Rattle.auction.specs.Sizes.{wider}

-- a product whose size is known
pub product_of : (u v a b : ℤ) (size : ℕ) → u ≡ a → v ≡ b → size < 2 ^ 63 → Within size (a *ℤ b) → Multiplied u v a b size
product_of u v a b size p q l w =
    let e : u *ℤ v ≡ a *ℤ b = ap₂ ◌*ℤ◌ p q in
    record { fits = omega (arith, ints); is = omega (arith, ints); small = w }

-- a sum in 64 bits, of numbers as the code has them (p, z)
pub record Added (p z s : ℤ) (size : ℕ) : Type 0 where
  pub fits : FitsSigned w64 (to_z w64 (of_z w64 p) +ℤ to_z w64 (of_z w64 z))
  pub is : to_z w64 (of_z w64 (to_z w64 (of_z w64 p) +ℤ to_z w64 (of_z w64 z))) ≡ s
  pub small : Within size (to_z w64 (of_z w64 (to_z w64 (of_z w64 p) +ℤ to_z w64 (of_z w64 z))))

pub added : (p z s t : ℤ) (m n : ℕ) → m + n < 2 ^ 63 → p ≡ s → z ≡ t → Within m p → Within n z → Added p z (s +ℤ t) (m + n)
added p z s t m n l e f a b =
    let u : to_z w64 (of_z w64 p) ≡ p = omega (arith, ints) in
    let v : to_z w64 (of_z w64 z) ≡ z = omega (arith, ints) in
    let w : to_z w64 (of_z w64 (to_z w64 (of_z w64 p) +ℤ to_z w64 (of_z w64 z))) ≡ p +ℤ z = omega (arith, ints) in
    record { fits = omega (arith, ints); is = omega (arith, ints); small = (omega (arith, ints), omega (arith, ints)) }

-- a sum of at most 96 terms, as a term
pub summed_term : (f : ℕ → ℤ) (size i n : ℕ) (z : ℤ) → i ≡ n → n ≤ 96 → Summed f size i z → Term (λ j. sum_to j f) (96 * size) n z
summed_term f size i n z e few s =
    record { is = s.is ∙ ap (λ (j : ℕ). sum_to j f) e; small = wider (i * size) (96 * size) z (mul-le-mul_right size (omega arith)) s.small }

-- minus a number as the code has it
pub negated : (x y : ℤ) (size : ℕ) → size < 2 ^ 63 → x ≡ y → Within size x → to_z w64 (of_z w64 (pos 0 -ℤ to_z w64 (of_z w64 x))) ≡ neg_ℤ y
negated x y size l e w = let u : to_z w64 (of_z w64 x) ≡ x = omega (arith, ints) in omega (arith, ints)
