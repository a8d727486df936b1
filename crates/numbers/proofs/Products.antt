-- A product is at most the product of the sizes, in size.
use Rattle.std.proofs.Common.{◌≡◌, ℕ, suc, ◌*◌, ◌^◌, ◌<◌, ◌≤◌, ℤ, pos, negsuc, ◌*ℤ◌, ap₂, mul-le-mul, arith, w64, SFits, to_z, of_z}
use Rattle.std.proofs.lemmas.Int.{ints}
use Rattle.numbers.specs.Sums.{Within}

pub within_times : (m n : ℕ) (a b : ℤ) → Within m a → Within n b → Within (m * n) (a *ℤ b)
within_times m n (pos a) (pos b) p q =
    let h : a * b ≤ m * n = mul-le-mul {n₁ = a} {m₁ = b} {n₂ = m} {m₂ = n} (omega (arith, ints)) (omega (arith, ints)) in (omega (arith, ints), omega (arith, ints))
within_times m n (pos a) (negsuc b) p q =
    let h : a * suc b ≤ m * n = mul-le-mul {n₁ = a} {m₁ = suc b} {n₂ = m} {m₂ = n} (omega (arith, ints)) (omega (arith, ints)) in (omega (arith, ints), omega (arith, ints))
within_times m n (negsuc a) (pos b) p q =
    let h : suc a * b ≤ m * n = mul-le-mul {n₁ = suc a} {m₁ = b} {n₂ = m} {m₂ = n} (omega (arith, ints)) (omega (arith, ints)) in (omega (arith, ints), omega (arith, ints))
within_times m n (negsuc a) (negsuc b) p q =
    let h : suc a * suc b ≤ m * n = mul-le-mul {n₁ = suc a} {m₁ = suc b} {n₂ = m} {m₂ = n} (omega (arith, ints)) (omega (arith, ints)) in (omega (arith, ints), omega (arith, ints))

-- a product in 64 bits, of numbers as the code has them (u, v) and as the rule has them (a, b)
pub record Multiplied (u v a b : ℤ) (size : ℕ) : Type 0 where
  pub fits : SFits w64 (u *ℤ v)
  pub is : to_z w64 (of_z w64 (u *ℤ v)) ≡ a *ℤ b
  pub small : Within size (a *ℤ b)

pub multiplied : (u v a b : ℤ) (m n : ℕ) → u ≡ a → v ≡ b → Within m a → Within n b → m * n < 2 ^ 63 → Multiplied u v a b (m * n)
multiplied u v a b m n p q x y l =
    let w = within_times m n a b x y in
    let e : u *ℤ v ≡ a *ℤ b = ap₂ ◌*ℤ◌ p q in
    record { fits = omega (arith, ints); is = omega (arith, ints); small = w }
