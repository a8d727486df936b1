-- Sums of whole numbers, and numbers of a known size.
use Rattle.std.specs.Prelude.{◌≡◌, ℕ, zero, suc, ◌*◌, ℤ, pos, ◌+ℤ◌, neg_ℤ, ◌≤ℤ◌, ◌<◌}

-- f 0 + f 1 + … + f (n - 1)
unfoldable pub sum_to : ℕ → (ℕ → ℤ) → ℤ
sum_to zero f = pos 0
sum_to (suc n) f = sum_to n f +ℤ f n

-- z is from -n to n
abbrev pub Within : ℕ → ℤ → Type 0
Within n z = (neg_ℤ (pos n) ≤ℤ z) × (z ≤ℤ pos n)

-- z is the term f k, and at most `size` in magnitude
pub record Term (f : ℕ → ℤ) (size k : ℕ) (z : ℤ) : Type 0 where
  pub is : z ≡ f k
  pub small : Within size z

-- z is the sum of the first n terms, each at most `size` in magnitude
pub record Summed (f : ℕ → ℤ) (size n : ℕ) (z : ℤ) : Type 0 where
  pub is : z ≡ sum_to n f
  pub small : Within (n * size) z

-- Whatever is answered at a number below n is the term there, at most `size` in magnitude.
abbrev pub Terms : (ℕ → ℤ → Type 0) → (ℕ → ℤ) → ℕ → ℕ → Type 0
Terms answers f size n = (k : ℕ) (z : ℤ) → k < n → answers k z → Term f size k z
