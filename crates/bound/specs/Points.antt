-- The points that a table allows, and what it is to bound them.
use Rattle.std.specs.Prelude.{◌≡◌, ℕ, ◌<◌, ◌≤◌, true, ℤ, pos, ◌*ℤ◌, ◌≤ℤ◌}
use Rattle.numbers.specs.Sums.{sum_to}
use Rattle.bound.specs.Tables.{Table}

-- the sum of coefficient × X over the variables, in the row r
abbrev pub row_at : Table → ℕ → (ℕ → ℤ) → ℤ
row_at t r X = sum_to t.variables (λ v. t.coefficient r v *ℤ X v)

-- the sum of objective number × X over the variables
abbrev pub objective_at : Table → (ℕ → ℤ) → ℤ
objective_at t X = sum_to t.variables (λ v. t.objective v *ℤ X v)

-- X is a point over D: low × D ≤ X ≤ high × D at each variable, a multiple of D where it is marked whole,
-- and each row's sum is at most its right side × D
pub record Point (t : Table) (D : ℕ) (X : ℕ → ℤ) : Type 0 where
  pub from : (v : ℕ) → v < t.variables → (t.low v *ℤ pos D) ≤ℤ X v
  pub to : (v : ℕ) → v < t.variables → X v ≤ℤ (t.high v *ℤ pos D)
  pub whole : (v : ℕ) → v < t.variables → t.whole v ≡ true → (k : ℤ) × (X v ≡ k *ℤ pos D)
  pub under : (r : ℕ) → r < t.rows → row_at t r X ≤ℤ (t.side r *ℤ pos D)

-- every point over any D has scale × objective at most b × D
abbrev pub Bounds : Table → ℤ → Type 0
Bounds t b = (D : ℕ) (X : ℕ → ℤ) → 1 ≤ D → Point t D X → (t.scale *ℤ objective_at t X) ≤ℤ (b *ℤ pos D)
