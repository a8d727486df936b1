-- A linear problem as tables of whole numbers: what a programme's answers mean.
use Rattle.std.specs.Prelude.{◌≡◌, ℕ, ◌≤◌, Bool, false, ℤ, pos, ◌≤ℤ◌, unsigned_abs}

-- 10^18, the greatest magnitude of a number that is asked for, or computed with
abbrev pub most : ℕ
most = 1000000000000000000

-- z is from -10^18 to 10^18
abbrev pub Small : ℤ → Type 0
Small z = unsigned_abs z ≤ most

-- the limits, the whole mark and the objective number of each variable; the coefficients and the right side of each row
pub record Table : Type 0 where
  pub scale : ℤ
  pub variables : ℕ
  pub rows : ℕ
  pub low : ℕ → ℤ
  pub high : ℕ → ℤ
  pub whole : ℕ → Bool
  pub objective : ℕ → ℤ
  pub coefficient : ℕ → ℕ → ℤ
  pub side : ℕ → ℤ

-- what every programme's table keeps
pub record Lawful (t : Table) : Type 0 where
  pub scale_least : pos 1 ≤ℤ t.scale
  pub scale_most : t.scale ≤ℤ pos 10000
  pub some_variable : 1 ≤ t.variables
  pub few_variables : t.variables ≤ 256
  pub few_rows : t.rows ≤ 1024
  pub ordered : (v : ℕ) → t.low v ≤ℤ t.high v
  pub small_low : (v : ℕ) → Small (t.low v)
  pub small_high : (v : ℕ) → Small (t.high v)
  pub small_objective : (v : ℕ) → Small (t.objective v)
  pub small_coefficient : (r v : ℕ) → Small (t.coefficient r v)
  pub small_side : (r : ℕ) → Small (t.side r)
  -- beyond the counts every number is 0, and nothing is marked
  pub past_low : (v : ℕ) → t.variables ≤ v → t.low v ≡ pos 0
  pub past_high : (v : ℕ) → t.variables ≤ v → t.high v ≡ pos 0
  pub past_whole : (v : ℕ) → t.variables ≤ v → t.whole v ≡ false
  pub past_objective : (v : ℕ) → t.variables ≤ v → t.objective v ≡ pos 0
  pub past_variable : (r v : ℕ) → t.variables ≤ v → t.coefficient r v ≡ pos 0
  pub past_row : (r v : ℕ) → t.rows ≤ r → t.coefficient r v ≡ pos 0
  pub past_side : (r : ℕ) → t.rows ≤ r → t.side r ≡ pos 0
