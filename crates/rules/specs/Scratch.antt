-- What a scratch of 448 numbers says of a clearing: parts at their variable, prices at 256 + line.
use Rattle.std.specs.Prelude.{ℕ, ◌+◌, ◌<◌, ◌≤◌, List, length, ℤ, pos, slice_index_or}
use Rattle.numbers.specs.Sums.{Within}
use Rattle.rules.specs.Clearings.{Parts}

abbrev pub parts_in : List ℤ → ℕ → ℤ
parts_in s v = slice_index_or s v (pos 0)

abbrev pub prices_in : List ℤ → ℕ → ℤ
prices_in s l = slice_index_or s (256 + l) (pos 0)

-- Parts from 0 to 10,000 and prices from -99,999 to 99,999.
pub record Filled (s : List ℤ) : Type 0 where
  pub long : 448 ≤ length s
  pub parts : (v : ℕ) → v < 256 → Parts 10000 (parts_in s v)
  pub prices : (l : ℕ) → l < 192 → Within 99999 (prices_in s l)
