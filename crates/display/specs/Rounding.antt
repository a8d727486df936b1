-- Rounding up to whole pence.
use Rattle.std.specs.Prelude.{ℕ, ◌+◌, ◌*◌, ◌<◌, ◌≤◌}

-- n is the least whole number that, times `parts`, is not below the amount
pub record RoundedUp (parts amount n : ℕ) : Type 0 where
  pub covers : amount ≤ parts * n
  pub least : parts * n < amount + parts
