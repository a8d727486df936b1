-- What a search over the orders of one kind finds.
use Rattle.std.specs.Prelude.{◌≡◌, ℕ, ◌+◌, Bool, Option, option_map}
use Rattle.numbers.specs.Searches.{Found}

-- The variable of the lowest of n orders that passes a test, or none; order k is the variable from + k.
pub record Placed (from : ℕ) (answers : ℕ → Bool → Type 0) (n : ℕ) (place : Option ℕ) : Type 0 where
  pub found : Option ℕ
  pub search : Found answers n found
  pub is : place ≡ option_map (λ k. from + k) found
