-- The lowest of some numbered things that has a property, and whether one has it.
use Rattle.std.specs.Prelude.{◌≡◌, ℕ, zero, suc, ◌+◌, ◌<◌, Bool, true, false, cond, ◌||◌, Some, None, Option, nat_lt}

-- one of the numbers below n passes the test
unfoldable pub any_to : ℕ → (ℕ → Bool) → Bool
any_to zero f = false
any_to (suc n) f = f n || any_to n f

-- the least number below n that passes the test, or n
unfoldable pub least : (ℕ → Bool) → ℕ → ℕ
least p zero = zero
least p (suc n) = cond (nat_lt (least p n) n) (least p n) (cond (p n) n (suc n))

-- v is the place of a thing k, of n that are placed from `from` on, that has the property P
abbrev pub Among : ℕ → ℕ → (ℕ → Type 0) → ℕ → Type 0
Among from n P v = (k : ℕ) × (k < n) × (v ≡ from + k) × P k

-- the lowest place with the property P, or none where no place has it
abbrev pub Lowest : (ℕ → Type 0) → Option ℕ → Type 0
Lowest P None = (v : ℕ) → P v → ⊥
Lowest P (Some v) = P v × ((w : ℕ) → w < v → P w → ⊥)

-- no number below n has the property P
abbrev pub Passed : (ℕ → Type 0) → ℕ → Type 0
Passed P n = (k : ℕ) → k < n → P k → ⊥

-- The lowest number below n that passes a test, told by what the test answers: it fails at each where none is found, else
-- it passes there and fails at each one below.
pub record Found (answers : ℕ → Bool → Type 0) (n : ℕ) (found : Option ℕ) : Type 0 where
  pub none : found ≡ None → (k : ℕ) → k < n → answers k false
  pub within : (v : ℕ) → found ≡ Some v → v < n
  pub passes : (v : ℕ) → found ≡ Some v → answers v true
  pub fails_below : (v k : ℕ) → found ≡ Some v → k < v → answers k false
