-- What a list of calls leaves standing, whatever the calls are: the best of what they offered, and the least of what they put forward.
use Rattle.std.specs.Prelude.{◌≡◌, ℕ, zero, suc, ◌<◌, ◌≤◌, Bool, true, false, List, length, ℤ, ◌≤ℤ◌, Some, None, Option, slice_index_or}

-- h is on offer once j calls are made: at the start the first one, then what the j-th call offers (`none` stands for a call that was not made)
abbrev pub OfferAt : {C H : Type 0} → C → H → (C → H → Type 0) → List C → ℕ → H → Type 0
OfferAt none start offers past zero h = h ≡ start
OfferAt none start offers past (suc j) h = offers (slice_index_or past j none) h

-- h, which came with the k-th call, is better than every one before it, and none after it is better
pub record Best {C H : Type 0} (none : C) (start : H) (offers : C → H → Type 0) (better : H → H → Bool) (past : List C) (h : H) (k : ℕ) : Type 0 where
  pub made : k ≤ length past
  pub offered : OfferAt none start offers past k h
  pub first : (j : ℕ) (g : H) → j < k → OfferAt none start offers past j g → better h g ≡ true
  pub best : (j : ℕ) (g : H) → k < j → j ≤ length past → OfferAt none start offers past j g → better g h ≡ false

-- one of the calls from the k-th on put x forward
pub record Given {C : Type 0} (none : C) (f : C → Option ℤ) (past : List C) (k : ℕ) (x : ℤ) : Type 0 where
  pub place : ℕ
  pub since : k ≤ place
  pub within : place < length past
  pub put : f (slice_index_or past place none) ≡ Some x

-- o is the least of what was put forward since the k-th call, or nothing where nothing was
pub record Least {C : Type 0} (none : C) (f : C → Option ℤ) (past : List C) (k : ℕ) (o : Option ℤ) : Type 0 where
  pub nothing : o ≡ None → (x : ℤ) → Given none f past k x → ⊥
  pub some : (b : ℤ) → o ≡ Some b → Given none f past k b
  pub least : (b : ℤ) → o ≡ Some b → (x : ℤ) → Given none f past k x → b ≤ℤ x

-- a better one ranks above all that the other ranks above, and above all that do not rank above the other
pub record Ranks {H : Type 0} (better : H → H → Bool) : Type 0 where
  pub over : (g h f : H) → better g h ≡ true → better h f ≡ true → better g f ≡ true
  pub through : (g h f : H) → better g h ≡ true → better f h ≡ false → better g f ≡ true
