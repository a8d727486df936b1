-- What a fixing holds, and over what.
use Rattle.std.specs.Prelude.{◌≡◌, ℕ, ◌<◌, List, length}
use Rattle.bound.specs.declared.fixing.Fixing.{Fixing}
use Rattle.bound.specs.declared.fixing.Held.{Held}
use Rattle.bound.specs.Layers.{place}

module _ {P : Type 0} where
  -- what is held, in the order in which it was first held
  abbrev pub held_of : Fixing P → List Held
  held_of f = f.row.items

  -- how many are held
  abbrev pub count_of : Fixing P → ℕ
  count_of f = length f.row.items

  -- the programme below
  abbrev pub below_of : Fixing P → P
  below_of f = f.below.now

  -- v is one of n variables, it is not held, and there is room to hold it
  abbrev pub Free : ℕ → Fixing P → ℕ → Type 0
  Free n f v = (v < n) × (place v (held_of f) ≡ count_of f) × (count_of f < 64)

  -- the path is as it was
  abbrev pub SamePath : Fixing P → Fixing P → Type 0
  SamePath f g = (held_of g ≡ held_of f) × (count_of g ≡ count_of f) × (below_of g ≡ below_of f)
