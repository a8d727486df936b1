-- Layers piled over a table, and what an accepted tree proves of them.
use Rattle.std.specs.Prelude.{◌≡◌, ℕ, ◌≤◌, List, length, ℤ, Ok}
use Rattle.std.specs.List.{AllByRecursion}
use Rattle.bound.specs.declared.fixing.Held.{Held}
use Rattle.bound.specs.Tables.{Table, Lawful}
use Rattle.bound.specs.Points.{Bounds}
use Rattle.bound.specs.Layers.{SmallHeld, fixed}
use Rattle.bound.specs.Checks.{checked}

-- a table, under any number of layers: a fixing holds some variables, a sheet keeps the limits and marks below
pub data Pile : Type 0 where
  base : Table → Pile
  fixing : List Held → Pile → Pile
  sheet : Pile → Pile

-- what a pile means; a sheet means what is below it
abbrev pub table_of : Pile → Table
table_of (base t) = t
table_of (fixing hs p) = fixed (table_of p) hs
table_of (sheet p) = table_of p

-- the table is lawful, and a fixing holds at most 64 variables at small values
abbrev pub Stands : Pile → Type 0
Stands (base t) = Lawful t
Stands (fixing hs p) = (length hs ≤ 64) × AllByRecursion SmallHeld hs × Stands p
Stands (sheet p) = Stands p

-- over every pile, a file that is accepted bounds every point over any denominator
abbrev pub EveryPileIsBounded : Type 0
EveryPileIsBounded = (p : Pile) → Stands p → (file : List ℕ) (b : ℤ) → checked (table_of p) file ≡ Ok b → Bounds (table_of p) b
