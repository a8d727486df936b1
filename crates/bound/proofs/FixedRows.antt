-- The first variables of any row, held over a table: lawful where the row is small.
use Rattle.std.proofs.Common.{ℕ, List, take}
use Rattle.std.proofs.ByRecursion.{All-take, All-from_get_or}
use Rattle.bound.specs.declared.fixing.Held.{Held}
use Rattle.bound.specs.Tables.{Table, Lawful}
use Rattle.bound.specs.Layers.{SmallHeld, SmallRow, none_held, fixed, fixed_lawful}

abbrev pub fixed_first : Table → ℕ → List Held → Table
fixed_first t count row = fixed t (take count row)

pub fixed_first_lawful : (t : Table) (count : ℕ) (row : List Held) → Lawful t → SmallRow row → Lawful (fixed_first t count row)
fixed_first_lawful t count row l small =
    fixed_lawful t (take count row) l (All-take SmallHeld count row (All-from_get_or SmallHeld row none_held (λ k h. small k)))
