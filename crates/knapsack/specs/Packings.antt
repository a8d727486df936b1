-- A packing takes some of the things.
use Rattle.std.specs.Prelude.{ℕ, Bool, false, cond, List, ℤ, pos, ◌*ℤ◌, ◌≤ℤ◌, slice_index_or}
use Rattle.numbers.specs.Sums.{sum_to}
use Rattle.knapsack.specs.Items.{item_at}

-- 1 where the thing is taken, and 0 where it is not
abbrev pub part : List Bool → ℕ → ℤ
part taken v = cond (slice_index_or taken v false) (pos 1) (pos 0)

abbrev pub worth_of : List Bool → ℤ
worth_of taken = sum_to 4 (λ v. (item_at v).value *ℤ part taken v)

abbrev pub load_of : List Bool → ℤ
load_of taken = sum_to 4 (λ v. (item_at v).size *ℤ part taken v)

-- it fits into a bag of capacity 10
abbrev pub Fits : List Bool → Type 0
Fits taken = load_of taken ≤ℤ pos 10

-- no packing that fits is worth more than b, in tenths
abbrev pub Caps : ℤ → Type 0
Caps b = (taken : List Bool) → Fits taken → (pos 10 *ℤ worth_of taken) ≤ℤ b
