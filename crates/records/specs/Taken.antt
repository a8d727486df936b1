-- What the steps of reading a record promise.
use Rattle.std.specs.Prelude.{◌≡◌, ℕ, ◌<◌, ◌≤◌, true, false, cond, List, length, take, drop, ℤ, Some, None, Ok, Err, Option, Result, nat_lt}
use Rattle.records.specs.declared.Fault.{Fault}
use Rattle.records.specs.declared.Fault.TheVariants.{CutShort, ZeroField}
use Rattle.records.specs.declared.Kind.{Kind}
use Rattle.records.specs.declared.Record.{Record}
use Rattle.records.specs.Bytes.{value, width}
use Rattle.records.specs.Read.{is_zero, has_zero, read, content}
use Rattle.records.specs.Write.{Spelt}

-- the first n bytes are taken off the front, unless there are fewer: `left` is what stays
abbrev pub Cuts : ℕ → List ℕ → Option (List ℕ) → List ℕ → Type 0
Cuts n bs (Some first) left = (n ≤ length bs) × (first ≡ take n bs) × (left ≡ drop n bs)
Cuts n bs None left = (length bs < n) × (left ≡ bs)

-- a number of w bytes is taken off the front, unless there are fewer bytes
abbrev pub Begins : ℕ → (List ℕ → ℤ) → List ℕ → Option ℤ → List ℕ → Type 0
Begins w number bs (Some z) left = (w ≤ length bs) × (z ≡ number bs) × (left ≡ drop w bs)
Begins w number bs None left = (length bs < w) × (left ≡ bs)

-- a field is taken off the front, unless its bytes are not there or it is 0
abbrev pub Takes : ℕ → List ℕ → Result ℤ Fault → List ℕ → Type 0
Takes kind bs (Ok z) left = (width kind ≤ length bs) × (z ≡ value kind bs) × (is_zero (value kind bs) ≡ false) × (left ≡ drop (width kind) bs)
Takes kind bs (Err e) left = (is_zero (value kind bs) ≡ true) × (e ≡ cond (nat_lt (length bs) (width kind)) CutShort ZeroField)

-- none of these fields is 0
abbrev pub Passes : {A : Type 0} → List ℤ → Result A Fault → Type 0
Passes zs (Ok a) = has_zero zs ≡ false
Passes zs (Err e) = (has_zero zs ≡ true) × (e ≡ ZeroField)

-- what the bytes begin with, as a record that stands at this place
abbrev pub Head : List Kind → ℕ → List ℕ → Result Record Fault → Type 0
Head kinds place bs (Ok r) = (read kinds bs ≡ Ok (content r)) × (r.place ≡ place) × Spelt kinds bs (content r)
Head kinds place bs (Err e) = read kinds bs ≡ Err e
