-- The steps of a tree file: what its records say, one by one.
use Rattle.std.specs.Prelude.{ℕ, ◌+◌, cond, List, [], ◌∷◌, length, drop, pos, Ok, Err, Result, ◌==◌, nat_le, slice_index_or}
use Rattle.records.specs.Read.{Content, read}
use Rattle.records.specs.declared.Fault.{Fault as RecordFault}
use Rattle.records.specs.declared.Kind.{Kind}
use Rattle.bound.specs.declared.faults.Fault.{Fault}
use Rattle.bound.specs.declared.faults.Fault.TheVariants.{Record, NotOneTree}
use Rattle.bound.specs.declared.faults.Refusal.{Refusal}
use Rattle.bound.specs.declared.reader.Step.{Step}
use Rattle.bound.specs.declared.reader.Step.TheVariants.{Split, Row, Close}

-- the kinds of record of a tree file, each with how many fields it has: a split's variable; a row and its weight; the close of a leaf
abbrev pub tree_kinds : List Kind
tree_kinds = record { number = 8; fields = 1 } ∷ record { number = 9; fields = 2 } ∷ record { number = 10; fields = 0 } ∷ []

-- the fault f at the place p
abbrev pub refuse : {A : Type 0} → Fault → ℕ → Result A Refusal
refuse f p = Err (record { fault = f; place = p })

-- the second after the first, unless that is refused
abbrev pub and_then : {A B : Type 0} → Result A Refusal → (A → Result B Refusal) → Result B Refusal
and_then (Ok x) f = f x
and_then (Err e) f = Err e

-- what a record says, by its kind
abbrev pub step_of : Content → Step
step_of c = cond (8 == c.kind) (Split (slice_index_or c.fields 0 (pos 0))) (cond (9 == c.kind) (Row (slice_index_or c.fields 0 (pos 0)) (slice_index_or c.fields 1 (pos 0))) Close)

-- a record's step, and the place after it
abbrev pub stepped : ℕ → Result Content RecordFault → Result (Step × ℕ) Refusal
stepped p (Ok c) = Ok (step_of c, p + c.size)
stepped p (Err f) = refuse (Record f) p

-- the step at the place p and the place after it; where no byte is left, the tree is unfinished, at the file's length
unfoldable pub step_at : List ℕ → ℕ → Result (Step × ℕ) Refusal
step_at file p = cond (nat_le (length file) p) (refuse NotOneTree (length file)) (stepped p (read tree_kinds (drop p file)))
