-- What each fault is called: its number, and the layer that it belongs to.
use Rattle.std.specs.Prelude.{ℕ, List, ◌++◌, codes, decimal}
use Rattle.records.specs.declared.Fault.{Fault}
use Rattle.records.specs.declared.Fault.TheVariants.{TooLong, CutShort, UnknownKind, BitBeyond, ZeroField}
use Rattle.records.specs.declared.Refusal.{Refusal}

-- what any refusal, here or in a crate above, is known by
pub record Code : Type 0 where
  pub number : ℕ
  pub layer : ℕ

abbrev pub code : Fault → Code
code TooLong = record { number = 1; layer = 1 }
code CutShort = record { number = 2; layer = 1 }
code UnknownKind = record { number = 3; layer = 1 }
code BitBeyond = record { number = 4; layer = 1 }
code ZeroField = record { number = 5; layer = 1 }

-- a refusal as text: the number of its fault, and the place
abbrev pub refusal_text : Refusal → List ℕ
refusal_text r = decimal (code r.fault).number ++ (codes " at " ++ decimal r.place)
