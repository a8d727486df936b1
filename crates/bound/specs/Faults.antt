-- The number and the layer of each fault.
use Rattle.std.specs.Prelude.{ℕ, List, ◌++◌, codes, decimal}
use Rattle.records.specs.Faults.{Code, code as record_code}
use Rattle.records.specs.declared.Refusal.{Refusal as RecordRefusal}
use Rattle.bound.specs.declared.faults.Fault.{Fault}
use Rattle.bound.specs.declared.faults.Fault.TheVariants.{Record, OutsideLimits, Absent, NotRising, SplitBarred, TooDeep, NotOneTree, TooLarge}
use Rattle.bound.specs.declared.faults.Refusal.{Refusal}

-- those of the records keep theirs
abbrev pub code : Fault → Code
code (Record f) = record_code f
code OutsideLimits = record { number = 6; layer = 2 }
code Absent = record { number = 7; layer = 2 }
code NotRising = record { number = 11; layer = 2 }
code SplitBarred = record { number = 22; layer = 4 }
code TooDeep = record { number = 23; layer = 4 }
code NotOneTree = record { number = 24; layer = 4 }
code TooLarge = record { number = 25; layer = 4 }

-- a refusal of the records, carried up unaltered
abbrev pub from_records : RecordRefusal → Refusal
from_records e = record { fault = Record e.fault; place = e.place }

-- a refusal as it is printed: the fault's number, and the place
abbrev pub refusal_text : Refusal → List ℕ
refusal_text e = decimal (code e.fault).number ++ (codes " at " ++ decimal e.place)
