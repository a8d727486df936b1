-- What each refusal is called: its number, and the layer that it belongs to.
use Rattle.std.specs.Prelude.{ℕ, List, ◌++◌, codes, decimal}
use Rattle.records.specs.Faults as records
use Rattle.records.specs.Faults.{Code}
use Rattle.records.specs.declared.Refusal as below
use Rattle.rules.specs.Faults as rules
use Rattle.rules.specs.declared.faults.Breach.{Breach}
use Rattle.clearing.specs.declared.faults.Fault.{Fault}
use Rattle.clearing.specs.declared.faults.Fault.TheVariants.{Record, NotRising, OutsideLimits, Absent, Broken, ScratchTooShort}
use Rattle.clearing.specs.declared.faults.Refusal.{Refusal}

abbrev pub code : Fault → Code
code (Record f) = records.code f
code NotRising = record { number = 11; layer = 2 }
code OutsideLimits = record { number = 6; layer = 2 }
code Absent = record { number = 7; layer = 2 }
code (Broken rule) = rules.code rule
code ScratchTooShort = record { number = 26; layer = 5 }

-- a refusal of the records below keeps its fault and its place
abbrev pub from_records : below.Refusal → Refusal
from_records e = record { fault = Record e.fault; place = e.place }

-- a broken rule is refused where it is broken
abbrev pub from_rules : Breach → Refusal
from_rules breach = record { fault = Broken breach.rule; place = breach.place }

-- how a refusal reads: its number, its layer and its place
abbrev pub refusal_text : Refusal → List ℕ
refusal_text r = decimal (code r.fault).number ++ (codes " (layer " ++ (decimal (code r.fault).layer ++ (codes ") at " ++ decimal r.place)))
