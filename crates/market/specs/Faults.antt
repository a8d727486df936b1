-- What each fault is called: its number, and the layer that it belongs to.
use Rattle.std.specs.Prelude.{ℕ, List, ◌++◌, codes, decimal}
use Rattle.records.specs.Faults.{Code, code as record_code}
use Rattle.market.specs.declared.faults.Fault.{Fault}
use Rattle.market.specs.declared.faults.Fault.TheVariants.{Record, OutsideLimits, Absent, TableFull, WindowOverlaps, LoopBroken}
use Rattle.market.specs.declared.faults.Refusal.{Refusal}

abbrev pub code : Fault → Code
code (Record f) = record_code f
code OutsideLimits = record { number = 6; layer = 2 }
code Absent = record { number = 7; layer = 2 }
code TableFull = record { number = 8; layer = 2 }
code WindowOverlaps = record { number = 9; layer = 2 }
code LoopBroken = record { number = 10; layer = 2 }

-- What a refusal is in print: the number of its fault, and its place.
abbrev pub refusal_text : Refusal → List ℕ
refusal_text r = decimal (code r.fault).number ++ (codes " at " ++ decimal r.place)
