-- What each refusal is called: its number, and the layer that it belongs to.
use Rattle.records.specs.Faults.{Code}
use Rattle.clearing.specs.Faults as clearing
use Rattle.clearing.specs.declared.faults.Refusal as cleared
use Rattle.bound.specs.Faults as bound
use Rattle.bound.specs.declared.faults.Refusal as bounded
use Rattle.console.specs.declared.faults.Fault.{Fault}
use Rattle.console.specs.declared.faults.Fault.TheVariants.{Clearing, Tree, BufferTooShort}
use Rattle.console.specs.declared.faults.Refusal.{Refusal}

abbrev pub code : Fault → Code
code (Clearing f) = clearing.code f
code (Tree f) = bound.code f
code BufferTooShort = record { number = 26; layer = 5 }

-- refusals from below keep their fault and their place
abbrev pub from_clearing : cleared.Refusal → Refusal
from_clearing e = record { fault = Clearing e.fault; place = e.place }

abbrev pub from_bound : bounded.Refusal → Refusal
from_bound e = record { fault = Tree e.fault; place = e.place }
