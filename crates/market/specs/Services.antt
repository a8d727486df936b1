-- What each service is: its number in a file, how many products it has, and the least price of an order for it.
use Rattle.std.specs.Prelude.{◌≡◌, ℕ, cond, List, ℤ, pos, negsuc, Ok, Err, Result, ◌==◌, codes}
use Rattle.market.specs.declared.entries.Service.{Service}
use Rattle.market.specs.declared.entries.Service.TheVariants.{Response, Balancing, Quick, Slow}
use Rattle.market.specs.declared.faults.Fault.{Fault}
use Rattle.market.specs.declared.faults.Fault.TheVariants.{OutsideLimits}

pub record Terms : Type 0 where
  pub number : ℕ
  pub products : ℕ
  pub floor : ℤ

abbrev pub terms : Service → Terms
terms Response = record { number = 1; products = 6; floor = negsuc 99998 }
terms Balancing = record { number = 2; products = 2; floor = pos 0 }
terms Quick = record { number = 3; products = 2; floor = pos 0 }
terms Slow = record { number = 4; products = 2; floor = pos 0 }

-- The service that has a number, the last for a number of none
abbrev pub service_of : ℕ → Service
service_of n = cond (n == (terms Response).number) Response (cond (n == (terms Balancing).number) Balancing (cond (n == (terms Quick).number) Quick Slow))

-- A number is that of a service, or of none.
abbrev pub HasNumber : ℕ → Result Service Fault → Type 0
HasNumber n (Ok s) = (terms s).number ≡ n
HasNumber n (Err f) = (f ≡ OutsideLimits) × ((s : Service) → (terms s).number ≡ n → ⊥)

-- What each service is called.
abbrev pub name : Service → List ℕ
name Response = codes "Response"
name Balancing = codes "Balancing Reserve"
name Quick = codes "Quick Reserve"
name Slow = codes "Slow Reserve"
