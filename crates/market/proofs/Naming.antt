-- A service and its number.
use Rattle.std.proofs.Common.{◌≡◌, ℕ, zero, suc, ◌+◌, false, ◌&&◌, nat_le, ℤ, pos, negsuc, Ok, Err, List, Result, sym, refl, ap, subst, arith}
use Rattle.std.proofs.lemmas.Bool.Decides.{nat_tests}
use Rattle.std.specs.Result.{result_unwrap_or}
use Rattle.market.specs.declared.entries.Service.{Service}
use Rattle.market.specs.declared.entries.Service.TheVariants.{Response, Balancing, Quick, Slow}
use Rattle.market.specs.declared.faults.Fault.{Fault}
use Rattle.market.specs.declared.faults.Fault.TheVariants.{OutsideLimits}
use Rattle.market.specs.Lines.{between}
use Rattle.market.specs.Reading.{byte_of, field, limited, window_of, read_window}
use Rattle.market.specs.Services.{terms, service_of, HasNumber}

-- the service with a service's number is that service
pub service_back : (s : Service) → service_of (terms s).number ≡ s
service_back Response = refl
service_back Balancing = refl
service_back Quick = refl
service_back Slow = refl

pub numbered : (n : ℕ) (r : Result Service Fault) → HasNumber n r → result_unwrap_or r Slow ≡ service_of n
numbered n (Ok s) h = subst (λ k. s ≡ service_of k) h (sym (service_back s))
numbered zero (Err f) h = refl
numbered (suc zero) (Err f) h = absurd (h.1 Response refl)
numbered (suc (suc zero)) (Err f) h = absurd (h.1 Balancing refl)
numbered (suc (suc (suc zero))) (Err f) h = absurd (h.1 Quick refl)
numbered (suc (suc (suc (suc n)))) (Err f) h = grind (arith, nat_tests)

-- a number of no service is not from 1 to 4
pub unnumbered : (z : ℤ) → ((s : Service) → (terms s).number ≡ byte_of z → ⊥) → between (pos 1) (pos 4) z ≡ false
unnumbered (pos zero) h = refl
unnumbered (pos (suc zero)) h = absurd (h Response refl)
unnumbered (pos (suc (suc zero))) h = absurd (h Balancing refl)
unnumbered (pos (suc (suc (suc zero)))) h = absurd (h Quick refl)
unnumbered (pos (suc (suc (suc (suc zero))))) h = absurd (h Slow refl)
unnumbered (pos (suc (suc (suc (suc (suc n)))))) h = grind (arith, nat_tests)
unnumbered (negsuc n) h = refl

pub no_window_read : (zs : List ℤ) → ((s : Service) → (terms s).number ≡ byte_of (field zs 0) → ⊥) → read_window zs ≡ Err OutsideLimits
no_window_read zs h = ap (λ b. limited (b && (between (pos 0) (pos 49) (field zs 1) && (between (pos 1) (pos 50) (field zs 2) && nat_le (byte_of (field zs 1) + byte_of (field zs 2)) 50))) (window_of zs)) (unnumbered (field zs 0) h)
