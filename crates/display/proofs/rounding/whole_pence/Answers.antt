use Rattle.std.proofs.Common.{◌≡◌, ℕ, ◌/◌, ◌%◌, ◌+◌, ◌*◌, ◌<◌, max, min, mul_comm, arith}
use Rattle.std.proofs.lemmas.Grind.{div_ceil_times}
use Rattle.display.specs.Rounding.{RoundedUp}
use Rattle.display.proofs.rounding.whole_pence.Goals as goal

rounded : (parts amount n : ℕ) → 0 < parts → n ≡ amount / parts + min 1 (amount % parts) → RoundedUp parts amount n
rounded parts amount n h e =
    let t = div_ceil_times amount parts h in
    let m = mul_comm parts n in
    let f : n * parts ≡ (amount / parts + min 1 (amount % parts)) * parts = cc in
    record { covers = omega arith; least = omega arith }

pub returns : goal.returns
returns c = let p : c.from-parts.result ≡ max c.args.parts 1 = cc in rounded (max c.args.parts 1) c.args.amount c.div_ceil.result (omega arith) (rw (← p) c.div_ceil.ensures)
