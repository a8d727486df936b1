use Rattle.std.proofs.Common.{rules}
use Rattle.rules.proofs.filled.Clearing.lowest_extra.Goals as goal

pub returns : goal.returns
returns p c = record { found = c.lowest_passing.result; search = rw (← c.extra_count.ensures.is) c.lowest_passing.ensures; is = search rules }
