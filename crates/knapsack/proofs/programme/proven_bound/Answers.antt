use Rattle.knapsack.proofs.Packed.{caps}
use Rattle.knapsack.proofs.programme.proven_bound.Goals as goal

pub returns : goal.returns
returns c = caps _ c.check.ensures.sound
