use Rattle.bound.proofs.Whole.{every_pile}
use Rattle.bound.proofs.checks.every_pile_is_bounded.Goals as goal

pub returns : goal.returns
returns c = every_pile
