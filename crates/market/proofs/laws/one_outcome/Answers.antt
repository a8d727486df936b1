use Rattle.market.proofs.Outcomes.{one_outcome}
use Rattle.market.proofs.laws.one_outcome.Goals as goal

pub returns : goal.returns
returns c = one_outcome
