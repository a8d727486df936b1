use Rattle.auction.proofs.theorems.costs_stay_above.Goals as goal
use Rattle.auction.proofs.Gaps.{costs_above}

pub returns : goal.returns
returns c = costs_above
