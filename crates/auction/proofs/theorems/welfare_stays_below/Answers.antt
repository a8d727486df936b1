use Rattle.auction.proofs.theorems.welfare_stays_below.Goals as goal
use Rattle.auction.proofs.Gaps.{welfare_below}

pub returns : goal.returns
returns c = welfare_below
