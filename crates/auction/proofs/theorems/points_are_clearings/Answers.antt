use Rattle.auction.proofs.theorems.points_are_clearings.Goals as goal
use Rattle.auction.proofs.Points.{clearing, keeps_orders}
use Rattle.auction.proofs.Clearings.{point}
use Rattle.auction.proofs.Worth.{objective_is}

pub returns : goal.returns
returns c = λ m good D some X. (
  (λ pt. (clearing m good D some X pt, keeps_orders m good D some X pt)),
  (λ both. point m good D some X both.0 both.1),
  objective_is m good X,
)
