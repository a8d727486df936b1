use Rattle.auction.proofs.theorems.points_are_price_lists.Goals as goal
use Rattle.auction.proofs.PriceLists.{price_list, keeps_prices, price_point}
use Rattle.auction.proofs.Costs.{price_objective}

pub returns : goal.returns
returns c = λ m good X D Y. (
  (λ pt. (price_list m good X D Y pt, keeps_prices m good X D Y pt)),
  (λ both. price_point m good X D Y both.0 both.1),
  price_objective m good X Y,
)
