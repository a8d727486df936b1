use Rattle.std.proofs.Common.{rules}
use Rattle.rules.specs.Views.{market_of, parts_of, prices_of}
use Rattle.rules.proofs.Losses.{overcharged_decides}
use Rattle.rules.proofs.filled.Clearing.is_overcharged.Goals as goal

pub returns-then-not-order : goal.returns-then-not-order
returns-then-not-order c = overcharged_decides (market_of c.args.self.now) (parts_of c.args.self.now) (prices_of c.args.self.now) c.args.i c.buy-order.result c.price-price.result _ c.buy-order.ensures.is (search rules) (search rules) (search rules) (search rules)
