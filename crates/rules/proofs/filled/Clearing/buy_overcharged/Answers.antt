use Rattle.std.proofs.Common.{rules}
use Rattle.rules.specs.Broken.{BuyOvercharged}
use Rattle.rules.specs.Views.{market_of, parts_of, prices_of}
use Rattle.rules.proofs.Places.{lowest_own}
use Rattle.rules.proofs.filled.Clearing.buy_overcharged.Goals as goal

pub returns : goal.returns
returns c = rw (← c.buy_count.ensures.is) (lowest_own _ (BuyOvercharged (market_of c.args.self.now) (parts_of c.args.self.now) (prices_of c.args.self.now)) _ _ c.lowest_passing.ensures (λ k b l h. search rules))
