use Rattle.std.proofs.Common.{rules}
use Rattle.rules.specs.Broken.{BasketLoses}
use Rattle.rules.specs.Views.{market_of, parts_of, prices_of}
use Rattle.rules.proofs.Places.{lowest_of}
use Rattle.rules.proofs.filled.Clearing.basket_loses.Goals as goal

pub returns : goal.returns
returns c = lowest_of 64 _ (BasketLoses (market_of c.args.self.now) (parts_of c.args.self.now) (prices_of c.args.self.now)) _ _ c.lowest_basket.ensures (λ k b l h. search rules)
