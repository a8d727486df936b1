use Rattle.std.proofs.Common.{rules}
use Rattle.rules.specs.Broken.{UnitTwice}
use Rattle.rules.specs.Views.{market_of, parts_of}
use Rattle.rules.proofs.Places.{lowest_of}
use Rattle.rules.proofs.filled.Clearing.unit_twice.Goals as goal

pub returns : goal.returns
returns c = lowest_of 64 _ (UnitTwice (market_of c.args.self.now) (parts_of c.args.self.now)) _ _ c.lowest_basket.ensures (λ k b l h. search rules)
