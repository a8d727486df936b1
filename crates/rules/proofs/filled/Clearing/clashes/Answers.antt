use Rattle.std.proofs.Common.{rules}
use Rattle.rules.specs.Broken.{Clash}
use Rattle.rules.specs.Views.{market_of, parts_of}
use Rattle.rules.proofs.Places.{found_any}
use Rattle.rules.proofs.filled.Clearing.clashes.Goals as goal

pub returns : goal.returns
returns c = rw (← c.basket_count.ensures.is)
    (found_any _ (Clash (market_of c.args.self.now) (parts_of c.args.self.now) c.args.b) _ c.lowest_passing.result c.is_some.result c.lowest_passing.ensures (λ k b l h. search rules) (λ e. search rules) (λ v e. search rules))
