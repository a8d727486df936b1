use Rattle.std.proofs.Common.{rules, arith}
use Rattle.rules.specs.Prices.{basket_extra}
use Rattle.rules.specs.Views.{market_of, parts_of, prices_of}
use Rattle.rules.proofs.filled.Clearing.basket_extras.Goals as goal

pub sum_of-requires-clause-fits : goal.sum_of-requires-clause-fits
sum_of-requires-clause-fits c =
    let few = c.extra_count.ensures.few in
    (basket_extra (market_of c.args.self.now) (parts_of c.args.self.now) 1 (prices_of c.args.self.now) c.args.b, 11987880120000, omega arith, λ k z l h. search rules)

pub returns : goal.returns
returns c =
    let said = c.sum_of.ensures (basket_extra (market_of c.args.self.now) (parts_of c.args.self.now) 1 (prices_of c.args.self.now) c.args.b) 11987880120000 (λ k z l h. search rules) in
    search rules
