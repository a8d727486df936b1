use Rattle.std.proofs.Common.{rules, arith}
use Rattle.rules.specs.Clearings.{bought_by}
use Rattle.rules.specs.Views.{market_of, parts_of}
use Rattle.rules.proofs.filled.Clearing.bought.Goals as goal

pub sum_of-requires-clause-fits : goal.sum_of-requires-clause-fits
sum_of-requires-clause-fits c =
    let few = c.buy_count.ensures.few in
    (bought_by (market_of c.args.self.now) (parts_of c.args.self.now) c.args.w c.args.p, 99990000, omega arith, λ k z l h. search rules)

pub returns : goal.returns
returns c =
    let said = c.sum_of.ensures (bought_by (market_of c.args.self.now) (parts_of c.args.self.now) c.args.w c.args.p) 99990000 (λ k z l h. search rules) in
    search rules
