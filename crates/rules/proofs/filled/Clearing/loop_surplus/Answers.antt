use Rattle.std.proofs.Common.{rules, arith}
use Rattle.rules.specs.Prices.{loop_basket}
use Rattle.rules.specs.Views.{market_of, parts_of, prices_of}
use Rattle.rules.proofs.filled.Clearing.loop_surplus.Goals as goal

pub sum_of-requires-clause-fits : goal.sum_of-requires-clause-fits
sum_of-requires-clause-fits c =
    let few = c.basket_count.ensures.few in
    (loop_basket (market_of c.args.self.now) (parts_of c.args.self.now) 1 (prices_of c.args.self.now) c.args.ring, 1162824371640000, omega arith, λ k z l h. search rules)

pub returns : goal.returns
returns c =
    let said = c.sum_of.ensures (loop_basket (market_of c.args.self.now) (parts_of c.args.self.now) 1 (prices_of c.args.self.now) c.args.ring) 1162824371640000 (λ k z l h. search rules) in
    search rules
