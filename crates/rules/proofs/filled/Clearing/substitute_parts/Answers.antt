use Rattle.std.proofs.Common.{rules, arith}
use Rattle.rules.specs.Clearings.{substitute_part}
use Rattle.rules.specs.Views.{market_of, parts_of}
use Rattle.rules.proofs.filled.Clearing.substitute_parts.Goals as goal

pub sum_of-requires-clause-fits : goal.sum_of-requires-clause-fits
sum_of-requires-clause-fits c =
    let few = c.extra_count.ensures.few in
    (substitute_part (market_of c.args.self.now) (parts_of c.args.self.now) c.args.b, 10000, omega arith, λ k z l h. search rules)

pub returns : goal.returns
returns c =
    let said = c.sum_of.ensures (substitute_part (market_of c.args.self.now) (parts_of c.args.self.now) c.args.b) 10000 (λ k z l h. search rules) in
    search rules
