use Rattle.std.proofs.Common.{rules, arith}
use Rattle.rules.specs.Clearings.{product_worth}
use Rattle.rules.proofs.sales.Sale.worth.Goals as goal

pub sum_of-requires-clause-fits : goal.sum_of-requires-clause-fits
sum_of-requires-clause-fits c = (product_worth c.args.self.price c.args.self.quantities c.args.self.parts, 998990010000, omega arith, λ k z l h. search rules)

pub returns : goal.returns
returns c =
    let said = c.sum_of.ensures (product_worth c.args.self.price c.args.self.quantities c.args.self.parts) 998990010000 (λ k z l h. search rules) in
    search rules
