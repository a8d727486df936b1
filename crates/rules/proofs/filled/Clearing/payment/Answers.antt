use Rattle.std.proofs.Common.{rules, arith}
use Rattle.rules.specs.Prices.{product_payment}
use Rattle.rules.specs.Views.{prices_of}
use Rattle.rules.proofs.filled.Clearing.payment.Goals as goal

pub sum_of-requires-clause-fits : goal.sum_of-requires-clause-fits
sum_of-requires-clause-fits c = (product_payment (prices_of c.args.self.now) c.args.sale.window c.args.sale.quantities c.args.sale.parts, 998990010000, omega arith, λ k z l h. search rules)

pub returns : goal.returns
returns c =
    let said = c.sum_of.ensures (product_payment (prices_of c.args.self.now) c.args.sale.window c.args.sale.quantities c.args.sale.parts) 998990010000 (λ k z l h. search rules) in
    search rules
