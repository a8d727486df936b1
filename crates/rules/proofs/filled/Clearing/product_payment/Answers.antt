use Rattle.std.proofs.Common.{◌∙◌, arith}
use Rattle.rules.specs.Views.{prices_of}
use Rattle.rules.proofs.Compared.{casts, casts_parts, term_on}
use Rattle.rules.proofs.Worths.{payment_term}
use Rattle.rules.proofs.filled.Clearing.product_payment.Goals as goal

pub returns : goal.returns
returns c = term_on _ _ _ _ (omega arith)
    (payment_term (prices_of c.args.self.now) c.args.sale.window c.args.sale.quantities c.args.sale.parts c.args.p _ _ _
    (casts _ c.price.ensures.small ∙ c.price.ensures.is) (casts_parts _ c.args.sale.shared) (c.args.sale.small c.args.p c.requires) c.worth.ensures)
