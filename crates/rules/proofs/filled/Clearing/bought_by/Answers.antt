use Rattle.std.proofs.Common.{sym, ◌∙◌, arith}
use Rattle.rules.specs.Views.{market_of, parts_of}
use Rattle.rules.proofs.Compared.{casts_parts, term_on}
use Rattle.rules.proofs.Terms.{bought_term}
use Rattle.rules.proofs.filled.Clearing.bought_by.Goals as goal

pub returns : goal.returns
returns c = term_on _ _ _ _ (omega arith)
    (bought_term (market_of c.args.self.now) (parts_of c.args.self.now) _ _ _ c.buy-order.result _ _ c.buy-order.ensures.is
    (sym c.from.ensures ∙ c.if-from-w.false) (sym c.from-else-from-w.ensures ∙ c.if-from-p.false) (casts_parts _ c.parts.ensures.small ∙ c.parts.ensures.is) c.volume.ensures)
