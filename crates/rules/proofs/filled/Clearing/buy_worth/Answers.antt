use Rattle.std.proofs.Common.{arith}
use Rattle.rules.specs.Views.{market_of, parts_of}
use Rattle.rules.proofs.Compared.{term_on}
use Rattle.rules.proofs.Worths.{buy_worth_term}
use Rattle.rules.proofs.filled.Clearing.buy_worth.Goals as goal

pub returns : goal.returns
returns c = term_on _ _ _ _ (omega arith)
    (buy_worth_term (market_of c.args.self.now) (parts_of c.args.self.now) _ _ _ _ c.buy-order.ensures.is c.buy-order.ensures.small.price c.buy-order.ensures.small.quantity c.parts.ensures.is c.parts.ensures.small c.worth.ensures)
