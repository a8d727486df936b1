use Rattle.std.proofs.Common.{vec_items, rules}
use Rattle.market.specs.Market.{SameBasket, no_basket}
use Rattle.market.proofs.Zeros.{entry_or, same_basket, zero_basket}
use Rattle.market.proofs.closed.ClosedMarket.basket.Goals as goal

pub returns-clause-same : goal.returns-clause-same
returns-clause-same c =
    entry_or SameBasket _ no_basket (vec_items c.args.self.now.book.baskets) c.args.b c.copied.result _ same_basket (λ x p. zero_basket x p.0 p.1.0 p.1.1.0 p.1.1.1.0 p.1.1.1.1) (λ e. search rules) c.unwrap_or_default.ensures
