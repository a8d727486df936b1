use Rattle.std.proofs.Common.{vec_items, rules}
use Rattle.market.specs.Market.{SameExtra, no_extra}
use Rattle.market.proofs.Zeros.{entry_or, same_extra, zero_extra}
use Rattle.market.proofs.closed.ClosedMarket.extra.Goals as goal

pub returns-clause-same : goal.returns-clause-same
returns-clause-same c =
    entry_or SameExtra _ no_extra (vec_items c.args.self.now.book.extras) c.args.k c.copied.result _ same_extra (λ x p. zero_extra x p.0 p.1.0 p.1.1.0 p.1.1.1) (λ e. search rules) c.unwrap_or_default.ensures
