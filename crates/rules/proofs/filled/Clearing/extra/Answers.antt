use Rattle.std.proofs.Common.{sym, subst}
use Rattle.market.proofs.Books.{closed_lawful}
use Rattle.market.specs.declared.entries.Extra.{Extra}
use Rattle.rules.specs.Views.{market_of}
use Rattle.rules.specs.Sizes.{SmallExtra}
use Rattle.rules.proofs.Sizes.{small_extra}
use Rattle.rules.proofs.filled.Clearing.extra.Goals as goal

pub returns : goal.returns
returns c =
    let e = c.extra.ensures.entered c.requires in
    record { is = e; small = subst (λ (o : Extra). SmallExtra (market_of c.args.self.now) o) (sym e) (small_extra (market_of c.args.self.now) (closed_lawful c.args.self.now.market.now) c.args.k c.requires) }
