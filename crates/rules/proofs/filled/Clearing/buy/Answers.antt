use Rattle.std.proofs.Common.{sym, subst}
use Rattle.market.proofs.Books.{closed_lawful}
use Rattle.market.specs.declared.entries.Buy.{Buy}
use Rattle.rules.specs.Views.{market_of}
use Rattle.rules.specs.Sizes.{SmallBuy}
use Rattle.rules.proofs.Sizes.{small_buy}
use Rattle.rules.proofs.filled.Clearing.buy.Goals as goal

pub returns : goal.returns
returns c =
    let e = c.buy.ensures in
    record { is = e; small = subst (λ (o : Buy). SmallBuy o) (sym e) (small_buy (market_of c.args.self.now) (closed_lawful c.args.self.now.market.now) c.args.i c.requires) }
