use Rattle.std.proofs.Common.{sym, subst}
use Rattle.market.proofs.Books.{closed_lawful}
use Rattle.market.specs.declared.entries.Basket.{Basket}
use Rattle.rules.specs.Views.{market_of}
use Rattle.rules.specs.Sizes.{SmallBasket}
use Rattle.rules.proofs.Sizes.{small_basket}
use Rattle.rules.proofs.filled.Clearing.basket.Goals as goal

pub returns : goal.returns
returns c =
    let e = c.basket.ensures.entered c.requires in
    record { is = e; small = subst (λ (o : Basket). SmallBasket o) (sym e) (small_basket (market_of c.args.self.now) (closed_lawful c.args.self.now.market.now) c.args.b c.requires) }
