use Rattle.std.proofs.Common.{◌≤◌, sym, ap, ◌∙◌, subst}
use Rattle.market.proofs.Books.{closed_lawful}
use Rattle.market.specs.declared.entries.Basket.{Basket}
use Rattle.market.specs.declared.entries.Window.{Window}
use Rattle.market.specs.Market.{window_at}
use Rattle.rules.specs.Views.{market_of}
use Rattle.rules.proofs.filled.Clearing.window_of.Goals as goal

pub returns : goal.returns
returns c =
    let law = closed_lawful c.args.self.now.market.now in
    let e = c.window.ensures ∙ ap (window_at (market_of c.args.self.now)) c.from.ensures ∙ ap (λ (o : Basket). window_at (market_of c.args.self.now) o.window) c.basket.ensures.is in
    record { is = e; some = subst (λ (v : Window). 1 ≤ v.length) (sym e) (law.windows _ (law.baskets c.args.b c.requires).window).some }
