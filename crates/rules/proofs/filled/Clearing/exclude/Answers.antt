use Rattle.std.proofs.Common.{Bool, Decides, sym, ap, ◌∙◌, subst}
use Rattle.market.specs.declared.entries.Basket.{Basket}
use Rattle.market.specs.Market.{Share}
use Rattle.market.proofs.Deciding.{dec_shares}
use Rattle.rules.specs.Views.{market_of, parts_of}
use Rattle.rules.proofs.Terms.{exclude_decides}
use Rattle.rules.proofs.filled.Clearing.exclude.Goals as goal

pub returns-then-one-other : goal.returns-then-one-other
returns-then-one-other c = exclude_decides (market_of c.args.self.now) (parts_of c.args.self.now) _ _ _ _ _ c.if-one-other.true.0
    (sym (ap (λ (o : Basket). o.unit) c.basket-one.ensures.is) ∙ c.if-one-other.true.1 ∙ ap (λ (o : Basket). o.unit) c.basket-other.ensures.is)
    c.window_of-here.ensures.is c.window_of-there.ensures.is
    (subst (λ (t : Bool). Decides t (Share c.window_of-here.result c.window_of-there.result)) (sym c.shares.ensures) (dec_shares c.window_of-here.result c.window_of-there.result c.window_of-here.ensures.some c.window_of-there.ensures.some))
