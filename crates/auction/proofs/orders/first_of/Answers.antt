use Rattle.std.proofs.Common.{ap, ◌∙◌, eqb, rules}
use Rattle.numbers.specs.Searches.{least}
use Rattle.market.specs.Market.{basket_at}
use Rattle.market.specs.View.{closed_of}
use Rattle.auction.proofs.Firsts.{found_least}
use Rattle.auction.proofs.orders.first_of.Goals as goal

pub returns : goal.returns
returns c =
    let m = closed_of c.args.market.now in
    let found = found_least (λ j. eqb (basket_at m j).ring (basket_at m c.args.b).ring) _ _ _ c.lowest_passing.ensures (λ k b l h. search rules) in
    c.unwrap_or.ensures ∙ found ∙ ap (least (λ j. eqb (basket_at m j).ring (basket_at m c.args.b).ring)) c.basket_count-count.ensures
