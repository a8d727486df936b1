use Rattle.std.proofs.Common.{◌≡◌, w32, to_z, of_z, get_or, ap, ◌∙◌, rules}
use Rattle.market.specs.Market.{basket_at}
use Rattle.market.specs.View.{closed_of}
use Rattle.market.proofs.Books.{closed_lawful}
use Rattle.auction.specs.Sizes.{parent_measure_within}
use Rattle.auction.proofs.Offers.{parent_offer, sized}
use Rattle.auction.proofs.sales.Sale.of_parent.Goals as goal

pub invariant_of-result : goal.invariant_of-result
invariant_of-result c =
    let m = closed_of c.args.market.now in
    let basket = c.in-Some.basket.now in
    let entry : basket ≡ basket_at m c.args.b = search rules in
    let price : to_z w32 (of_z w32 basket.price) ≡ basket.price = search rules in
    let same = parent_offer m c.args.b _ _ _ (ap (λ x. x.window) entry) (λ i. ap (λ x. get_or x.quantities i 0) entry) (price ∙ ap (λ x. x.price) entry) in
    record { small = λ a. sized 999890001 _ _ (same a) (parent_measure_within m (closed_lawful c.args.market.now) a c.args.b) }
