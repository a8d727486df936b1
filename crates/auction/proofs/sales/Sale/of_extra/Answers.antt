use Rattle.std.proofs.Common.{◌≡◌, w32, to_z, of_z, get_or, ap, ◌∙◌, rules}
use Rattle.market.specs.Market.{extra_at}
use Rattle.market.specs.View.{closed_of}
use Rattle.market.proofs.Books.{closed_lawful}
use Rattle.rules.specs.Clearings.{extra_window}
use Rattle.auction.specs.Sizes.{extra_measure_within}
use Rattle.auction.proofs.Offers.{extra_offer, sized}
use Rattle.auction.proofs.sales.Sale.of_extra.Goals as goal

pub invariant_of-result : goal.invariant_of-result
invariant_of-result c =
    let m = closed_of c.args.market.now in
    let extra = c.in-Some.extra.now in
    let entry : extra ≡ extra_at m c.args.k = search rules in
    let window : c.basket.result.window ≡ extra_window m c.args.k = search rules in
    let price : to_z w32 (of_z w32 extra.price) ≡ extra.price = search rules in
    let same = extra_offer m c.args.k _ _ _ window (λ i. ap (λ x. get_or x.quantities i 0) entry) (price ∙ ap (λ x. x.price) entry) in
    record { small = λ a. sized 999890001 _ _ (same a) (extra_measure_within m (closed_lawful c.args.market.now) a c.args.k) }
