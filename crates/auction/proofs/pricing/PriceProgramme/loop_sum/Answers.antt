use Rattle.std.proofs.Common.{◌≡◌, ◌≤◌, length, w64, to_z, of_z, ◌∙◌, arith, rules}
use Rattle.auction.specs.Pricing.{of_loop}
use Rattle.auction.specs.Views.{priced_market, held_parts}
use Rattle.auction.proofs.Offers.{sized}
use Rattle.auction.proofs.Terms.{summed_term}
use Rattle.auction.proofs.pricing.PriceProgramme.loop_sum.Goals as goal

pub sum_of-requires-clause-fits : goal.sum_of-requires-clause-fits
sum_of-requires-clause-fits c =
    let few : c.basket_count.result ≤ 96 = search rules in
    (of_loop (priced_market c.args.self.now) (held_parts c.args.self.now) c.args.measure c.args.ring, 969893300970000, omega arith, λ k z l h. search rules)

pub returns : goal.returns
returns c =
    let m = priced_market c.args.self.now in
    let f = of_loop m (held_parts c.args.self.now) c.args.measure c.args.ring in
    let few : length m.baskets ≤ 96 = search rules in
    let t = summed_term f 969893300970000 _ _ _ c.basket_count.ensures few (c.sum_of.ensures f 969893300970000 (λ k z l h. search rules)) in
    let answer : to_z w64 (of_z w64 c.sum_of.result) ≡ c.sum_of.result = search rules in
    record { is = answer ∙ t.is; small = sized 93109756893120000 _ _ answer t.small }
