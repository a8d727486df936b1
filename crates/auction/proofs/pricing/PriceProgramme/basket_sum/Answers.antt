use Rattle.std.proofs.Common.{◌≤◌, length, arith, rules}
use Rattle.auction.specs.Pricing.{of_basket, basket_sum}
use Rattle.auction.specs.Views.{priced_market, held_parts}
use Rattle.auction.proofs.Terms.{Added, added, summed_term}
use Rattle.auction.proofs.pricing.PriceProgramme.basket_sum.Goals as goal

pub sum_of-requires-clause-fits : goal.sum_of-requires-clause-fits
sum_of-requires-clause-fits c =
    let few : c.extra_count.result ≤ 96 = search rules in
    (of_basket (priced_market c.args.self.now) (held_parts c.args.self.now) c.args.measure c.args.b, 9998900010000, omega arith, λ k z l h. search rules)

both : (c : goal.After-sum_of) → Added c.parent_sum.result c.sum_of.result (basket_sum (priced_market c.args.self.now) (held_parts c.args.self.now) c.args.measure c.args.b) 969893300970000
both c =
    let m = priced_market c.args.self.now in
    let f = of_basket m (held_parts c.args.self.now) c.args.measure c.args.b in
    let few : length m.extras ≤ 96 = search rules in
    let t = summed_term f 9998900010000 _ _ _ c.extra_count.ensures few (c.sum_of.ensures f 9998900010000 (λ k z l h. search rules)) in
    added _ _ _ _ 9998900010000 959894400960000 (omega arith) c.parent_sum.ensures.is t.is c.parent_sum.ensures.small t.small

pub overflow_add-result : goal.overflow_add-result
overflow_add-result c = (both c).fits

pub returns : goal.returns
returns c = let b = both c in record { is = b.is; small = b.small }
