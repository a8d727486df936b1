use Rattle.std.proofs.Common.{◌≤◌, length, arith, rules}
use Rattle.auction.specs.Pricing.{parent_sum, extra_sum, market_sum}
use Rattle.auction.specs.Views.{priced_market, held_parts}
use Rattle.auction.proofs.Terms.{Added, added, summed_term}
use Rattle.auction.proofs.pricing.PriceProgramme.market_sum.Goals as goal

pub sum_of-requires-clause-fits : goal.sum_of-requires-clause-fits
sum_of-requires-clause-fits c =
    let few : c.basket_count.result ≤ 96 = search rules in
    (parent_sum (priced_market c.args.self.now) (held_parts c.args.self.now) c.args.measure, 9998900010000, omega arith, λ k z l h. search rules)

pub sum_of-requires-2-clause-fits : goal.sum_of-requires-2-clause-fits
sum_of-requires-2-clause-fits c =
    let few : c.extra_count.result ≤ 96 = search rules in
    (extra_sum (priced_market c.args.self.now) (held_parts c.args.self.now) c.args.measure, 9998900010000, omega arith, λ k z l h. search rules)

both : (c : goal.After-sum_of-2) → Added c.sum_of.result c.sum_of-2.result (market_sum (priced_market c.args.self.now) (held_parts c.args.self.now) c.args.measure) 1919788801920000
both c =
    let m = priced_market c.args.self.now in
    let f = parent_sum m (held_parts c.args.self.now) c.args.measure in
    let g = extra_sum m (held_parts c.args.self.now) c.args.measure in
    let few_baskets : length m.baskets ≤ 96 = search rules in
    let few_extras : length m.extras ≤ 96 = search rules in
    let s = summed_term f 9998900010000 _ _ _ c.basket_count.ensures few_baskets (c.sum_of.ensures f 9998900010000 (λ k z l h. search rules)) in
    let t = summed_term g 9998900010000 _ _ _ c.extra_count.ensures few_extras (c.sum_of-2.ensures g 9998900010000 (λ k z l h. search rules)) in
    added _ _ _ _ 959894400960000 959894400960000 (omega arith) s.is t.is s.small t.small

pub overflow_add-result : goal.overflow_add-result
overflow_add-result c = (both c).fits

pub returns : goal.returns
returns c = let b = both c in record { is = b.is; small = b.small }
