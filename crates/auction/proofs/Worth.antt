-- The objective of the acceptance programme is the welfare.
use Rattle.std.proofs.Common.{◌≡◌, ℕ, ◌+◌, List, length, get_or, ℤ, pos, ◌*ℤ◌, neg_ℤ, sym, ap, ◌∙◌, arith}
use lib.IntN.{zero-*ℤ}
use Rattle.std.proofs.lemmas.Int.{ints}
use Rattle.std.proofs.lemmas.List.{get_or_past}
use Rattle.numbers.specs.Sums.{sum_to}
use Rattle.numbers.proofs.Sums.{sum_ext, sum_short}
use Rattle.numbers.proofs.Weighted.{weighted_neg, sum_times}
use Rattle.bound.specs.Points.{objective_at}
use Rattle.market.specs.declared.entries.Buy.{Buy}
use Rattle.market.specs.declared.entries.Basket.{Basket}
use Rattle.market.specs.declared.entries.Extra.{Extra}
use Rattle.market.specs.Market.{Market, basket_at, extra_at}
use Rattle.market.specs.Lawful.{Lawful}
use Rattle.rules.specs.Clearings.{welfare, sell_worth}
use Rattle.auction.specs.Orders.{total, order_value, buy_value, basket_value, extra_value}
use Rattle.auction.specs.Acceptance.{acceptance, values}
use Rattle.auction.proofs.Spread.{over, spread_sum}

pub total_sum : (qs : List ℕ) → pos (total qs) ≡ sum_to 6 (λ p. pos (get_or qs p 0))
unfolding sum_to
total_sum qs = omega (arith, ints)

-- a factor for six terms
times_six : (a : ℤ) (f : ℕ → ℤ) → sum_to 6 (λ p. a *ℤ f p) ≡ a *ℤ sum_to 6 f
times_six a f = sum_ext 6 (λ p. a *ℤ f p) (λ p. f p *ℤ a) (λ p l. omega (arith, ints)) ∙ sum_times 6 f a ∙ omega (arith, ints)

-- a sell order's worth over its products is that of its total quantity
pub sell_worth_lem : (price : ℤ) (qs : List ℕ) (x : ℤ) → order_value price (total qs) *ℤ x ≡ sell_worth price qs x
sell_worth_lem price qs x =
    ap (λ (z : ℤ). price *ℤ z *ℤ x) (total_sum qs)
    ∙ ap (λ (z : ℤ). z *ℤ x) (sym (times_six price (λ p. pos (get_or qs p 0))))
    ∙ sym (sum_times 6 (λ p. price *ℤ pos (get_or qs p 0)) x)

pub objective_is : (m : Market) → Lawful m → (X : ℕ → ℤ) → objective_at (acceptance m) X ≡ welfare m X
unfolding over
objective_is m good X =
    let s = spread_sum (values m) X in
    let a = sum_short (length m.buys) 64 (λ i. buy_value m i *ℤ X i) good.few_buys
    (λ i h. ap (λ (e : Buy). order_value e.price e.quantity *ℤ X i) (get_or_past m.buys i _ h) ∙ zero-*ℤ (X i)) in
    let b = weighted_neg 96 (basket_value m) (λ b. X (64 + b))
    ∙ ap neg_ℤ (sum_short (length m.baskets) 96 (λ b. basket_value m b *ℤ X (64 + b)) good.few_baskets
    (λ i h. ap (λ (e : Basket). order_value e.price (total e.quantities) *ℤ X (64 + i)) (get_or_past m.baskets i _ h) ∙ zero-*ℤ (X (64 + i)))
    ∙ sum_ext (length m.baskets) (λ b. basket_value m b *ℤ X (64 + b)) _ (λ i h. sell_worth_lem (basket_at m i).price (basket_at m i).quantities (X (64 + i)))) in
    let c = weighted_neg 96 (extra_value m) (λ k. X (160 + k))
    ∙ ap neg_ℤ (sum_short (length m.extras) 96 (λ k. extra_value m k *ℤ X (160 + k)) good.few_extras
    (λ i h. ap (λ (e : Extra). order_value e.price (total e.quantities) *ℤ X (160 + i)) (get_or_past m.extras i _ h) ∙ zero-*ℤ (X (160 + i)))
    ∙ sum_ext (length m.extras) (λ k. extra_value m k *ℤ X (160 + k)) _ (λ i h. sell_worth_lem (extra_at m i).price (extra_at m i).quantities (X (160 + i)))) in
    omega (arith, ints)
