-- The price programme's objective is minus the cost: at D = 0 a surplus is what is paid.
use Rattle.std.proofs.Common.{◌≡◌, ℕ, ◌+◌, ◌*◌, List, length, get_or, ℤ, pos, ◌+ℤ◌, ◌-ℤ◌, ◌*ℤ◌, neg_ℤ, sym, ap, ◌∙◌, ap₂, arith}
use lib.IntN.{zero-*ℤ, *ℤ-zero, *ℤ_comm}
use Rattle.std.proofs.lemmas.Int.{ints}
use Rattle.numbers.specs.Sums.{sum_to}
use Rattle.numbers.proofs.Sums.{sum_ext}
use Rattle.numbers.proofs.Weighted.{weighted_neg, sum_times}
use Rattle.bound.specs.Points.{objective_at}
use Rattle.market.specs.Market.{Market, basket_at, extra_at}
use Rattle.market.specs.Lawful.{Lawful}
use Rattle.rules.specs.Clearings.{extra_window}
use Rattle.rules.specs.Prices.{surplus, payment, cost}
use Rattle.auction.specs.Pricing.{pricing, parent_sum, extra_sum, market_sum}
use Rattle.auction.specs.declared.rows.Measure.TheVariants.{On, Value}
use Rattle.auction.proofs.Linear.{left, left_add, left_sum}
use Rattle.auction.proofs.PriceRows.{parent_left, extra_left}
use Rattle.auction.proofs.PriceLists.{on_lines_lem}

left_plain : (Y c : ℕ → ℤ) (s : ℤ) → left 0 Y c s ≡ sum_to 192 (λ l. c l *ℤ Y l)
unfolding left
left_plain Y c s = let z = *ℤ-zero s in omega (arith, ints)

paid_is : (q : ℤ) (w : ℕ) (qs : List ℕ) (price : ℤ) (Y : ℕ → ℤ) → surplus 0 Y w qs price q ≡ payment Y w qs q
paid_is q w qs price Y =
    *ℤ_comm q _ ∙ sym (sum_times 6 (λ p. pos (get_or qs p 0) *ℤ (Y (6 * w + p) -ℤ pos 0 *ℤ price)) q)
    ∙ sum_ext 6 _ (λ p. Y (6 * w + p) *ℤ pos (get_or qs p 0) *ℤ q) (λ p l.
    let z : Y (6 * w + p) -ℤ pos 0 *ℤ price ≡ Y (6 * w + p) = let y = zero-*ℤ price in omega (arith, ints) in
    ap (λ (a : ℤ). a *ℤ q) (ap (λ (y : ℤ). pos (get_or qs p 0) *ℤ y) z ∙ *ℤ_comm (pos (get_or qs p 0)) (Y (6 * w + p))))

pub price_objective : (m : Market) → Lawful m → (X Y : ℕ → ℤ) → objective_at (pricing m X) Y ≡ neg_ℤ (cost m X Y)
price_objective m good X Y =
    let n = length m.baskets in
    let k = length m.extras in
    on_lines_lem (λ l. neg_ℤ (market_sum m X (On l))) Y ∙ weighted_neg 192 (λ l. market_sum m X (On l)) Y
    ∙ ap neg_ℤ
    (sym (left_plain Y (λ l. sum_to n (λ b. parent_sum m X (On l) b) +ℤ sum_to k (λ e. extra_sum m X (On l) e)) (sum_to n (parent_sum m X Value) +ℤ sum_to k (extra_sum m X Value)))
    ∙ left_add 0 Y (λ l. sum_to n (λ b. parent_sum m X (On l) b)) (λ l. sum_to k (λ e. extra_sum m X (On l) e)) (sum_to n (parent_sum m X Value)) (sum_to k (extra_sum m X Value))
    ∙ ap₂ ◌+ℤ◌
    (left_sum 0 Y n (λ b l. parent_sum m X (On l) b) (parent_sum m X Value) ∙ sum_ext n _ _ (λ b l. parent_left m good X 0 Y b l ∙ paid_is (X (64 + b)) (basket_at m b).window (basket_at m b).quantities (basket_at m b).price Y))
    (left_sum 0 Y k (λ k l. extra_sum m X (On l) k) (extra_sum m X Value) ∙ sum_ext k _ _ (λ e l. extra_left m good X 0 Y e l ∙ paid_is (X (160 + e)) (extra_window m e) (extra_at m e).quantities (extra_at m e).price Y)))
