-- How large the numbers of the two tables are.
use Rattle.std.specs.Prelude.{◌≡◌, ℕ, ◌+◌, ◌*◌, ◌/◌, ◌%◌, ◌<◌, ◌≤◌, Bool, true, false, cond, List, length, ℤ, pos, negsuc, ◌+ℤ◌, neg_ℤ, ◌==◌, slice_index, slice_index_or}
use Rattle.std.proofs.Common.{sym, ap, subst, ⊎_elim, mul-le-mul_right, arith}
use Rattle.std.proofs.lemmas.Int.{ints}
use Rattle.std.proofs.lemmas.List.{get_or_past}
use Rattle.std.proofs.lemmas.Bool.{cases_lt, cond_both}
use Rattle.numbers.specs.Sums.{sum_to, Within}
use Rattle.numbers.proofs.Products.{within_times}
use Rattle.numbers.proofs.Sums.{sum_within}
use Rattle.bound.specs.Tables.{Small, most}
use Rattle.market.specs.declared.entries.Service.{Service}
use Rattle.market.specs.declared.entries.Service.TheVariants.{Response, Balancing, Quick, Slow}
use Rattle.market.specs.declared.entries.Buy.{Buy}
use Rattle.market.specs.declared.entries.Basket.{Basket}
use Rattle.market.specs.declared.entries.Extra.{Extra}
use Rattle.market.specs.Services.{terms}
use Rattle.market.specs.Market.{Market, buy_at, basket_at, extra_at}
use Rattle.market.specs.Lawful.{Lawful, GoodPrice}
use Rattle.rules.specs.Clearings.{extra_window}
use Rattle.auction.specs.declared.rows.Measure.{Measure}
use Rattle.auction.specs.declared.rows.Measure.TheVariants.{On, Value}
use Rattle.auction.specs.Orders.{buy_on, sell_on, basket_on, extra_on, total, order_value, buy_value}
use Rattle.auction.specs.Pricing.{parent_measure, extra_measure, parent_sum, extra_sum, of_basket, basket_sum, of_loop, loop_sum, market_sum}

pub small : (n : ℕ) (z : ℤ) → n ≤ most → Within n z → Small z
small n (pos k) h w = omega (arith, ints)
small n (negsuc k) h w = omega (arith, ints)

pub wider : (m n : ℕ) (z : ℤ) → m ≤ n → Within m z → Within n z
wider m n z h w = (omega (arith, ints), omega (arith, ints))

pub within_pos : (n k : ℕ) → k ≤ n → Within n (pos k)
within_pos n k h = (omega (arith, ints), omega (arith, ints))

pub within_neg : (n : ℕ) (z : ℤ) → Within n z → Within n (neg_ℤ z)
within_neg n z w = (omega (arith, ints), omega (arith, ints))

pub within_zero : (n : ℕ) → Within n (pos 0)
within_zero n = within_pos n 0 (omega arith)

pub within_if : (n : ℕ) (t : Bool) (z : ℤ) → Within n z → Within n (cond t z (pos 0))
within_if n true z w = w
within_if n false z w = within_zero n

pub within_add : (m n : ℕ) (a b : ℤ) → Within m a → Within n b → Within (m + n) (a +ℤ b)
within_add m n a b v w = (omega (arith, ints), omega (arith, ints))

pub floor_within : (s : Service) → Within 99999 (terms s).floor
floor_within Response = (omega (arith, ints), omega (arith, ints))
floor_within Balancing = within_zero 99999
floor_within Quick = within_zero 99999
floor_within Slow = within_zero 99999

price_within : (s : Service) (z : ℤ) → GoodPrice s z → Within 99999 z
price_within s z g =
    let f = floor_within s in
    let l = g.least in
    let h = g.most in
    (omega (arith, ints), omega (arith, ints))

six : (qs : List ℕ) → ((p : ℕ) → p < 6 → slice_index qs p ≤ 999) → total qs ≤ 5994
six qs h = omega (arith, h 0 (omega arith), h 1 (omega arith), h 2 (omega arith), h 3 (omega arith), h 4 (omega arith), h 5 (omega arith))

value_within : (price : ℤ) (n : ℕ) → Within 99999 price → n ≤ 9999 → Within 999890001 (order_value price n)
value_within price n p h = within_times 99999 9999 price (pos n) p (within_pos 9999 n h)

sell_within : (w : ℕ) (qs : List ℕ) (l : ℕ) → ((p : ℕ) → p < 6 → slice_index qs p ≤ 999) → sell_on w qs l ≤ 999
sell_within w qs l h = cond_both (w == l / 6) _ _ (λ (n : ℕ). n ≤ 999) (λ t. h (l % 6) (omega arith)) (λ t. omega arith)

module _ (m : Market) (good : Lawful m) where
  -- every entry, the zeros beyond the last too
  pub buy_quantity : (i : ℕ) → (buy_at m i).quantity ≤ 9999
  buy_quantity i = ⊎_elim
      (λ (h : i < length m.buys). (good.buys i h).most)
      (λ (h : length m.buys ≤ i). let e : (buy_at m i).quantity ≡ 0 = ap (λ (e : Buy). e.quantity) (get_or_past m.buys i _ h) in omega arith)
      (cases_lt i (length m.buys))

  pub buy_price : (i : ℕ) → Within 99999 (buy_at m i).price
  buy_price i = ⊎_elim
      (λ (h : i < length m.buys). price_within _ _ (good.buys i h).price)
      (λ (h : length m.buys ≤ i). subst (λ (e : Buy). Within 99999 e.price) (sym (get_or_past m.buys i _ h)) (within_zero 99999))
      (cases_lt i (length m.buys))

  basket_price : (b : ℕ) → Within 99999 (basket_at m b).price
  basket_price b = ⊎_elim
      (λ (h : b < length m.baskets). price_within _ _ (good.baskets b h).price)
      (λ (h : length m.baskets ≤ b). subst (λ (e : Basket). Within 99999 e.price) (sym (get_or_past m.baskets b _ h)) (within_zero 99999))
      (cases_lt b (length m.baskets))

  basket_quantities : (b p : ℕ) → p < 6 → slice_index (basket_at m b).quantities p ≤ 999
  basket_quantities b p l = ⊎_elim
      (λ (h : b < length m.baskets). (good.baskets b h).quantities.most p l)
      (λ (h : length m.baskets ≤ b). let e : slice_index_or (basket_at m b).quantities p 0 ≡ 0 = ap (λ (e : Basket). slice_index e.quantities p) (get_or_past m.baskets b _ h) in omega arith)
      (cases_lt b (length m.baskets))

  extra_price : (k : ℕ) → Within 99999 (extra_at m k).price
  extra_price k = ⊎_elim
      (λ (h : k < length m.extras). price_within _ _ (good.extras k h).price)
      (λ (h : length m.extras ≤ k). subst (λ (e : Extra). Within 99999 e.price) (sym (get_or_past m.extras k _ h)) (within_zero 99999))
      (cases_lt k (length m.extras))

  extra_quantities : (k p : ℕ) → p < 6 → slice_index (extra_at m k).quantities p ≤ 999
  extra_quantities k p l = ⊎_elim
      (λ (h : k < length m.extras). (good.extras k h).quantities.most p l)
      (λ (h : length m.extras ≤ k). let e : slice_index_or (extra_at m k).quantities p 0 ≡ 0 = ap (λ (e : Extra). slice_index e.quantities p) (get_or_past m.extras k _ h) in omega arith)
      (cases_lt k (length m.extras))

  pub buy_value_within : (i : ℕ) → Within 999890001 (buy_value m i)
  buy_value_within i = value_within _ _ (buy_price i) (buy_quantity i)

  pub buy_on_within : (l i : ℕ) → buy_on m l i ≤ 9999
  buy_on_within l i = cond_both (6 * (buy_at m i).window + (buy_at m i).product == l) _ _ (λ (n : ℕ). n ≤ 9999) (λ t. buy_quantity i) (λ t. omega arith)

  -- what is measured of a sell order
  pub parent_measure_within : (a : Measure) (b : ℕ) → Within 999890001 (parent_measure m a b)
  parent_measure_within (On l) b = let h = sell_within (basket_at m b).window (basket_at m b).quantities l (basket_quantities b) in within_pos 999890001 (basket_on m l b) (omega arith)
  parent_measure_within Value b = let h = six (basket_at m b).quantities (basket_quantities b) in value_within _ _ (basket_price b) (omega arith)

  pub extra_measure_within : (a : Measure) (k : ℕ) → Within 999890001 (extra_measure m a k)
  extra_measure_within (On l) k = let h = sell_within (extra_window m k) (extra_at m k).quantities l (extra_quantities k) in within_pos 999890001 (extra_on m l k) (omega arith)
  extra_measure_within Value k = let h = six (extra_at m k).quantities (extra_quantities k) in value_within _ _ (extra_price k) (omega arith)

  -- the parts of the 256 variables are at most 10,000
  module _ (X : ℕ → ℤ) (parts : (v : ℕ) → v < 256 → Within 10000 (X v)) where
    pub parent_within : (a : Measure) (b : ℕ) → b < 96 → Within 9998900010000 (parent_sum m X a b)
    parent_within a b h = within_times 999890001 10000 _ _ (parent_measure_within a b) (parts (64 + b) (omega arith))

    pub extra_within : (a : Measure) (k : ℕ) → k < 96 → Within 9998900010000 (extra_sum m X a k)
    extra_within a k h = within_times 999890001 10000 _ _ (extra_measure_within a k) (parts (160 + k) (omega arith))

    pub of_basket_within : (a : Measure) (b k : ℕ) → k < 96 → Within 9998900010000 (of_basket m X a b k)
    of_basket_within a b k h = within_if 9998900010000 ((extra_at m k).basket == b) (extra_sum m X a k) (extra_within a k h)

    pub few_within : (n size : ℕ) (f : ℕ → ℤ) → n ≤ 96 → ((i : ℕ) → i < 96 → Within size (f i)) → Within (96 * size) (sum_to n f)
    few_within n size f l h = wider (n * size) (96 * size) _ (mul-le-mul_right size l) (sum_within n size f (λ i g. h i (omega arith)))

    pub basket_sum_within : (a : Measure) (b : ℕ) → b < 96 → Within 969893300970000 (basket_sum m X a b)
    basket_sum_within a b h =
        within_add 9998900010000 959894400960000 _ _ (parent_within a b h)
        (few_within (length m.extras) 9998900010000 (of_basket m X a b) good.few_extras (of_basket_within a b))

    pub of_loop_within : (a : Measure) (r b : ℕ) → b < 96 → Within 969893300970000 (of_loop m X a r b)
    of_loop_within a r b h = within_if 969893300970000 ((basket_at m b).ring == r) (basket_sum m X a b) (basket_sum_within a b h)

    pub loop_sum_within : (a : Measure) (r : ℕ) → Within 93109756893120000 (loop_sum m X a r)
    loop_sum_within a r = few_within (length m.baskets) 969893300970000 (of_loop m X a r) good.few_baskets (of_loop_within a r)

    pub market_sum_within : (a : Measure) → Within 1919788801920000 (market_sum m X a)
    market_sum_within a =
        within_add 959894400960000 959894400960000 _ _
        (few_within (length m.baskets) 9998900010000 (parent_sum m X a) good.few_baskets (parent_within a))
        (few_within (length m.extras) 9998900010000 (extra_sum m X a) good.few_extras (extra_within a))
