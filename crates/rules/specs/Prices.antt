-- Price lists of a market over a denominator D (whole D-ths of a penny by line), the price rules for given parts X, and cost.
-- Line 6 × w + p is product p in window w.
use Rattle.std.specs.Prelude.{◌≡◌, ℕ, ◌+◌, ◌*◌, ◌<◌, ◌≤◌, false, cond, List, length, ℤ, pos, negsuc, ◌+ℤ◌, ◌-ℤ◌, ◌*ℤ◌, ◌≤ℤ◌, ◌<ℤ◌, ◌==◌, ◌≢◌, slice_index}
use Rattle.numbers.specs.Sums.{sum_to}
use Rattle.market.specs.declared.entries.Service.TheVariants.{Response}
use Rattle.market.specs.Market.{Market, window_at, buy_at, basket_at, extra_at}
use Rattle.rules.specs.Clearings.{extra_window, worth}

-- the price of a product in a window
abbrev pub price_of : (ℕ → ℤ) → ℕ → ℕ → ℤ
price_of Y w p = Y (6 * w + p)

-- Each line that has a window and a product has a price within its service's limits; every other line has the price 0.
pub record PriceList (m : Market) (D : ℕ) (Y : ℕ → ℤ) : Type 0 where
  -- Response: six products, from -99,999 to 99,999 pence
  pub response : (w p : ℕ) → w < length m.windows → (window_at m w).service ≡ Response → p < 6
      → ((negsuc 99998 *ℤ pos D) ≤ℤ price_of Y w p) × (price_of Y w p ≤ℤ (pos 99999 *ℤ pos D))
  -- Reserve: two products, from 0 to 99,999 pence
  pub reserve : (w p : ℕ) → w < length m.windows → ((window_at m w).service ≢ Response) → p < 2
      → (pos 0 ≤ℤ price_of Y w p) × (price_of Y w p ≤ℤ (pos 99999 *ℤ pos D))
  pub no_product : (w p : ℕ) → w < length m.windows → ((window_at m w).service ≢ Response) → 2 ≤ p → p < 6 → price_of Y w p ≡ pos 0
  pub no_other_window : (w p : ℕ) → length m.windows ≤ w → w < 32 → p < 6 → price_of Y w p ≡ pos 0

-- what a sell order gains on product p, for each of its parts: quantity × (line price − own price)
abbrev pub gain : ℕ → (ℕ → ℤ) → ℕ → List ℕ → ℤ → ℕ → ℤ
gain D Y w quantities price p = pos (slice_index quantities p) *ℤ (price_of Y w p -ℤ pos D *ℤ price)

-- a sell order's surplus: parts × its gain over its products
abbrev pub surplus : ℕ → (ℕ → ℤ) → ℕ → List ℕ → ℤ → ℤ → ℤ
surplus D Y w quantities price parts = parts *ℤ sum_to 6 (gain D Y w quantities price)

abbrev pub parent_surplus : Market → (ℕ → ℤ) → ℕ → (ℕ → ℤ) → ℕ → ℤ
parent_surplus m X D Y b = surplus D Y (basket_at m b).window (basket_at m b).quantities (basket_at m b).price (X (64 + b))

abbrev pub extra_surplus : Market → (ℕ → ℤ) → ℕ → (ℕ → ℤ) → ℕ → ℤ
extra_surplus m X D Y k = surplus D Y (extra_window m k) (extra_at m k).quantities (extra_at m k).price (X (160 + k))

-- the surplus of child or substitute k if it is of basket b
abbrev pub basket_extra : Market → (ℕ → ℤ) → ℕ → (ℕ → ℤ) → ℕ → ℕ → ℤ
basket_extra m X D Y b k = cond ((extra_at m k).basket == b) (extra_surplus m X D Y k) (pos 0)

-- a basket's surplus over all its orders: its parent, its children and its substitutes
abbrev pub basket_surplus : Market → (ℕ → ℤ) → ℕ → (ℕ → ℤ) → ℕ → ℤ
basket_surplus m X D Y b = parent_surplus m X D Y b +ℤ sum_to (length m.extras) (basket_extra m X D Y b)

-- the surplus of basket c if it is of the loop r
abbrev pub loop_basket : Market → (ℕ → ℤ) → ℕ → (ℕ → ℤ) → ℕ → ℕ → ℤ
loop_basket m X D Y r c = cond ((basket_at m c).ring == r) (basket_surplus m X D Y c) (pos 0)

-- the surplus of all baskets of the loop r together
abbrev pub loop_surplus : Market → (ℕ → ℤ) → ℕ → (ℕ → ℤ) → ℕ → ℤ
loop_surplus m X D Y r = sum_to (length m.baskets) (loop_basket m X D Y r)

-- The price rules, for the parts X.
pub record KeepsPrices (m : Market) (X : ℕ → ℤ) (D : ℕ) (Y : ℕ → ℤ) : Type 0 where
  -- an accepted child or substitute does not lose
  pub extras : (k : ℕ) → k < length m.extras → pos 0 <ℤ X (160 + k) → pos 0 ≤ℤ extra_surplus m X D Y k
  -- a basket without a loop does not lose over all its orders
  pub unlooped : (b : ℕ) → b < length m.baskets → (basket_at m b).ring ≡ 0 → pos 0 ≤ℤ basket_surplus m X D Y b
  -- the baskets of a loop together do not lose
  pub loops : (b : ℕ) → b < length m.baskets → ((basket_at m b).ring ≢ 0) → pos 0 ≤ℤ loop_surplus m X D Y (basket_at m b).ring
  -- an accepted buy without a permit pays at most its own price
  pub buys : (i : ℕ) → i < length m.buys → pos 0 <ℤ X i → (buy_at m i).permit ≡ false
      → price_of Y (buy_at m i).window (buy_at m i).product ≤ℤ (pos D *ℤ (buy_at m i).price)

-- what a sell order is paid: on one product its worth at the line price, and over all six
abbrev pub product_payment : (ℕ → ℤ) → ℕ → List ℕ → ℤ → ℕ → ℤ
product_payment Y w quantities parts p = worth (price_of Y w p) (slice_index quantities p) parts

abbrev pub payment : (ℕ → ℤ) → ℕ → List ℕ → ℤ → ℤ
payment Y w quantities parts = sum_to 6 (product_payment Y w quantities parts)

abbrev pub parent_payment : Market → (ℕ → ℤ) → (ℕ → ℤ) → ℕ → ℤ
parent_payment m X Y b = payment Y (basket_at m b).window (basket_at m b).quantities (X (64 + b))

abbrev pub extra_payment : Market → (ℕ → ℤ) → (ℕ → ℤ) → ℕ → ℤ
extra_payment m X Y k = payment Y (extra_window m k) (extra_at m k).quantities (X (160 + k))

-- cost: what all sell orders are paid
abbrev pub cost : Market → (ℕ → ℤ) → (ℕ → ℤ) → ℤ
cost m X Y = sum_to (length m.baskets) (parent_payment m X Y) +ℤ sum_to (length m.extras) (extra_payment m X Y)
