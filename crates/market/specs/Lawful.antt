-- The lines on entries that no book breaks, in the market's own words.
use Rattle.std.specs.Prelude.{◌≡◌, ℕ, ◌+◌, ◌<◌, ◌≤◌, List, length, ℤ, pos, ◌≤ℤ◌, ◌≢◌, slice_index}
use Rattle.market.specs.declared.entries.Service.{Service}
use Rattle.market.specs.declared.entries.Window.{Window}
use Rattle.market.specs.declared.entries.Buy.{Buy}
use Rattle.market.specs.declared.entries.Basket.{Basket}
use Rattle.market.specs.declared.entries.Extra.{Extra}
use Rattle.market.specs.Services.{terms}
use Rattle.market.specs.Market.{Market, window_at, buy_at, basket_at, extra_at, Share}

-- The price of an order: from the service's floor to 99,999.
pub record GoodPrice (s : Service) (price : ℤ) : Type 0 where
  pub least : (terms s).floor ≤ℤ price
  pub most : price ≤ℤ pos 99999

-- Six quantities of at most 999, and 0 of a product that the service lacks.
pub record GoodQuantities (s : Service) (qs : List ℕ) : Type 0 where
  pub six : length qs ≡ 6
  pub most : (p : ℕ) → p < 6 → slice_index qs p ≤ 999
  pub lacking : (p : ℕ) → p < 6 → (terms s).products ≤ p → slice_index qs p ≡ 0

-- A window is of half an hour or more, and ends with the day.
pub record GoodWindow (w : Window) : Type 0 where
  pub some : 1 ≤ w.length
  pub within : w.start + w.length ≤ 50

pub record GoodBuy (m : Market) (e : Buy) : Type 0 where
  pub window : e.window < length m.windows
  pub product : e.product < (terms (window_at m e.window).service).products
  pub some : 1 ≤ e.quantity
  pub most : e.quantity ≤ 9999
  pub family : e.family ≤ 64
  pub price : GoodPrice (window_at m e.window).service e.price

pub record GoodBasket (m : Market) (b : Basket) : Type 0 where
  pub unit : 1 ≤ b.unit
  pub unit_most : b.unit ≤ 65535
  pub window : b.window < length m.windows
  pub ring : b.ring ≤ 255
  pub quantities : GoodQuantities (window_at m b.window).service b.quantities
  pub price : GoodPrice (window_at m b.window).service b.price

-- A child or substitute is of its basket's window; its quantities are not all 0.
pub record GoodExtra (m : Market) (e : Extra) : Type 0 where
  pub basket : e.basket < length m.baskets
  pub some : ((p : ℕ) → p < 6 → slice_index e.quantities p ≡ 0) → ⊥
  pub quantities : GoodQuantities (window_at m (basket_at m e.basket).window).service e.quantities
  pub price : GoodPrice (window_at m (basket_at m e.basket).window).service e.price

-- Two baskets of a loop have one unit and share no half hour.
pub record GoodLoop (m : Market) (a b : Basket) : Type 0 where
  pub unit : a.unit ≡ b.unit
  pub apart : Share (window_at m a.window) (window_at m b.window) → ⊥

-- All the lines.
pub record Lawful (m : Market) : Type 0 where
  pub few_windows : length m.windows ≤ 32
  pub few_buys : length m.buys ≤ 64
  pub few_baskets : length m.baskets ≤ 96
  pub few_extras : length m.extras ≤ 96
  pub windows : (k : ℕ) → k < length m.windows → GoodWindow (window_at m k)
  -- windows of one service share no half hour
  pub apart : (j k : ℕ) → (j ≢ k) → j < length m.windows → k < length m.windows → (window_at m j).service ≡ (window_at m k).service → Share (window_at m j) (window_at m k) → ⊥
  pub buys : (k : ℕ) → k < length m.buys → GoodBuy m (buy_at m k)
  pub baskets : (k : ℕ) → k < length m.baskets → GoodBasket m (basket_at m k)
  -- two baskets with one loop number, which is not 0
  pub loops : (j k : ℕ) → (j ≢ k) → j < length m.baskets → k < length m.baskets → ((basket_at m j).ring ≢ 0) → (basket_at m j).ring ≡ (basket_at m k).ring → GoodLoop m (basket_at m j) (basket_at m k)
  pub extras : (k : ℕ) → k < length m.extras → GoodExtra m (extra_at m k)
