-- What the tables use of the lines on entries.
use Rattle.std.proofs.Common.{◌≡◌, ℕ, ◌<◌, ◌≤◌, true, length, refl, arith}
use Rattle.market.specs.declared.entries.Service.{Service}
use Rattle.market.specs.declared.entries.Service.TheVariants.{Response, Balancing, Quick, Slow}
use Rattle.market.specs.declared.entries.Role.{Role}
use Rattle.market.specs.declared.entries.Role.TheVariants.{Child, Substitute}
use Rattle.market.specs.Services.{terms}
use Rattle.market.specs.Market.{Market, window_at, buy_at, basket_at, extra_at, is_child}
use Rattle.market.specs.Lawful.{Lawful}
use Rattle.rules.specs.Clearings.{extra_window}
use Rattle.auction.specs.Acceptance.{start_of, end_of}

pub child_is : (r : Role) → is_child r ≡ true → r ≡ Child
child_is Child e = refl
child_is Substitute e = cc

pub is_child_lem : (r : Role) → r ≡ Child → is_child r ≡ true
is_child_lem Child e = refl
is_child_lem Substitute e = cc

six_products : (s : Service) → (terms s).products ≤ 6
six_products Response = omega arith
six_products Balancing = omega arith
six_products Quick = omega arith
six_products Slow = omega arith

module _ (m : Market) (good : Lawful m) where
  pub buy_window : (i : ℕ) → i < length m.buys → (buy_at m i).window < 32
  buy_window i h = let p = (good.buys i h).window in let q = good.few_windows in omega arith

  pub buy_product : (i : ℕ) → i < length m.buys → (buy_at m i).product < 6
  buy_product i h = let p = (good.buys i h).product in let q = six_products (window_at m (buy_at m i).window).service in omega arith

  pub basket_window : (b : ℕ) → b < length m.baskets → (basket_at m b).window < 32
  basket_window b h = let p = (good.baskets b h).window in let q = good.few_windows in omega arith

  pub extra_basket : (k : ℕ) → k < length m.extras → (extra_at m k).basket < length m.baskets
  extra_basket k h = (good.extras k h).basket

  pub extra_window_lem : (k : ℕ) → k < length m.extras → extra_window m k < 32
  extra_window_lem k h = basket_window (extra_at m k).basket (extra_basket k h)

  -- a basket covers its own first half hour
  pub covers_start : (b : ℕ) → b < length m.baskets → start_of m b < end_of m b
  covers_start b h = let l = (good.windows (basket_at m b).window (good.baskets b h).window).some in omega arith
