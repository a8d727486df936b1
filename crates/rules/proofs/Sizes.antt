-- The orders of a lawful market are of their sizes.
use Rattle.std.proofs.Common.{ℕ, ◌<◌, ◌≤◌, length, ℤ, arith}
use Rattle.std.proofs.lemmas.Int.{ints}
use Rattle.numbers.specs.Sums.{Within}
use Rattle.market.specs.declared.entries.Service.{Service}
use Rattle.market.specs.declared.entries.Service.TheVariants.{Response, Balancing, Quick, Slow}
use Rattle.market.specs.Services.{terms}
use Rattle.market.specs.Market.{Market, window_at, buy_at, basket_at, extra_at}
use Rattle.market.specs.Lawful.{Lawful, GoodPrice}
use Rattle.rules.specs.Sizes.{SmallBuy, SmallBasket, SmallExtra}

few_products : (s : Service) → (terms s).products ≤ 6
few_products Response = omega arith
few_products Balancing = omega arith
few_products Quick = omega arith
few_products Slow = omega arith

small_price : (s : Service) (z : ℤ) → GoodPrice s z → Within 99999 z
small_price Response z g = (omega (arith, ints, g.least), omega (arith, ints, g.most))
small_price Balancing z g = (omega (arith, ints, g.least), omega (arith, ints, g.most))
small_price Quick z g = (omega (arith, ints, g.least), omega (arith, ints, g.most))
small_price Slow z g = (omega (arith, ints, g.least), omega (arith, ints, g.most))

module _ (m : Market) (law : Lawful m) where
  pub small_buy : (i : ℕ) → i < length m.buys → SmallBuy (buy_at m i)
  small_buy i l =
      let g = law.buys i l in
      let n = law.few_windows in
      record { window = omega (arith, g.window); product = omega (arith, g.product, few_products (window_at m (buy_at m i).window).service); quantity = g.most; price = small_price _ _ g.price }

  pub small_basket : (b : ℕ) → b < length m.baskets → SmallBasket (basket_at m b)
  small_basket b l =
      let g = law.baskets b l in
      record { window = omega (arith, g.window, law.few_windows); quantities = g.quantities.most; price = small_price _ _ g.price }

  pub small_extra : (k : ℕ) → k < length m.extras → SmallExtra m (extra_at m k)
  small_extra k l =
      let g = law.extras k l in
      record { basket = g.basket; quantities = g.quantities.most; price = small_price _ _ g.price }
