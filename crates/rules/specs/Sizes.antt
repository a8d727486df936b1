-- How large the numbers of an entered order are, so that no sum of them passes 64 bits.
use Rattle.std.specs.Prelude.{ℕ, ◌<◌, ◌≤◌, List, length, slice_index}
use Rattle.numbers.specs.Sums.{Within}
use Rattle.market.specs.declared.entries.Buy.{Buy}
use Rattle.market.specs.declared.entries.Basket.{Basket}
use Rattle.market.specs.declared.entries.Extra.{Extra}
use Rattle.market.specs.Market.{Market}

pub record SmallBuy (o : Buy) : Type 0 where
  pub window : o.window < 32
  pub product : o.product < 6
  pub quantity : o.quantity ≤ 9999
  pub price : Within 99999 o.price

-- The six quantities of a sell order.
abbrev pub Small : List ℕ → Type 0
Small quantities = (p : ℕ) → p < 6 → slice_index quantities p ≤ 999

pub record SmallBasket (o : Basket) : Type 0 where
  pub window : o.window < 32
  pub quantities : Small o.quantities
  pub price : Within 99999 o.price

pub record SmallExtra (m : Market) (o : Extra) : Type 0 where
  pub basket : o.basket < length m.baskets
  pub quantities : Small o.quantities
  pub price : Within 99999 o.price
