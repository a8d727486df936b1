-- A market: its windows, buys, baskets, and children and substitutes, each numbered from 0 as entered.
use Rattle.std.specs.Prelude.{◌≡◌, ℕ, ◌+◌, ◌<◌, ◌≤◌, Bool, true, false, List, [], ◌∷◌, ◌++◌, pos, slice_index, slice_index_or}
use Rattle.market.specs.declared.entries.Service.TheVariants.{Response}
use Rattle.market.specs.declared.entries.Window.{Window}
use Rattle.market.specs.declared.entries.Buy.{Buy}
use Rattle.market.specs.declared.entries.Basket.{Basket}
use Rattle.market.specs.declared.entries.Extra.{Extra}
use Rattle.market.specs.declared.entries.Role.{Role}
use Rattle.market.specs.declared.entries.Role.TheVariants.{Child, Substitute}
use Rattle.market.specs.declared.entries.Entry.{Entry}
use Rattle.market.specs.declared.entries.Entry.TheVariants.{OfWindow, OfBuy, OfBasket, OfExtra}

-- `extras` are the children and substitutes, which share one numbering.
pub record Market : Type 0 where
  pub windows : List Window
  pub buys : List Buy
  pub baskets : List Basket
  pub extras : List Extra

-- A market without entries.
abbrev pub empty : Market
empty = record { windows = []; buys = []; baskets = []; extras = [] }

-- What stands for an entry beyond the last: zeros.
abbrev pub no_window : Window
no_window = record { service = Response; start = 0; length = 0 }

abbrev pub no_buy : Buy
no_buy = record { window = 0; product = 0; quantity = 0; price = pos 0; family = 0; permit = false }

abbrev pub no_basket : Basket
no_basket = record { unit = 0; window = 0; ring = 0; quantities = []; price = pos 0 }

abbrev pub no_extra : Extra
no_extra = record { role = Child; basket = 0; quantities = []; price = pos 0 }

-- The window, the basket with a number.
abbrev pub window_in : List Window → ℕ → Window
window_in ws w = slice_index_or ws w no_window

abbrev pub basket_in : List Basket → ℕ → Basket
basket_in bs b = slice_index_or bs b no_basket

-- The entry of a market with a number.
abbrev pub window_at : Market → ℕ → Window
window_at m w = window_in m.windows w

abbrev pub buy_at : Market → ℕ → Buy
buy_at m i = slice_index_or m.buys i no_buy

abbrev pub basket_at : Market → ℕ → Basket
basket_at m b = basket_in m.baskets b

abbrev pub extra_at : Market → ℕ → Extra
extra_at m k = slice_index_or m.extras k no_extra

-- Two baskets, two children or substitutes have the same numbers, product by product.
pub record SameBasket (a b : Basket) : Type 0 where
  pub unit : a.unit ≡ b.unit
  pub window : a.window ≡ b.window
  pub ring : a.ring ≡ b.ring
  pub quantities : (p : ℕ) → slice_index a.quantities p ≡ slice_index b.quantities p
  pub price : a.price ≡ b.price

pub record SameExtra (a b : Extra) : Type 0 where
  pub role : a.role ≡ b.role
  pub basket : a.basket ≡ b.basket
  pub quantities : (p : ℕ) → slice_index a.quantities p ≡ slice_index b.quantities p
  pub price : a.price ≡ b.price

-- Whether it is a child, whether it is a substitute.
abbrev pub is_child : Role → Bool
is_child Child = true
is_child Substitute = false

abbrev pub is_substitute : Role → Bool
is_substitute Child = false
is_substitute Substitute = true

-- The half hour h is one of the window's.
abbrev pub Covers : Window → ℕ → Type 0
Covers w h = (w.start ≤ h) × (h < w.start + w.length)

-- Two windows share a half hour.
abbrev pub Share : Window → Window → Type 0
Share v w = (h : ℕ) × Covers v h × Covers w h

-- The market with one more entry.
abbrev pub put : Market → Entry → Market
put m (OfWindow w) = record { windows = m.windows ++ w ∷ []; buys = m.buys; baskets = m.baskets; extras = m.extras }
put m (OfBuy e) = record { windows = m.windows; buys = m.buys ++ e ∷ []; baskets = m.baskets; extras = m.extras }
put m (OfBasket b) = record { windows = m.windows; buys = m.buys; baskets = m.baskets ++ b ∷ []; extras = m.extras }
put m (OfExtra e) = record { windows = m.windows; buys = m.buys; baskets = m.baskets; extras = m.extras ++ e ∷ [] }
