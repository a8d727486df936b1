-- What the code reads of a sell order.
use Rattle.std.specs.Prelude.{◌≡◌, ℕ, ◌+◌, List, ℤ}
use Rattle.market.specs.Market.{Market, basket_at, extra_at}
use Rattle.rules.specs.Clearings.{extra_window}
use Rattle.rules.specs.declared.sales.Sale.{Sale}

-- the sale is in the window, of the quantities, at the price, with the parts
pub record Sells (s : Sale) (window : ℕ) (quantities : List ℕ) (price parts : ℤ) : Type 0 where
  pub window_is : s.window ≡ window
  pub quantities_are : s.quantities ≡ quantities
  pub price_is : s.price ≡ price
  pub parts_are : s.parts ≡ parts

-- the answer z is given of what the parent of basket b sells
pub record OfParent (m : Market) (X : ℕ → ℤ) (answers : Sale → ℤ → Type 0) (b : ℕ) (z : ℤ) : Type 0 where
  pub sale : Sale
  pub sells : Sells sale (basket_at m b).window (basket_at m b).quantities (basket_at m b).price (X (64 + b))
  pub answer : answers sale z

-- and of what child or substitute k sells
pub record OfExtra (m : Market) (X : ℕ → ℤ) (answers : Sale → ℤ → Type 0) (k : ℕ) (z : ℤ) : Type 0 where
  pub sale : Sale
  pub sells : Sells sale (extra_window m k) (extra_at m k).quantities (extra_at m k).price (X (160 + k))
  pub answer : answers sale z
