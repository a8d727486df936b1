-- What the two gaps of a console promise, over every denominator, whatever files it was handed.
use Rattle.std.specs.Prelude.{◌≡◌, ℕ, ◌≤◌, Bool, true, ◌&&◌, ℤ, pos, ◌+ℤ◌, ◌-ℤ◌, ◌*ℤ◌, neg_ℤ, ◌≤ℤ◌, Some, None, Option, int_le}
use Rattle.market.specs.Market.{Market}
use Rattle.rules.specs.Clearings.{Clearing, KeepsOrders, welfare}
use Rattle.rules.specs.Prices.{PriceList, KeepsPrices, cost}
use Rattle.console.specs.declared.held.Held.{Held}
use Rattle.console.specs.Standing.{Standing, parts_of, gap, price_gap}

-- a rival: any clearing of the market over any denominator that keeps the rules on orders and the balance
pub record Rival (m : Market) : Type 0 where
  pub D : ℕ
  pub some : 1 ≤ D
  pub parts : ℕ → ℤ
  pub clearing : Clearing m D parts
  pub keeps : KeepsOrders m D parts

-- a price rival: any price list over any denominator that keeps the price rules for the parts X
pub record PriceRival (m : Market) (X : ℕ → ℤ) : Type 0 where
  pub D : ℕ
  pub some : 1 ≤ D
  pub prices : ℕ → ℤ
  pub list : PriceList m D prices
  pub keeps : KeepsPrices m X D prices

-- While a gap stands, no rival has more welfare than the held clearing and the gap: 10,000 × its welfare ≤ D × (held welfare + gap).
abbrev pub GapCovers : Standing → Type 0
GapCovers s = (g : ℤ) → gap s ≡ Some g → (r : Rival s.market) → (pos 10000 *ℤ welfare s.market r.parts) ≤ℤ (pos r.D *ℤ (s.held.welfare +ℤ g))

-- While a price gap stands, no price list for the held parts saves more than it: 1,000 × (D × held cost − its cost) ≤ D × price gap.
abbrev pub PriceGapCovers : Standing → Type 0
PriceGapCovers s = (g : ℤ) → price_gap s ≡ Some g → (r : PriceRival s.market (parts_of s.held))
    → (pos 1000 *ℤ (pos r.D *ℤ s.held.cost -ℤ cost s.market (parts_of s.held) r.prices)) ≤ℤ (pos r.D *ℤ g)

-- The same laws in the form that a console's type carries: a bound, where there is one, is not below any rival.
abbrev pub covers : Option ℤ → ℕ → ℤ → Bool
covers None D z = true
covers (Some b) D z = int_le z (pos D *ℤ b)

abbrev pub CoversRivals : Market → Option ℤ → Type 0
CoversRivals m o = (r : Rival m) → covers o r.D (pos 10000 *ℤ welfare m r.parts) ≡ true

abbrev pub CoversPrices : Market → Held → Option ℤ → Type 0
CoversPrices m h o = (r : PriceRival m (parts_of h)) → covers o r.D (neg_ℤ (pos 1000 *ℤ cost m (parts_of h) r.prices)) ≡ true

-- the parts of a variable are from 0 to 10,000
abbrev pub sized : Held → ℕ → Bool
sized h v = int_le (pos 0) (parts_of h v) && int_le (parts_of h v) (pos 10000)
