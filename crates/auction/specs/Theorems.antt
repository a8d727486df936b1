-- What the points of the two programmes are, and what a bound of their objectives says of an auction, in the words of its rules.
use Rattle.std.specs.Prelude.{◌≡◌, ℕ, ◌≤◌, ℤ, pos, ◌+ℤ◌, ◌-ℤ◌, ◌*ℤ◌, neg_ℤ, ◌≤ℤ◌}
use Rattle.bound.specs.Points.{Point, objective_at, Bounds}
use Rattle.market.specs.Market.{Market}
use Rattle.market.specs.Lawful.{Lawful}
use Rattle.rules.specs.Clearings.{Clearing, KeepsOrders, welfare}
use Rattle.rules.specs.Prices.{PriceList, KeepsPrices, cost}
use Rattle.auction.specs.Acceptance.{acceptance}
use Rattle.auction.specs.Pricing.{pricing}

-- X is a point of the acceptance programme over D exactly when it is a clearing over D that keeps the rules on orders, and its objective is its welfare.
abbrev pub PointsAreClearings : Type 0
PointsAreClearings = (m : Market) → Lawful m → (D : ℕ) → 1 ≤ D → (X : ℕ → ℤ)
    → (Point (acceptance m) D X → Clearing m D X × KeepsOrders m D X)
    × (Clearing m D X × KeepsOrders m D X → Point (acceptance m) D X)
    × (objective_at (acceptance m) X ≡ welfare m X)

-- Y is a point of the price programme over D exactly when it is a price list over D that keeps the price rules for the parts X, and its objective is minus its cost.
abbrev pub PointsArePriceLists : Type 0
PointsArePriceLists = (m : Market) → Lawful m → (X : ℕ → ℤ) (D : ℕ) (Y : ℕ → ℤ)
    → (Point (pricing m X) D Y → PriceList m D Y × KeepsPrices m X D Y)
    × (PriceList m D Y × KeepsPrices m X D Y → Point (pricing m X) D Y)
    × (objective_at (pricing m X) Y ≡ neg_ℤ (cost m X Y))

-- b bounds the welfare of a market: 10,000 × the welfare of every clearing over any D that keeps the rules on orders is at most D × b.
abbrev pub BoundsWelfare : Market → ℤ → Type 0
BoundsWelfare m b = (D : ℕ) → 1 ≤ D → (X : ℕ → ℤ) → Clearing m D X → KeepsOrders m D X → (pos 10000 *ℤ welfare m X) ≤ℤ (pos D *ℤ b)

-- b bounds what can be saved on the parts X: no price list over any D that keeps the price rules costs less than a cost that is held, beyond the price gap.
-- The price gap is b + 1,000 × the held cost.
abbrev pub BoundsSaving : Market → (ℕ → ℤ) → ℤ → Type 0
BoundsSaving m X b = (held : ℤ) (D : ℕ) → 1 ≤ D → (Y : ℕ → ℤ) → PriceList m D Y → KeepsPrices m X D Y
    → (pos 1000 *ℤ (pos D *ℤ held -ℤ cost m X Y)) ≤ℤ (pos D *ℤ (b +ℤ pos 1000 *ℤ held))

-- A bound of the acceptance programme bounds welfare, one of the price programme bounds the saving.
abbrev pub WelfareStaysBelow : Type 0
WelfareStaysBelow = (m : Market) → Lawful m → (b : ℤ) → Bounds (acceptance m) b → BoundsWelfare m b

abbrev pub CostsStayAbove : Type 0
CostsStayAbove = (m : Market) → Lawful m → (X : ℕ → ℤ) (b : ℤ) → Bounds (pricing m X) b → BoundsSaving m X b
