-- Clearings of a market over a denominator D, the rules on orders and on balance, and welfare.
-- X gives each variable its parts: buy i is variable i, the parent of basket b is 64 + b, child or substitute k is 160 + k.
use Rattle.std.specs.Prelude.{◌≡◌, ℕ, ◌+◌, ◌<◌, ◌≤◌, cond, ◌&&◌, ◌⊎◌, List, length, ℤ, pos, ◌+ℤ◌, ◌-ℤ◌, ◌*ℤ◌, ◌≤ℤ◌, ◌<ℤ◌, ◌==◌, ◌≢◌, slice_index}
use Rattle.numbers.specs.Sums.{sum_to}
use Rattle.market.specs.declared.entries.Role.TheVariants.{Child}
use Rattle.market.specs.Market.{Market, window_at, buy_at, basket_at, extra_at, is_substitute}

-- from none to all of D parts
abbrev pub Parts : ℕ → ℤ → Type 0
Parts D x = (pos 0 ≤ℤ x) × (x ≤ℤ pos D)

-- Each entered order has from 0 to D parts, and what is not entered has none.
pub record Clearing (m : Market) (D : ℕ) (X : ℕ → ℤ) : Type 0 where
  pub buys : (i : ℕ) → i < length m.buys → Parts D (X i)
  pub baskets : (b : ℕ) → b < length m.baskets → Parts D (X (64 + b))
  pub extras : (k : ℕ) → k < length m.extras → Parts D (X (160 + k))
  pub no_other_buy : (i : ℕ) → length m.buys ≤ i → i < 64 → X i ≡ pos 0
  pub no_other_basket : (b : ℕ) → length m.baskets ≤ b → b < 96 → X (64 + b) ≡ pos 0
  pub no_other_extra : (k : ℕ) → length m.extras ≤ k → k < 96 → X (160 + k) ≡ pos 0

-- a child or substitute is sold in its basket's window
abbrev pub extra_window : Market → ℕ → ℕ
extra_window m k = (basket_at m (extra_at m k).basket).window

-- the window of basket b has the half hour h
abbrev pub Covers : Market → ℕ → ℕ → Type 0
Covers m b h =
    ((window_at m (basket_at m b).window).start ≤ h)
    × (h < (window_at m (basket_at m b).window).start + (window_at m (basket_at m b).window).length)

-- two baskets of one unit share a half hour, so at most one of them may be accepted
pub record Exclude (m : Market) (b c : ℕ) : Type 0 where
  pub two : b ≡ c → ⊥
  pub unit : (basket_at m b).unit ≡ (basket_at m c).unit
  pub hour : ℕ
  pub first : Covers m b hour
  pub second : Covers m c hour

-- the parts of k if it is a substitute of basket b, else none
abbrev pub substitute_part : Market → (ℕ → ℤ) → ℕ → ℕ → ℤ
substitute_part m X b k = cond (is_substitute (extra_at m k).role && (extra_at m k).basket == b) (X (160 + k)) (pos 0)

-- the parts of the substitutes of basket b together
abbrev pub substitute_parts : Market → (ℕ → ℤ) → ℕ → ℤ
substitute_parts m X b = sum_to (length m.extras) (substitute_part m X b)

-- the parts of buy i if it is of family f, else none
abbrev pub family_part : Market → (ℕ → ℤ) → ℕ → ℕ → ℤ
family_part m X f i = cond ((buy_at m i).family == f) (X i) (pos 0)

-- the parts of the buys of family f together
abbrev pub family_parts : Market → (ℕ → ℤ) → ℕ → ℤ
family_parts m X f = sum_to (length m.buys) (family_part m X f)

-- quantity × parts of buy i if it is of product p in window w
abbrev pub bought_by : Market → (ℕ → ℤ) → ℕ → ℕ → ℕ → ℤ
bought_by m X w p i = cond ((buy_at m i).window == w && (buy_at m i).product == p) (pos (buy_at m i).quantity *ℤ X i) (pos 0)

-- quantity × parts over the buys of product p in window w
abbrev pub bought : Market → (ℕ → ℤ) → ℕ → ℕ → ℤ
bought m X w p = sum_to (length m.buys) (bought_by m X w p)

-- quantity × parts of product p that the parent of basket b, that child or substitute k sells in window w
abbrev pub sold_by_parent : Market → (ℕ → ℤ) → ℕ → ℕ → ℕ → ℤ
sold_by_parent m X w p b = cond ((basket_at m b).window == w) (pos (slice_index (basket_at m b).quantities p) *ℤ X (64 + b)) (pos 0)

abbrev pub sold_by_extra : Market → (ℕ → ℤ) → ℕ → ℕ → ℕ → ℤ
sold_by_extra m X w p k = cond (extra_window m k == w) (pos (slice_index (extra_at m k).quantities p) *ℤ X (160 + k)) (pos 0)

-- quantity × parts over the sells of product p in window w: parents, children and substitutes
abbrev pub sold : Market → (ℕ → ℤ) → ℕ → ℕ → ℤ
sold m X w p = sum_to (length m.baskets) (sold_by_parent m X w p) +ℤ sum_to (length m.extras) (sold_by_extra m X w p)

-- The rules on orders, and the balance of each line.
pub record KeepsOrders (m : Market) (D : ℕ) (X : ℕ → ℤ) : Type 0 where
  -- a parent has no parts or all
  pub whole_parents : (b : ℕ) → b < length m.baskets → (X (64 + b) ≡ pos 0) ⊎ (X (64 + b) ≡ pos D)
  -- a child has no more parts than its parent
  pub children : (k : ℕ) → k < length m.extras → (extra_at m k).role ≡ Child → X (160 + k) ≤ℤ X (64 + (extra_at m k).basket)
  -- the substitutes of a basket together have no more parts than its parent
  pub substitutes : (b : ℕ) → b < length m.baskets → substitute_parts m X b ≤ℤ X (64 + b)
  -- the buys of a family together have at most D parts
  pub families : (f : ℕ) → 1 ≤ f → f ≤ 64 → family_parts m X f ≤ℤ pos D
  -- the parents of a loop have equal parts
  pub loops : (b c : ℕ) → b < length m.baskets → c < length m.baskets
      → (basket_at m b).ring ≡ (basket_at m c).ring → ((basket_at m b).ring ≢ 0) → X (64 + b) ≡ X (64 + c)
  -- of two baskets that exclude each other at most one is accepted
  pub units : (b c : ℕ) → b < length m.baskets → c < length m.baskets → Exclude m b c → pos 0 <ℤ X (64 + b) → pos 0 <ℤ X (64 + c) → ⊥
  -- on each line no more is bought than sold
  pub balance : (w p : ℕ) → w < 32 → p < 6 → bought m X w p ≤ℤ sold m X w p

-- what some quantity of an order is worth at a price: price × quantity × parts
abbrev pub worth : ℤ → ℕ → ℤ → ℤ
worth price quantity parts = price *ℤ pos quantity *ℤ parts

-- a sell order's worth at its own price: on one product, and over all six
abbrev pub product_worth : ℤ → List ℕ → ℤ → ℕ → ℤ
product_worth price quantities parts p = worth price (slice_index quantities p) parts

abbrev pub sell_worth : ℤ → List ℕ → ℤ → ℤ
sell_worth price quantities parts = sum_to 6 (product_worth price quantities parts)

-- what each order is worth at its own price: a buy, the parent of a basket, a child or substitute
abbrev pub buy_worth : Market → (ℕ → ℤ) → ℕ → ℤ
buy_worth m X i = worth (buy_at m i).price (buy_at m i).quantity (X i)

abbrev pub parent_worth : Market → (ℕ → ℤ) → ℕ → ℤ
parent_worth m X b = sell_worth (basket_at m b).price (basket_at m b).quantities (X (64 + b))

abbrev pub extra_worth : Market → (ℕ → ℤ) → ℕ → ℤ
extra_worth m X k = sell_worth (extra_at m k).price (extra_at m k).quantities (X (160 + k))

-- welfare: what buys are worth, less what sells are worth
abbrev pub welfare : Market → (ℕ → ℤ) → ℤ
welfare m X =
    sum_to (length m.buys) (buy_worth m X)
    -ℤ (sum_to (length m.baskets) (parent_worth m X) +ℤ sum_to (length m.extras) (extra_worth m X))
