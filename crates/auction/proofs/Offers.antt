-- What is measured of a sell order, by the entry that it is.
use Rattle.std.proofs.Common.{◌≡◌, ℕ, ◌/◌, ◌%◌, cond, eqb, List, get_or, ℤ, pos, refl, sym, ap₂, ◌∙◌, subst, arith}
use Rattle.numbers.specs.Sums.{Within}
use Rattle.market.specs.Market.{Market, basket_at, extra_at}
use Rattle.rules.specs.Clearings.{extra_window}
use Rattle.auction.specs.declared.rows.Measure.{Measure}
use Rattle.auction.specs.declared.rows.Measure.TheVariants.{On, Value}
use Rattle.auction.specs.Orders.{total, order_value, offered}
use Rattle.auction.specs.Pricing.{parent_measure, extra_measure}

-- the same quantities have the same total
same_total : (qs rs : List ℕ) → ((p : ℕ) → get_or qs p 0 ≡ get_or rs p 0) → total qs ≡ total rs
same_total qs rs h = omega (arith, h 0, h 1, h 2, h 3, h 4, h 5)

-- the same window, quantities and price are the same offer
same_offer : (v w : ℕ) (qs rs : List ℕ) (p q : ℤ) → v ≡ w → ((i : ℕ) → get_or qs i 0 ≡ get_or rs i 0) → p ≡ q → (a : Measure) → offered v qs p a ≡ offered w rs q a
same_offer v w qs rs p q e h f (On l) = ap₂ (λ (u n : ℕ). pos (cond (eqb u (l / 6)) n 0)) e (h (l % 6))
same_offer v w qs rs p q e h f Value = ap₂ order_value f (same_total qs rs h)

module _ (m : Market) where
  parent_entry : (b : ℕ) (a : Measure) → offered (basket_at m b).window (basket_at m b).quantities (basket_at m b).price a ≡ parent_measure m a b
  parent_entry b (On l) = refl
  parent_entry b Value = refl

  extra_entry : (k : ℕ) (a : Measure) → offered (extra_window m k) (extra_at m k).quantities (extra_at m k).price a ≡ extra_measure m a k
  extra_entry k (On l) = refl
  extra_entry k Value = refl

  pub parent_offer : (b v : ℕ) (qs : List ℕ) (p : ℤ) → v ≡ (basket_at m b).window → ((i : ℕ) → get_or qs i 0 ≡ get_or (basket_at m b).quantities i 0) → p ≡ (basket_at m b).price
      → (a : Measure) → offered v qs p a ≡ parent_measure m a b
  parent_offer b v qs p e h f a = same_offer v _ qs _ p _ e h f a ∙ parent_entry b a

  pub extra_offer : (k v : ℕ) (qs : List ℕ) (p : ℤ) → v ≡ extra_window m k → ((i : ℕ) → get_or qs i 0 ≡ get_or (extra_at m k).quantities i 0) → p ≡ (extra_at m k).price
      → (a : Measure) → offered v qs p a ≡ extra_measure m a k
  extra_offer k v qs p e h f a = same_offer v _ qs _ p _ e h f a ∙ extra_entry k a

-- a number of a known size
pub sized : (size : ℕ) (y z : ℤ) → z ≡ y → Within size y → Within size z
sized size y z e h = subst (λ (x : ℤ). Within size x) (sym e) h
