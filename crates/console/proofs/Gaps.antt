-- That the two gaps are never below 0.
use Rattle.std.proofs.Common.{◌≡◌, true, ℤ, pos, ◌+ℤ◌, ◌*ℤ◌, neg_ℤ, ◌≤ℤ◌, Some, Option, subst, arith}
use mathlib.Core.Bool.{Bool-set}
use mathlib.Core.Logic.{∥∥₁_elim}
use lib.Signed.{le_z}
use Rattle.std.proofs.lemmas.Int.{ints}
use Rattle.market.specs.Market.{Market}
use Rattle.rules.specs.Clearings.{welfare}
use Rattle.rules.specs.Prices.{cost}
use Rattle.console.specs.declared.held.Held.{Held}
use Rattle.console.specs.Clears.{Kept}
use Rattle.console.specs.Law.{Rival, PriceRival, CoversRivals, CoversPrices}
use Rattle.console.specs.Standing.{parts_of, prices_of}

module _ (m : Market) (h : Held) where
  abbrev held_rival : Kept m h → Rival m
  held_rival k = record { D = 10000; some = omega arith; parts = parts_of h; clearing = k.parts; keeps = k.orders }

  abbrev held_prices : Kept m h → PriceRival m (parts_of h)
  held_prices k = record { D = 1; some = omega arith; prices = prices_of h; list = k.list; keeps = k.prices }

  below_rivals : (b : ℤ) → CoversRivals m (Some b) → Kept m h → le_z h.welfare b ≡ true
  below_rivals b c k =
      let e = k.welfare_is in
      let t : le_z (pos 10000 *ℤ welfare m (parts_of h)) (pos 10000 *ℤ b) ≡ true = c (held_rival k) in
      grind (arith, ints)

  -- the bound is not below the held welfare
  pub welfare_under : (o : Option ℤ) (b : ℤ) → o ≡ Some b → CoversRivals m o → ∥ Kept m h ∥₁ → h.welfare ≤ℤ b
  welfare_under o b e c k = let t = ∥∥₁_elim k (Bool-set (le_z h.welfare b) true) (below_rivals b (subst (CoversRivals m) e c)) in grind (arith, ints)

  below_prices : (b : ℤ) → CoversPrices m h (Some b) → Kept m h → le_z (pos 0) (b +ℤ pos 1000 *ℤ h.cost) ≡ true
  below_prices b c k =
      let e = k.cost_is in
      let t : le_z (neg_ℤ (pos 1000 *ℤ cost m (parts_of h) (prices_of h))) (pos 1 *ℤ b) ≡ true = c (held_prices k) in
      grind (arith, ints)

  pub cost_under : (o : Option ℤ) (b : ℤ) → o ≡ Some b → CoversPrices m h o → ∥ Kept m h ∥₁ → pos 0 ≤ℤ (b +ℤ pos 1000 *ℤ h.cost)
  cost_under o b e c k = let t = ∥∥₁_elim k (Bool-set (le_z (pos 0) (b +ℤ pos 1000 *ℤ h.cost)) true) (below_prices b (subst (CoversPrices m h) e c)) in grind (arith, ints)
