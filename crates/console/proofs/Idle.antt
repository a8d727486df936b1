-- The empty clearing at prices 0 keeps every rule of every market, and is worth nothing.
use Rattle.std.proofs.Common.{◌≡◌, ℕ, zero, suc, ◌+◌, Bool, true, false, cond, ◌&&◌, eqb, List, [], ◌∷◌, length, get_or, replicate, ◌<◌, ℤ, pos, negsuc, ◌+ℤ◌, ◌-ℤ◌, ◌*ℤ◌, ◌≤ℤ◌, sym, refl, ap, ◌∙◌, subst, inl, arith}
use lib.IntN.{zero-*ℤ}
use Rattle.std.proofs.lemmas.Int.{ints}
use Rattle.numbers.specs.Sums.{sum_to}
use Rattle.numbers.proofs.Sums.{sum_zero}
use Rattle.market.specs.Market.{Market, buy_at, basket_at, extra_at, is_substitute}
use Rattle.rules.specs.Clearings.{Parts, Clearing, KeepsOrders, extra_window, substitute_parts, family_parts, bought, sold, welfare}
use Rattle.rules.specs.Prices.{PriceList, KeepsPrices, gain, basket_extra, basket_surplus, loop_basket, loop_surplus, extra_surplus, cost}
use Rattle.rules.specs.Scratch.{parts_in, prices_in}
use Rattle.clearing.specs.Marks.{zeros}
use Rattle.clearing.specs.Verdicts.{Keeps}
use Rattle.console.specs.declared.held.Held.{Held}
use Rattle.console.specs.Law.{sized}
use Rattle.console.specs.Standing.{parts_of, idle}
use Rattle.console.proofs.Laws.{same_held, sized_from}

-- what a console begins with is the empty clearing
zeros_of : (n : ℕ) (xs : List ℤ) → length xs ≡ n → ((i : ℕ) (d : ℤ) → i < n → get_or xs i d ≡ pos 0) → xs ≡ replicate n (pos 0)
zeros_of zero [] l z = refl
zeros_of zero (x ∷ xs) l z = absurd (omega arith)
zeros_of (suc n) [] l z = absurd (omega arith)
zeros_of (suc n) (x ∷ xs) l z = let e = z 0 x (omega arith) in let t = zeros_of n xs (omega arith) (λ i d h. z (suc i) d (omega arith)) in cc

pub default_idle : (h : Held) → length h.numbers ≡ 448 → ((i : ℕ) (d : ℤ) → i < 448 → get_or h.numbers i d ≡ pos 0) → h.welfare ≡ pos 0 → h.cost ≡ pos 0 → h ≡ idle
default_idle h l z w k = same_held h idle (zeros_of 448 h.numbers l z) w k

-- nothing anywhere
abbrev nil : ℕ → ℤ
nil v = pos 0

rep_at : (n v : ℕ) → get_or (replicate n (pos 0)) v (pos 0) ≡ pos 0
rep_at zero v = refl
rep_at (suc n) zero = refl
rep_at (suc n) (suc v) = rep_at n v

parts_nil : parts_in zeros ≡ nil
parts_nil = λ i v. rep_at 448 v i

prices_nil : prices_in zeros ≡ nil
prices_nil = λ i l. rep_at 448 (256 + l) i

if_same : (b : Bool) (z : ℤ) → z ≡ pos 0 → cond b z (pos 0) ≡ pos 0
if_same true z e = e
if_same false z e = refl

by_zero : (z : ℤ) → z *ℤ pos 0 ≡ pos 0
by_zero (pos n) = omega (arith, ints)
by_zero (negsuc n) = omega (arith, ints)

zero_le : (z : ℤ) → z ≡ pos 0 → z ≤ℤ pos 0
zero_le z e = omega (arith, ints)

le_zero : (z : ℤ) → z ≡ pos 0 → pos 0 ≤ℤ z
le_zero z e = omega (arith, ints)

-- a sum of tested products by nothing
tested : (n : ℕ) (test : ℕ → Bool) (f : ℕ → ℤ) → sum_to n (λ i. cond (test i) (f i *ℤ pos 0) (pos 0)) ≡ pos 0
tested n test f = sum_zero n (λ i. cond (test i) (f i *ℤ pos 0) (pos 0)) (λ i h. if_same (test i) (f i *ℤ pos 0) (by_zero (f i)))

none_of : (n : ℕ) (test : ℕ → Bool) → sum_to n (λ i. cond (test i) (pos 0) (pos 0)) ≡ pos 0
none_of n test = sum_zero n (λ i. cond (test i) (pos 0) (pos 0)) (λ i h. if_same (test i) (pos 0) refl)

-- a sum of products by nothing, and of such sums
products : (n : ℕ) (f : ℕ → ℤ) → sum_to n (λ i. f i *ℤ pos 0) ≡ pos 0
products n f = sum_zero n (λ i. f i *ℤ pos 0) (λ i h. by_zero (f i))

sums : (n : ℕ) (f : ℕ → ℕ → ℤ) → sum_to n (λ i. sum_to 6 (λ p. f i p *ℤ pos 0)) ≡ pos 0
sums n f = sum_zero n (λ i. sum_to 6 (λ p. f i p *ℤ pos 0)) (λ i h. products 6 (f i))

both_zero : (a b : ℤ) → a ≡ pos 0 → b ≡ pos 0 → a +ℤ b ≡ pos 0
both_zero a b p q = omega (arith, ints)

module _ (m : Market) where
  no_bought : (w p : ℕ) → bought m nil w p ≡ pos 0
  no_bought w p = tested (length m.buys) (λ i. eqb (buy_at m i).window w && eqb (buy_at m i).product p) (λ i. pos (buy_at m i).quantity)

  no_sold : (w p : ℕ) → sold m nil w p ≡ pos 0
  no_sold w p = both_zero _ _
      (tested (length m.baskets) (λ b. eqb (basket_at m b).window w) (λ b. pos (get_or (basket_at m b).quantities p 0)))
      (tested (length m.extras) (λ k. eqb (extra_window m k) w) (λ k. pos (get_or (extra_at m k).quantities p 0)))

  no_orders : KeepsOrders m 10000 nil
  no_orders = record {
    whole_parents = λ b h. inl refl;
    children = λ k h r. omega (arith, ints);
    substitutes = λ b h. zero_le (substitute_parts m nil b) (none_of (length m.extras) (λ k. is_substitute (extra_at m k).role && eqb (extra_at m k).basket b));
    families = λ f a b. let e : family_parts m nil f ≡ pos 0 = none_of (length m.buys) (λ i. eqb (buy_at m i).family f) in omega (arith, ints);
    loops = λ b c h k e n. refl;
    units = λ b c h k x p. absurd (omega (arith, ints));
    balance = λ w p h k. let a = no_bought w p in let b = no_sold w p in omega (arith, ints);
  }

  no_other_extra : (k : ℕ) → extra_surplus m nil 1 nil k ≡ pos 0
  no_other_extra k = zero-*ℤ (sum_to 6 (gain 1 nil (extra_window m k) (extra_at m k).quantities (extra_at m k).price))

  no_surplus : (b : ℕ) → basket_surplus m nil 1 nil b ≡ pos 0
  no_surplus b = both_zero _ _
      (zero-*ℤ (sum_to 6 (gain 1 nil (basket_at m b).window (basket_at m b).quantities (basket_at m b).price)))
      (sum_zero (length m.extras) (basket_extra m nil 1 nil b) (λ k h. if_same (eqb (extra_at m k).basket b) (extra_surplus m nil 1 nil k) (no_other_extra k)))

  no_prices : KeepsPrices m nil 1 nil
  no_prices = record {
    extras = λ k h p. absurd (omega (arith, ints));
    unlooped = λ b h e. le_zero (basket_surplus m nil 1 nil b) (no_surplus b);
    loops = λ b h n. le_zero (loop_surplus m nil 1 nil (basket_at m b).ring) (sum_zero (length m.baskets) (loop_basket m nil 1 nil (basket_at m b).ring) (λ c l. if_same (eqb (basket_at m c).ring (basket_at m b).ring) (basket_surplus m nil 1 nil c) (no_surplus c)));
    buys = λ i h p. absurd (omega (arith, ints));
  }

  no_clearing : Clearing m 10000 nil
  no_clearing = record {
    buys = λ i h. (omega (arith, ints), omega (arith, ints));
    baskets = λ i h. (omega (arith, ints), omega (arith, ints));
    extras = λ i h. (omega (arith, ints), omega (arith, ints));
    no_other_buy = λ i h l. refl;
    no_other_basket = λ i h l. refl;
    no_other_extra = λ i h l. refl;
  }

  no_list : PriceList m 1 nil
  no_list = record {
    response = λ w p h s l. (omega (arith, ints), omega (arith, ints));
    reserve = λ w p h s l. (omega (arith, ints), omega (arith, ints));
    no_product = λ w p h s l k. refl;
    no_other_window = λ w p h l k. refl;
  }

  no_welfare : pos 0 ≡ welfare m nil
  no_welfare =
      let a = products (length m.buys) (λ i. (buy_at m i).price *ℤ pos (buy_at m i).quantity) in
      let b = sums (length m.baskets) (λ b p. (basket_at m b).price *ℤ pos (get_or (basket_at m b).quantities p 0)) in
      let c = sums (length m.extras) (λ k p. (extra_at m k).price *ℤ pos (get_or (extra_at m k).quantities p 0)) in
      worthless _ _ _ a b c
    where
      worthless : (a b c : ℤ) → a ≡ pos 0 → b ≡ pos 0 → c ≡ pos 0 → pos 0 ≡ a -ℤ (b +ℤ c)
      worthless a b c p q r = omega (arith, ints)

  no_cost : pos 0 ≡ cost m nil nil
  no_cost = sym (both_zero _ _
      (sums (length m.baskets) (λ b p. pos 0 *ℤ pos (get_or (basket_at m b).quantities p 0)))
      (sums (length m.extras) (λ k p. pos 0 *ℤ pos (get_or (extra_at m k).quantities p 0))))

  pub idle_keeps : Keeps m zeros (record { welfare = pos 0; cost = pos 0 })
  idle_keeps = record {
    parts = subst (Clearing m 10000) (sym parts_nil) no_clearing;
    orders = subst (KeepsOrders m 10000) (sym parts_nil) no_orders;
    list = subst (PriceList m 1) (sym prices_nil) no_list;
    prices = subst (λ (X : ℕ → ℤ). KeepsPrices m X 1 (prices_in zeros)) (sym parts_nil) (subst (λ (Y : ℕ → ℤ). KeepsPrices m nil 1 Y) (sym prices_nil) no_prices);
    welfare_is = no_welfare ∙ ap (welfare m) (sym parts_nil);
    cost_is = no_cost ∙ ap (λ (X : ℕ → ℤ). cost m X nil) (sym parts_nil) ∙ ap (λ (Y : ℕ → ℤ). cost m (parts_in zeros) Y) (sym prices_nil);
  }

pub idle_parts : (v : ℕ) → Parts 10000 (parts_of idle v)
idle_parts v = let e = rep_at 448 v in (omega (arith, ints), omega (arith, ints))

pub idle_sized : (v : ℕ) → sized idle v ≡ true
idle_sized v = sized_from idle v (idle_parts v)
