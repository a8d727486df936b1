-- Clearings that keep every rule.
use Rattle.std.proofs.Common.{◌≡◌, ℕ, zero, suc, ◌+◌, ◌*◌, ◌<◌, ◌≤◌, Bool, cond, ◌&&◌, eqb, ◌⊎◌, [], ◌∷◌, get_or, ℤ, pos, ◌+ℤ◌, ◌*ℤ◌, ◌≤ℤ◌, refl, ap, inl, inr, arith}
use Rattle.std.proofs.lemmas.Int.{ints}
use Rattle.std.proofs.lemmas.Bool.{ne_eqb}
use Rattle.numbers.specs.Sums.{sum_to}
use Rattle.market.specs.Figures.{market}
use Rattle.market.specs.Market.{basket_at, buy_at}
use Rattle.rules.specs.Clearings.{Exclude, KeepsOrders, family_parts, substitute_parts, bought, sold}
use Rattle.rules.specs.Prices.{KeepsPrices, basket_surplus}
use Rattle.rules.specs.Scratch.{parts_in, prices_in}
use Rattle.clearing.specs.Verdicts.{Keeps}
use Rattle.figures.specs.Figures.{full, half}
use Rattle.figures.proofs.Reading.{are_parts, are_prices, in_full, in_half}

-- no basket is in a loop, and no two are of one unit
pub no_loop : (b : ℕ) → b < 2 → (basket_at market b).ring ≡ 0
no_loop zero h = refl
no_loop (suc zero) h = refl
no_loop (suc (suc b)) h = absurd (omega arith)

other_units : (b c : ℕ) → b < 2 → c < 2 → Exclude market b c → ⊥
other_units zero zero h k e = e.two refl
other_units zero (suc zero) h k e = let u : ◌≡◌ {A = ℕ} 1 2 = e.unit in omega arith
other_units zero (suc (suc c)) h k e = omega arith
other_units (suc zero) zero h k e = let u : ◌≡◌ {A = ℕ} 2 1 = e.unit in omega arith
other_units (suc zero) (suc zero) h k e = e.two refl
other_units (suc zero) (suc (suc c)) h k e = omega arith
other_units (suc (suc b)) c h k e = omega arith

module _ (X : ℕ → ℤ) where
  -- the rules on orders, by the three orders' parts and the line's balance
  no_substitutes : pos 0 ≤ℤ X 64 → pos 0 ≤ℤ X 65 → (b : ℕ) → b < 2 → substitute_parts market X b ≤ℤ X (64 + b)
  unfolding sum_to
  no_substitutes p q zero h = p
  no_substitutes p q (suc zero) h = q
  no_substitutes p q (suc (suc b)) h = absurd (omega arith)

  no_family : (f : ℕ) → 1 ≤ f → family_parts market X f ≡ pos 0
  unfolding sum_to
  no_family f h = ap (λ (b : Bool). pos 0 +ℤ cond b (X 0) (pos 0)) (ne_eqb 0 f (λ e. omega arith))

  -- only window 0 has orders
  none_bought : (w p : ℕ) → 1 ≤ w → bought market X w p ≡ pos 0
  unfolding sum_to
  none_bought w p h = ap (λ (b : Bool). pos 0 +ℤ cond (b && eqb 0 p) (pos 40 *ℤ X 0) (pos 0)) (ne_eqb 0 w (λ e. omega arith))

  none_sold : (w p : ℕ) → 1 ≤ w → sold market X w p ≡ pos 0
  unfolding sum_to
  none_sold w p h =
      let q : ℕ = get_or (20 ∷ 0 ∷ 0 ∷ 0 ∷ 0 ∷ 0 ∷ []) p 0 in
      ap (λ (b : Bool). ((pos 0 +ℤ cond b (pos q *ℤ X 64) (pos 0)) +ℤ cond b (pos q *ℤ X 65) (pos 0)) +ℤ pos 0) (ne_eqb 0 w (λ e. omega arith))

  wholes : (X 64 ≡ pos 0) ⊎ (X 64 ≡ pos 10000) → (X 65 ≡ pos 0) ⊎ (X 65 ≡ pos 10000) → (b : ℕ) → b < 2 → (X (64 + b) ≡ pos 0) ⊎ (X (64 + b) ≡ pos 10000)
  wholes p q zero h = p
  wholes p q (suc zero) h = q
  wholes p q (suc (suc b)) h = absurd (omega arith)

  orders : (X 64 ≡ pos 0) ⊎ (X 64 ≡ pos 10000) → (X 65 ≡ pos 0) ⊎ (X 65 ≡ pos 10000) → pos 0 ≤ℤ X 64 → pos 0 ≤ℤ X 65
      → ((w p : ℕ) → p < 6 → bought market X w p ≤ℤ sold market X w p) → KeepsOrders market 10000 X
  orders p q r s t = record {
    whole_parents = wholes p q;
    children = λ k h c. absurd (omega arith);
    substitutes = no_substitutes r s;
    families = λ f g h. let e = no_family f g in omega (arith, ints);
    loops = λ b c h k e z. absurd (z (no_loop b h));
    units = λ b c h k e y z. other_units b c h k e;
    balance = λ w p h k. t w p k;
  }

full_balance : (price w p : ℕ) → p < 6 → bought market (parts_in (full price)) w p ≤ℤ sold market (parts_in (full price)) w p
unfolding sum_to
full_balance price zero zero h = omega (arith, ints)
full_balance price zero (suc zero) h = omega (arith, ints)
full_balance price zero (suc (suc zero)) h = omega (arith, ints)
full_balance price zero (suc (suc (suc zero))) h = omega (arith, ints)
full_balance price zero (suc (suc (suc (suc zero)))) h = omega (arith, ints)
full_balance price zero (suc (suc (suc (suc (suc zero))))) h = omega (arith, ints)
full_balance price zero (suc (suc (suc (suc (suc (suc p)))))) h = absurd (omega arith)
full_balance price (suc w) p h =
    let a = none_bought (parts_in (full price)) (suc w) p (omega arith) in
    let b = none_sold (parts_in (full price)) (suc w) p (omega arith) in
    omega (arith, ints)

half_balance : (w p : ℕ) → p < 6 → bought market (parts_in half) w p ≤ℤ sold market (parts_in half) w p
unfolding sum_to
half_balance zero zero h = omega (arith, ints)
half_balance zero (suc zero) h = omega (arith, ints)
half_balance zero (suc (suc zero)) h = omega (arith, ints)
half_balance zero (suc (suc (suc zero))) h = omega (arith, ints)
half_balance zero (suc (suc (suc (suc zero)))) h = omega (arith, ints)
half_balance zero (suc (suc (suc (suc (suc zero))))) h = omega (arith, ints)
half_balance zero (suc (suc (suc (suc (suc (suc p)))))) h = absurd (omega arith)
half_balance (suc w) p h =
    let a = none_bought (parts_in half) (suc w) p (omega arith) in
    let b = none_sold (parts_in half) (suc w) p (omega arith) in
    omega (arith, ints)

pub full_orders : (price : ℕ) → KeepsOrders market 10000 (parts_in (full price))
full_orders price = orders (parts_in (full price)) (inr refl) (inr refl) (omega (arith, ints)) (omega (arith, ints)) (full_balance price)

half_orders : KeepsOrders market 10000 (parts_in half)
half_orders = orders (parts_in half) (inr refl) (inl refl) (omega (arith, ints)) (omega (arith, ints)) half_balance

module _ (X Y : ℕ → ℤ) where
  surpluses : pos 0 ≤ℤ basket_surplus market X 1 Y 0 → pos 0 ≤ℤ basket_surplus market X 1 Y 1 → (b : ℕ) → b < 2 → pos 0 ≤ℤ basket_surplus market X 1 Y b
  surpluses p q zero h = p
  surpluses p q (suc zero) h = q
  surpluses p q (suc (suc b)) h = absurd (omega arith)

  charged : Y 0 ≤ℤ pos 9000 → (i : ℕ) → i < 1 → Y (6 * (buy_at market i).window + (buy_at market i).product) ≤ℤ (pos 1 *ℤ (buy_at market i).price)
  charged y zero h = y
  charged y (suc i) h = absurd (omega arith)

  pub prices : pos 0 ≤ℤ basket_surplus market X 1 Y 0 → pos 0 ≤ℤ basket_surplus market X 1 Y 1 → Y 0 ≤ℤ pos 9000 → KeepsPrices market X 1 Y
  prices p q y = record {
    extras = λ k h x. absurd (omega arith);
    unlooped = λ b h z. surpluses p q b h;
    loops = λ b h z. absurd (z (no_loop b h));
    buys = λ i h x z. charged y i h;
  }

first_at_7000 : (price : ℕ) → basket_surplus market (parts_in (full price)) 1 (prices_in (full 7000)) 0 ≡ pos 800000000
unfolding sum_to
first_at_7000 price = refl

second_at_7000 : (price : ℕ) → basket_surplus market (parts_in (full price)) 1 (prices_in (full 7000)) 1 ≡ pos 0
unfolding sum_to
second_at_7000 price = refl

-- any such parts keep the rules at 70.00
pub prices_7000 : (price : ℕ) → KeepsPrices market (parts_in (full price)) 1 (prices_in (full 7000))
prices_7000 price = prices (parts_in (full price)) (prices_in (full 7000))
    (let e = first_at_7000 price in omega (arith, ints)) (let e = second_at_7000 price in omega (arith, ints)) (omega (arith, ints))

first_at_9000 : basket_surplus market (parts_in (full 9000)) 1 (prices_in (full 9000)) 0 ≡ pos 1200000000
unfolding sum_to
first_at_9000 = refl

second_at_9000 : basket_surplus market (parts_in (full 9000)) 1 (prices_in (full 9000)) 1 ≡ pos 400000000
unfolding sum_to
second_at_9000 = refl

first_half : basket_surplus market (parts_in half) 1 (prices_in half) 0 ≡ pos 0
unfolding sum_to
first_half = refl

second_half : basket_surplus market (parts_in half) 1 (prices_in half) 1 ≡ pos 0
unfolding sum_to
second_half = refl

pub keeps_7000 : Keeps market (full 7000) (record { welfare = pos 1600000000; cost = pos 2800000000 })
unfolding sum_to
keeps_7000 = record {
  parts = are_parts (in_full 7000) (refl, (refl, (refl, (refl, tt))));
  orders = full_orders 7000;
  list = are_prices (in_full 7000) (refl, (refl, (refl, (refl, tt))));
  prices = prices_7000 7000;
  welfare_is = refl;
  cost_is = refl;
}

pub keeps_9000 : Keeps market (full 9000) (record { welfare = pos 1600000000; cost = pos 3600000000 })
unfolding sum_to
keeps_9000 = record {
  parts = are_parts (in_full 9000) (refl, (refl, (refl, (refl, tt))));
  orders = full_orders 9000;
  list = are_prices (in_full 9000) (refl, (refl, (refl, (refl, tt))));
  prices = prices (parts_in (full 9000)) (prices_in (full 9000)) (let e = first_at_9000 in omega (arith, ints)) (let e = second_at_9000 in omega (arith, ints)) (omega (arith, ints));
  welfare_is = refl;
  cost_is = refl;
}

pub keeps_half : Keeps market half (record { welfare = pos 1200000000; cost = pos 600000000 })
unfolding sum_to
keeps_half = record {
  parts = are_parts in_half (refl, (refl, (refl, tt)));
  orders = half_orders;
  list = are_prices in_half (refl, (refl, (refl, tt)));
  prices = prices (parts_in half) (prices_in half) (let e = first_half in omega (arith, ints)) (let e = second_half in omega (arith, ints)) (omega (arith, ints));
  welfare_is = refl;
  cost_is = refl;
}
