-- The numbers of a file as a clearing and as a price list, in the words of the rules.
use Rattle.std.proofs.Common.{◌≡◌, ℕ, ◌+◌, ◌*◌, ◌/◌, ◌%◌, ◌<◌, ◌≤◌, true, false, ltb, List, length, get_or, ℤ, pos, ◌≤ℤ◌, refl, ⊎_elim, arith}
use lib.Signed.{le_z}
use Rattle.std.proofs.lemmas.Int.{ints}
use Rattle.std.proofs.lemmas.Bool.{ltb-true, and_parts}
use Rattle.std.proofs.lemmas.Bool.Decides.{nat_tests}
use Rattle.market.specs.declared.entries.Service.{Service}
use Rattle.market.specs.declared.entries.Service.TheVariants.{Response, Balancing, Quick, Slow}
use Rattle.market.specs.Market.{Market, window_at}
use Rattle.market.specs.Lawful.{Lawful}
use Rattle.market.specs.Services.{terms}
use Rattle.rules.specs.Clearings.{Clearing}
use Rattle.rules.specs.Prices.{PriceList}
use Rattle.clearing.specs.Marks.{is_order, is_line}
use Rattle.clearing.proofs.Numbers.{Limits, Priced}

no_other_buy : (m : Market) (i : ℕ) → length m.buys ≤ i → i < 64 → is_order m i ≡ false
no_other_buy m i h l = grind (arith, nat_tests)

no_other_basket : (m : Market) (b : ℕ) → length m.baskets ≤ b → b < 96 → is_order m (64 + b) ≡ false
no_other_basket m b h l = grind (arith, nat_tests)

no_other_extra : (m : Market) (k : ℕ) → length m.extras ≤ k → is_order m (160 + k) ≡ false
no_other_extra m k h = grind (arith, nat_tests)

pub is_clearing : (m : Market) → Lawful m → (ns : List ℤ) → Limits m ns → Clearing m 10000 (λ v. get_or ns v (pos 0))
is_clearing m good ns k = record {
  buys = λ i h. k.parts i (omega (arith, good.few_buys));
  baskets = λ b h. k.parts (64 + b) (omega (arith, good.few_baskets));
  extras = λ e h. k.parts (160 + e) (omega (arith, good.few_extras));
  no_other_buy = λ i h l. k.absent i (omega arith) (no_other_buy m i h l);
  no_other_basket = λ b h l. k.absent (64 + b) (omega arith) (no_other_basket m b h l);
  no_other_extra = λ e h l. k.absent (160 + e) (omega arith) (no_other_extra m e h);
}

-- the services but Response have two products, and prices from 0
two_products : (s : Service) → (s ≡ Response → ⊥) → ((terms s).products ≡ 2) × ((terms s).floor ≡ pos 0)
two_products Response n = absurd (n refl)
two_products Balancing n = (refl, refl)
two_products Quick n = (refl, refl)
two_products Slow n = (refl, refl)

-- what a line that has a price says of its window, its product and the price
pub record Told (m : Market) (w p : ℕ) (y : ℤ) : Type 0 where
  pub window : w < length m.windows
  pub product : p < (terms (window_at m w).service).products
  pub floor : (terms (window_at m w).service).floor ≤ℤ y

told : (m : Market) (w p : ℕ) (y : ℤ) → p < 6 → is_line m (6 * w + p) y ≡ true → Told m w p y
told m w p y h t =
    let a : (6 * w + p) / 6 ≡ w = omega arith in
    let b : (6 * w + p) % 6 ≡ p = omega arith in
    let t' = rw (a, b) at t in
    let q = and_parts (ltb w (length m.windows)) _ t' in
    let r = and_parts (ltb p (terms (window_at m w).service).products) (le_z (terms (window_at m w).service).floor y) q.1 in
    let f = r.1 in
    record { window = ltb-true _ _ q.0; product = ltb-true _ _ r.0; floor = grind (arith, ints) }

pub is_price_list : (m : Market) → Lawful m → (ns : List ℤ) → Limits m ns → PriceList m 1 (λ l. get_or ns (256 + l) (pos 0))
is_price_list m good ns k = record {
  response = λ w p h s l.
      let z = get_or ns (256 + (6 * w + p)) (pos 0) in
      ⊎_elim
      (λ (e : z ≡ pos 0). (omega (arith, ints), omega (arith, ints)))
      (λ (e : Priced m (6 * w + p) z). let a = e.low in let b = e.high in (omega (arith, ints), omega (arith, ints)))
      (k.prices (6 * w + p) (omega (arith, good.few_windows)));
  reserve = λ w p h s l.
      let z = get_or ns (256 + (6 * w + p)) (pos 0) in
      ⊎_elim
      (λ (e : z ≡ pos 0). (omega (arith, ints), omega (arith, ints)))
      (λ (e : Priced m (6 * w + p) z).
      let b = e.high in
      let o = told m w p z (omega arith) e.line in
      let f : (terms (window_at m w).service).floor ≡ pos 0 = (two_products (window_at m w).service s).1 in
      let g = o.floor in
      (omega (arith, ints), omega (arith, ints)))
      (k.prices (6 * w + p) (omega (arith, good.few_windows)));
  no_product = λ w p h s two l.
      let z = get_or ns (256 + (6 * w + p)) (pos 0) in
      ⊎_elim
      (λ (e : z ≡ pos 0). e)
      (λ (e : Priced m (6 * w + p) z).
      let o = told m w p z l e.line in
      let f : (terms (window_at m w).service).products ≡ 2 = (two_products (window_at m w).service s).0 in
      absurd (omega (arith, o.product)))
      (k.prices (6 * w + p) (omega (arith, good.few_windows)));
  no_other_window = λ w p h l q.
      let z = get_or ns (256 + (6 * w + p)) (pos 0) in
      ⊎_elim
      (λ (e : z ≡ pos 0). e)
      (λ (e : Priced m (6 * w + p) z). let o = told m w p z q e.line in absurd (omega (arith, o.window)))
      (k.prices (6 * w + p) (omega arith));
}
