-- What each kind of row sums to, in the sums of the rules.
use Rattle.std.proofs.Common.{◌≡◌, ℕ, ◌+◌, ◌*◌, ◌/◌, ◌%◌, ◌<◌, ◌≤◌, Bool, true, false, cond, ◌&&◌, eqb, List, length, get_or, ℤ, pos, negsuc, ◌+ℤ◌, ◌*ℤ◌, neg_ℤ, sym, refl, ap, ◌∙◌, ap₂, ⊎_elim, arith}
use lib.IntN.{zero-*ℤ}
use Rattle.std.proofs.lemmas.Int.{ints}
use Rattle.std.proofs.lemmas.List.{get_or_past}
use Rattle.std.proofs.lemmas.Bool.{cases_eq, eq-eqb, ne_eqb, and_from, and_left, and_right}
use Rattle.numbers.specs.Sums.{sum_to}
use Rattle.numbers.proofs.Integers.{add_mul}
use Rattle.numbers.proofs.Sums.{sum_ext, sum_add, sum_short}
use Rattle.numbers.proofs.Weighted.{weighted_neg}
use Rattle.market.specs.declared.entries.Buy.{Buy}
use Rattle.market.specs.declared.entries.Basket.{Basket}
use Rattle.market.specs.declared.entries.Extra.{Extra}
use Rattle.market.specs.Market.{Market, buy_at, basket_at, extra_at, is_substitute}
use Rattle.market.specs.Lawful.{Lawful}
use Rattle.rules.specs.Clearings.{bought, sold, substitute_parts, family_parts, extra_window}
use Rattle.auction.specs.Orders.{buy_on, sell_on, basket_on, extra_on}
use Rattle.auction.specs.Acceptance.{coefficients, only, one_if, first, stands}
use Rattle.auction.specs.declared.rows.Row.TheVariants.{Line, Child, Substitutes, Family, AtMostFirst, AtLeastFirst, Unit, Zero}
use Rattle.auction.proofs.Entries.{buy_product, extra_basket}
use Rattle.auction.proofs.Spread.{over, sum_none, sum_only, sum_if}

same_cond : (t : Bool) → ◌≡◌ {A = ℕ} (cond t 0 0) 0
same_cond true = refl
same_cond false = refl

-- beyond the last entry nothing is asked or offered
pub buy_past : (m : Market) (l i : ℕ) → length m.buys ≤ i → buy_on m l i ≡ 0
buy_past m l i h = ap (λ (e : Buy). cond (eqb (6 * e.window + e.product) l) e.quantity 0) (get_or_past m.buys i _ h) ∙ same_cond (eqb 0 l)

pub basket_past : (m : Market) (l b : ℕ) → length m.baskets ≤ b → basket_on m l b ≡ 0
basket_past m l b h = ap (λ (e : Basket). sell_on e.window e.quantities l) (get_or_past m.baskets b _ h) ∙ same_cond (eqb 0 (l / 6))

pub extra_past : (m : Market) (l k : ℕ) → length m.extras ≤ k → extra_on m l k ≡ 0
extra_past m l k h = ap (λ (e : Extra). sell_on (basket_at m e.basket).window e.quantities l) (get_or_past m.extras k _ h) ∙ same_cond (eqb (basket_at m 0).window (l / 6))

past_times : (n : ℕ) (y : ℤ) → n ≡ 0 → pos n *ℤ y ≡ pos 0
past_times n y e = ap (λ (k : ℕ). pos k *ℤ y) e ∙ zero-*ℤ y

-- two lines are one where window and product are
same_line : (a q w p : ℕ) → q < 6 → p < 6 → eqb (6 * a + q) (6 * w + p) ≡ (eqb a w && eqb q p)
same_line a q w p g h = ⊎_elim
    (λ (e : a ≡ w). ⊎_elim
    (λ (f : q ≡ p). eq-eqb (6 * a + q) (6 * w + p) (omega arith) ∙ sym (and_from (eqb a w) (eqb q p) (eq-eqb a w e) (eq-eqb q p f)))
    (λ (f : q ≡ p → ⊥). ne_eqb (6 * a + q) (6 * w + p) (λ z. f (omega arith)) ∙ sym (and_right (eqb a w) (eqb q p) (ne_eqb q p f)))
    (cases_eq q p))
    (λ (e : a ≡ w → ⊥). ne_eqb (6 * a + q) (6 * w + p) (λ z. e (omega arith)) ∙ sym (and_left (eqb a w) (eqb q p) (ne_eqb a w e)))
    (cases_eq a w)

if_quantity : (t : Bool) (q : ℕ) (x : ℤ) → pos (cond t q 0) *ℤ x ≡ cond t (pos q *ℤ x) (pos 0)
if_quantity true q x = refl
if_quantity false q x = zero-*ℤ x

-- the quantity of a sell order on the line of window w and product p
pub sell_on_lem : (a : ℕ) (qs : List ℕ) (w p : ℕ) → p < 6 → sell_on a qs (6 * w + p) ≡ cond (eqb a w) (get_or qs p 0) 0
sell_on_lem a qs w p h =
    let e : (6 * w + p) / 6 ≡ w = omega arith in
    let f : (6 * w + p) % 6 ≡ p = omega arith in
    ap₂ (λ (v q : ℕ). cond (eqb a v) (get_or qs q 0) 0) e f

sell_term : (a : ℕ) (qs : List ℕ) (w p : ℕ) (x : ℤ) → p < 6 → pos (sell_on a qs (6 * w + p)) *ℤ x ≡ cond (eqb a w) (pos (get_or qs p 0) *ℤ x) (pos 0)
sell_term a qs w p x h = ap (λ (n : ℕ). pos n *ℤ x) (sell_on_lem a qs w p h) ∙ if_quantity (eqb a w) (get_or qs p 0) x

module _ (m : Market) (good : Lawful m) (X : ℕ → ℤ) where
  buy_term : (w p i : ℕ) → p < 6 → i < length m.buys
      → pos (buy_on m (6 * w + p) i) *ℤ X i ≡ cond (eqb (buy_at m i).window w && eqb (buy_at m i).product p) (pos (buy_at m i).quantity *ℤ X i) (pos 0)
  buy_term w p i h l =
      ap (λ (t : Bool). pos (cond t (buy_at m i).quantity 0) *ℤ X i) (same_line (buy_at m i).window (buy_at m i).product w p (buy_product m good i l) h)
      ∙ if_quantity (eqb (buy_at m i).window w && eqb (buy_at m i).product p) (buy_at m i).quantity (X i)

  pub line_over : (w p : ℕ) → p < 6 → over (coefficients m (Line (6 * w + p))) X ≡ bought m X w p +ℤ neg_ℤ (sold m X w p)
  unfolding over
  line_over w p h =
      let l = 6 * w + p in
      let a = sum_short (length m.buys) 64 (λ i. pos (buy_on m l i) *ℤ X i) good.few_buys (λ i g. past_times (buy_on m l i) (X i) (buy_past m l i g))
      ∙ sum_ext (length m.buys) (λ i. pos (buy_on m l i) *ℤ X i) _ (λ i g. buy_term w p i h g) in
      let b = weighted_neg 96 (λ b. pos (basket_on m l b)) (λ b. X (64 + b))
      ∙ ap neg_ℤ (sum_short (length m.baskets) 96 (λ b. pos (basket_on m l b) *ℤ X (64 + b)) good.few_baskets (λ i g. past_times (basket_on m l i) (X (64 + i)) (basket_past m l i g))
      ∙ sum_ext (length m.baskets) (λ b. pos (basket_on m l b) *ℤ X (64 + b)) _ (λ i g. sell_term (basket_at m i).window (basket_at m i).quantities w p (X (64 + i)) h)) in
      let c = weighted_neg 96 (λ k. pos (extra_on m l k)) (λ k. X (160 + k))
      ∙ ap neg_ℤ (sum_short (length m.extras) 96 (λ k. pos (extra_on m l k) *ℤ X (160 + k)) good.few_extras (λ i g. past_times (extra_on m l i) (X (160 + i)) (extra_past m l i g))
      ∙ sum_ext (length m.extras) (λ k. pos (extra_on m l k) *ℤ X (160 + k)) _ (λ i g. sell_term (extra_window m i) (extra_at m i).quantities w p (X (160 + i)) h)) in
      omega (arith, ints)

  pub child_over : (k : ℕ) → k < length m.extras → over (coefficients m (Child k)) X ≡ neg_ℤ (X (64 + (extra_at m k).basket)) +ℤ X (160 + k)
  unfolding over
  child_over k h =
      let g = extra_basket m good k h in
      let a = sum_none 64 X in
      let b = sum_only 96 (extra_at m k).basket (negsuc 0) (λ b. X (64 + b)) (omega (arith, good.few_baskets)) in
      let c = sum_only 96 k (pos 1) (λ k. X (160 + k)) (omega (arith, good.few_extras)) in
      omega (arith, ints)

  pub substitutes_over : (b : ℕ) → b < length m.baskets → over (coefficients m (Substitutes b)) X
      ≡ neg_ℤ (X (64 + b)) +ℤ substitute_parts m X b
  unfolding over
  substitutes_over b h =
      let a = sum_none 64 X in
      let e = sum_only 96 b (negsuc 0) (λ b. X (64 + b)) (omega (arith, good.few_baskets)) in
      let c = sum_if (length m.extras) 96 (λ k. is_substitute (extra_at m k).role && eqb (extra_at m k).basket b) (λ k. X (160 + k)) good.few_extras in
      omega (arith, ints)

  pub family_over : (f : ℕ) → over (coefficients m (Family f)) X ≡ family_parts m X f
  unfolding over
  family_over f =
      let a = sum_if (length m.buys) 64 (λ i. eqb (buy_at m i).family f) X good.few_buys in
      let b = sum_none 96 (λ b. X (64 + b)) in
      let c = sum_none 96 (λ k. X (160 + k)) in
      omega (arith, ints)

  two_over : (b c : ℕ) → b < 96 → c < 96 → sum_to 96 (λ i. (only b (pos 1) i +ℤ only c (negsuc 0) i) *ℤ X (64 + i)) ≡ X (64 + b) +ℤ neg_ℤ (X (64 + c))
  two_over b c h k =
      let e = sum_ext 96 (λ i. (only b (pos 1) i +ℤ only c (negsuc 0) i) *ℤ X (64 + i)) (λ i. only b (pos 1) i *ℤ X (64 + i) +ℤ only c (negsuc 0) i *ℤ X (64 + i))
      (λ i l. add_mul (only b (pos 1) i) (only c (negsuc 0) i) (X (64 + i))) in
      let s = sum_add 96 (λ i. only b (pos 1) i *ℤ X (64 + i)) (λ i. only c (negsuc 0) i *ℤ X (64 + i)) in
      let p = sum_only 96 b (pos 1) (λ b. X (64 + b)) h in
      let q = sum_only 96 c (negsuc 0) (λ b. X (64 + b)) k in
      omega (arith, ints)

  pub at_most_over : (b : ℕ) → b < length m.baskets → first m b < length m.baskets → over (coefficients m (AtMostFirst b)) X ≡ X (64 + b) +ℤ neg_ℤ (X (64 + first m b))
  unfolding over
  at_most_over b h k =
      let a = sum_none 64 X in
      let c = sum_none 96 (λ k. X (160 + k)) in
      let e = two_over b (first m b) (omega (arith, good.few_baskets)) (omega (arith, good.few_baskets)) in
      omega (arith, ints)

  pub at_least_over : (b : ℕ) → b < length m.baskets → first m b < length m.baskets → over (coefficients m (AtLeastFirst b)) X ≡ X (64 + first m b) +ℤ neg_ℤ (X (64 + b))
  unfolding over
  at_least_over b h k =
      let a = sum_none 64 X in
      let c = sum_none 96 (λ k. X (160 + k)) in
      let e = two_over (first m b) b (omega (arith, good.few_baskets)) (omega (arith, good.few_baskets)) in
      omega (arith, ints)

  pub unit_over : (b : ℕ) → over (coefficients m (Unit b)) X ≡ sum_to 96 (λ c. one_if (stands m b c) *ℤ X (64 + c))
  unfolding over
  unit_over b =
      let a = sum_none 64 X in
      let c = sum_none 96 (λ k. X (160 + k)) in
      omega (arith, ints)

  pub zero_over : over (coefficients m Zero) X ≡ pos 0
  unfolding over
  zero_over =
      let a = sum_none 64 X in
      let b = sum_none 96 (λ b. X (64 + b)) in
      let c = sum_none 96 (λ k. X (160 + k)) in
      omega (arith, ints)
