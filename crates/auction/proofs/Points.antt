-- A point of the acceptance programme is a clearing that keeps the rules on orders.
use Rattle.std.proofs.Common.{◌≡◌, ℕ, zero, suc, ◌+◌, ◌-◌, ◌*◌, ◌<◌, ◌≤◌, Bool, true, false, eqb, ltb, ◌⊎◌, length, ℤ, pos, negsuc, ◌*ℤ◌, ◌≤ℤ◌, ◌<ℤ◌, sym, refl, ap, ◌∙◌, subst, inl, inr, ⊎_elim, arith}
use lib.IntN.{zero-*ℤ}
use Rattle.std.proofs.lemmas.Int.{ints}
use Rattle.std.proofs.lemmas.Bool.{cases_lt, lt-ltb, le-ltb, le-leb, eq-eqb, eqb-true, and_from}
use Rattle.numbers.specs.Sums.{sum_to}
use Rattle.numbers.specs.Searches.{least}
use Rattle.numbers.proofs.Integers.{one_mul}
use Rattle.numbers.proofs.Sums.{sum_over_two}
use Rattle.numbers.proofs.Least.{least_le, least_passes}
use Rattle.bound.specs.Points.{Point}
use Rattle.market.specs.Market.{Market, basket_at, extra_at}
use Rattle.market.specs.Lawful.{Lawful}
use Rattle.rules.specs.Clearings.{Parts, Clearing, KeepsOrders, Exclude}
use Rattle.auction.specs.Acceptance.{acceptance, row_at, coefficients, side_of, one_if, spread, entered, first, stands, start_of, end_of}
use Rattle.auction.specs.declared.rows.Row.{Row}
use Rattle.auction.specs.declared.rows.Row.TheVariants.{Line, Child, Substitutes, Family, AtMostFirst, AtLeastFirst, Unit}
use Rattle.auction.proofs.Entries.{is_child_lem, covers_start}
use Rattle.auction.proofs.Spread.{over, spread_sum, buy_spread, basket_spread, extra_spread}
use Rattle.auction.proofs.RowSums.{line_over, child_over, substitutes_over, family_over, at_most_over, at_least_over, unit_over}
use Rattle.auction.proofs.Places.{row_line, row_child, row_substitutes, row_family, row_at_most, row_at_least, row_unit}

-- the row, by its three sums
abbrev pub Keeps : Market → ℕ → (ℕ → ℤ) → Row → Type 0
Keeps m D X r = over (coefficients m r) X ≤ℤ (side_of r *ℤ pos D)

-- the first basket of b's loop is entered, no later than b, and of that loop
pub first_le : (m : Market) (b : ℕ) → b < length m.baskets → first m b ≤ b
first_le m b h = least_le (λ c. eqb (basket_at m c).ring (basket_at m b).ring) (length m.baskets) b h (eq-eqb _ _ refl)

pub first_ring : (m : Market) (b : ℕ) → b < length m.baskets → (basket_at m (first m b)).ring ≡ (basket_at m b).ring
first_ring m b h = eqb-true _ _ (least_passes (λ c. eqb (basket_at m c).ring (basket_at m b).ring) (length m.baskets) (let l = first_le m b h in omega arith))

-- a whole multiple of D from 0 to D
zero_or_all : (D : ℕ) (x z : ℤ) → 1 ≤ D → x ≡ z *ℤ pos D → pos 0 ≤ℤ x → x ≤ℤ pos D → (x ≡ pos 0) ⊎ (x ≡ pos D)
zero_or_all D x (pos zero) d e l h = inl (e ∙ zero-*ℤ (pos D))
zero_or_all D x (pos (suc zero)) d e l h = inr (e ∙ one_mul (pos D))
zero_or_all D x (pos (suc (suc n))) d e l h = absurd (omega (arith, ints))
zero_or_all D x (negsuc n) d e l h = absurd (omega (arith, ints))

if_nonneg : (t : Bool) (y : ℤ) → pos 0 ≤ℤ y → pos 0 ≤ℤ (one_if t *ℤ y)
if_nonneg true y h = omega (arith, ints)
if_nonneg false y h = omega (arith, ints)

if_on : (t : Bool) (y : ℤ) → t ≡ true → one_if t *ℤ y ≡ y
if_on t y e = ap (λ (u : Bool). one_if u *ℤ y) e ∙ one_mul y

module _ (m : Market) (good : Lawful m) (D : ℕ) (some : 1 ≤ D) (X : ℕ → ℤ) (pt : Point (acceptance m) D X) where
  keeps : (r : ℕ) (k : Row) → r < 736 → row_at m r ≡ k → Keeps m D X k
  keeps r k h e =
      let P : Row → Type 0 = λ (w : Row). sum_to 256 (λ v. spread (coefficients m w) v *ℤ X v) ≤ℤ (side_of w *ℤ pos D) in
      let Q : ℤ → Type 0 = λ (z : ℤ). z ≤ℤ (side_of k *ℤ pos D) in
      subst Q (spread_sum (coefficients m k) X) (subst P e (pt.under r h))

  nonneg : (v : ℕ) → v < 256 → pos 0 ≤ℤ X v
  nonneg v h = let l = pt.from v h in omega (arith, ints)

  few_baskets : (b : ℕ) → b < length m.baskets → b < 96
  few_baskets b h = omega (arith, good.few_baskets)

  few_extras : (k : ℕ) → k < length m.extras → k < 96
  few_extras k h = omega (arith, good.few_extras)

  -- the limits of a variable that is entered, and of one that is not
  inside : (v n i : ℕ) → v < 256 → spread (entered m) v ≡ one_if (ltb i n) → i < n → Parts D (X v)
  inside v n i h e l =
      let P : ℤ → Type 0 = λ (z : ℤ). X v ≤ℤ (z *ℤ pos D) in
      let t : X v ≤ℤ (pos 1 *ℤ pos D) = subst P (e ∙ ap one_if (lt-ltb i n l)) (pt.to v h) in
      (nonneg v h, omega (arith, ints))

  outside : (v n i : ℕ) → v < 256 → spread (entered m) v ≡ one_if (ltb i n) → n ≤ i → X v ≡ pos 0
  outside v n i h e l =
      let P : ℤ → Type 0 = λ (z : ℤ). X v ≤ℤ (z *ℤ pos D) in
      let t : X v ≤ℤ (pos 0 *ℤ pos D) = subst P (e ∙ ap one_if (le-ltb i n l)) (pt.to v h) in
      let n = nonneg v h in
      omega (arith, ints)

  basket_parts : (b : ℕ) → b < length m.baskets → Parts D (X (64 + b))
  basket_parts b h = let f = few_baskets b h in inside (64 + b) (length m.baskets) b (omega arith) (basket_spread (entered m) b f) h

  pub clearing : Clearing m D X
  clearing = record {
    buys = λ i h. let f : i < 64 = omega (arith, good.few_buys) in inside i (length m.buys) i (omega arith) (buy_spread (entered m) i f) h;
    baskets = basket_parts;
    extras = λ k h. let f = few_extras k h in inside (160 + k) (length m.extras) k (omega arith) (extra_spread (entered m) k f) h;
    no_other_buy = λ i h f. outside i (length m.buys) i (omega arith) (buy_spread (entered m) i f) h;
    no_other_basket = λ b h f. outside (64 + b) (length m.baskets) b (omega arith) (basket_spread (entered m) b f) h;
    no_other_extra = λ k h f. outside (160 + k) (length m.extras) k (omega arith) (extra_spread (entered m) k f) h;
  }

  parents : (b : ℕ) → b < length m.baskets → (X (64 + b) ≡ pos 0) ⊎ (X (64 + b) ≡ pos D)
  parents b h =
      let e : 64 + b - 64 ≡ b = omega arith in
      let f = few_baskets b h in
      let w = pt.whole (64 + b) (omega arith) (and_from _ _ (le-leb 64 (64 + b) (omega arith)) (lt-ltb (64 + b - 64) (length m.baskets) (omega arith))) in
      zero_or_all D (X (64 + b)) w.0 some w.1 (basket_parts b h).0 (basket_parts b h).1

  loop_first : (b : ℕ) → b < length m.baskets → ((basket_at m b).ring ≡ 0 → ⊥) → X (64 + b) ≡ X (64 + first m b)
  loop_first b h d =
      let f = few_baskets b h in
      let l = first_le m b h in
      let g : first m b < length m.baskets = omega arith in
      let p = keeps (448 + 2 * b) (AtMostFirst b) (omega arith) (row_at_most m b f h d) in
      let q = keeps (449 + 2 * b) (AtLeastFirst b) (omega arith) (row_at_least m b f h d) in
      let u = at_most_over m good X b h g in
      let v = at_least_over m good X b h g in
      omega (arith, ints)

  -- an accepted basket is accepted in full
  all_of : (b : ℕ) → b < length m.baskets → pos 0 <ℤ X (64 + b) → X (64 + b) ≡ pos D
  all_of b h x = ⊎_elim (λ (z : X (64 + b) ≡ pos 0). absurd (omega (arith, ints))) (λ (z : X (64 + b) ≡ pos D). z) (parents b h)

  -- both would stand in the row of the one that starts later
  apart : (b c : ℕ) → b < length m.baskets → c < length m.baskets → (b ≡ c → ⊥)
      → (basket_at m b).unit ≡ (basket_at m c).unit → pos 0 <ℤ X (64 + b) → pos 0 <ℤ X (64 + c)
      → start_of m c ≤ start_of m b → start_of m b < end_of m c → ⊥
  apart b c h k d e x y s t =
      let f = few_baskets b h in
      let g = few_baskets c k in
      let r = keeps (640 + b) (Unit b) (omega arith) (row_unit m b f h) in
      let o = unit_over m good X b in
      let w = sum_over_two 96 b c (λ i. one_if (stands m b i) *ℤ X (64 + i)) (λ i l. if_nonneg (stands m b i) (X (64 + i)) (nonneg (64 + i) (omega arith))) f g d in
      let i : one_if (stands m b b) *ℤ X (64 + b) ≡ X (64 + b) = if_on (stands m b b) (X (64 + b))
      (and_from _ _ (lt-ltb b _ h) (and_from _ _ (eq-eqb _ _ refl) (and_from _ _ (le-leb (start_of m b) (start_of m b) (omega arith)) (lt-ltb _ _ (covers_start m good b h))))) in
      let j : one_if (stands m b c) *ℤ X (64 + c) ≡ X (64 + c) = if_on (stands m b c) (X (64 + c))
      (and_from _ _ (lt-ltb c _ k) (and_from _ _ (eq-eqb _ _ (sym e)) (and_from _ _ (le-leb _ _ s) (lt-ltb _ _ t)))) in
      let p : X (64 + b) ≡ pos D = all_of b h x in
      let q : X (64 + c) ≡ pos D = all_of c k y in
      omega (arith, ints)

  excluded : (b c : ℕ) → b < length m.baskets → c < length m.baskets → Exclude m b c → pos 0 <ℤ X (64 + b) → pos 0 <ℤ X (64 + c) → ⊥
  excluded b c h k e x y =
      let u = e.first in
      let v = e.second in
      ⊎_elim
      (λ (s : start_of m b < start_of m c). apart c b k h (λ z. e.two (sym z)) (sym e.unit) y x (omega arith) (omega arith))
      (λ (s : start_of m c ≤ start_of m b). apart b c h k e.two e.unit x y s (omega arith))
      (cases_lt (start_of m b) (start_of m c))

  pub keeps_orders : KeepsOrders m D X
  keeps_orders = record {
    whole_parents = parents;
    children = λ k h t.
        let f = few_extras k h in
        let p = keeps (192 + k) (Child k) (omega arith) (row_child m k f h (is_child_lem (extra_at m k).role t)) in
        let e = child_over m good X k h in
        omega (arith, ints);
    substitutes = λ b h.
        let f = few_baskets b h in
        let p = keeps (288 + b) (Substitutes b) (omega arith) (row_substitutes m b f h) in
        let e = substitutes_over m good X b h in
        omega (arith, ints);
    families = λ f g h.
        let p = keeps (383 + f) (Family f) (omega arith) (row_family m f g h) in
        let e = family_over m good X f in
        omega (arith, ints);
    loops = λ b c h k e d.
        let p = loop_first b h d in
        let q = loop_first c k (λ z. d (e ∙ z)) in
        let same : first m b ≡ first m c = ap (λ (r : ℕ). least (λ i. eqb (basket_at m i).ring r) (length m.baskets)) e in
        p ∙ ap (λ (v : ℕ). X (64 + v)) same ∙ sym q;
    units = excluded;
    balance = λ w p h k.
        let r = keeps (6 * w + p) (Line (6 * w + p)) (omega arith) (row_line m (6 * w + p) (omega arith)) in
        let e = line_over m good X w p k in
        omega (arith, ints);
  }
