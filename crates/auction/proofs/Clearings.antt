-- A clearing that keeps the rules on orders is a point of the acceptance programme.
use Rattle.std.proofs.Common.{◌≡◌, ℕ, ◌+◌, ◌-◌, ◌*◌, ◌/◌, ◌%◌, ◌<◌, ◌≤◌, Bool, true, false, ◌&&◌, eqb, ltb, leb, ◌⊎◌, length, ℤ, pos, ◌*ℤ◌, ◌≤ℤ◌, sym, refl, ap, ◌∙◌, subst, inl, inr, ⊎_elim, arith}
use lib.IntN.{zero-*ℤ}
use Rattle.std.proofs.lemmas.Int.{ints}
use Rattle.std.proofs.lemmas.Bool.{cases_lt, cond_both, and_parts, ltb-true, leb-true, eqb-true, eqb-false, not-true, lt-ltb, le-ltb}
use Rattle.numbers.proofs.Integers.{one_mul}
use Rattle.numbers.proofs.Sums.{sum_lone}
use Rattle.bound.specs.Points.{Point}
use Rattle.market.specs.Market.{Market, basket_at, extra_at, is_child}
use Rattle.market.specs.Lawful.{Lawful}
use Rattle.rules.specs.Clearings.{Parts, Clearing, KeepsOrders, Covers}
use Rattle.auction.specs.Acceptance.{acceptance, row_at, coefficients, side_of, one_if, spread, entered, first, stands, start_of, looped}
use Rattle.auction.specs.declared.rows.Row.TheVariants.{Line, Child, Substitutes, AtMostFirst, AtLeastFirst, Unit, Zero}
use Rattle.auction.proofs.Entries.{child_is}
use Rattle.auction.proofs.Spread.{spread_sum, buy_spread, basket_spread, extra_spread}
use Rattle.auction.proofs.RowSums.{line_over, child_over, substitutes_over, family_over, at_most_over, at_least_over, unit_over, zero_over}
use Rattle.auction.proofs.Places.{at_each}
use Rattle.auction.proofs.Points.{Keeps, first_le, first_ring}

module _ (m : Market) (good : Lawful m) (D : ℕ) (some : 1 ≤ D) (X : ℕ → ℤ) (cl : Clearing m D X) (ok : KeepsOrders m D X) where
  -- from 0 to the high limit, by the parts of what is entered and of what is not
  limits : (v n i : ℕ) → spread (entered m) v ≡ one_if (ltb i n) → (i < n → Parts D (X v)) → (n ≤ i → X v ≡ pos 0)
      → (pos 0 ≤ℤ X v) × (X v ≤ℤ (spread (entered m) v *ℤ pos D))
  limits v n i e inside outside =
      let P : ℤ → Type 0 = λ (z : ℤ). (pos 0 ≤ℤ X v) × (X v ≤ℤ (z *ℤ pos D)) in
      subst P (sym e) (⊎_elim
      (λ (l : i < n). let p = inside l in subst P (sym (ap one_if (lt-ltb i n l))) (omega (arith, ints), omega (arith, ints)))
      (λ (l : n ≤ i). let p = outside l in subst P (sym (ap one_if (le-ltb i n l))) (omega (arith, ints), omega (arith, ints)))
      (cases_lt i n))

  within : (v : ℕ) → v < 256 → (pos 0 ≤ℤ X v) × (X v ≤ℤ (spread (entered m) v *ℤ pos D))
  within v h = ⊎_elim
      (λ (l : v < 64). limits v (length m.buys) v (buy_spread (entered m) v l) (cl.buys v) (λ g. cl.no_other_buy v g l))
      (λ (l : 64 ≤ v). ⊎_elim
      (λ (k : v < 160).
      let e : 64 + (v - 64) ≡ v = omega arith in
      let P : ℕ → Type 0 = λ (w : ℕ). (pos 0 ≤ℤ X w) × (X w ≤ℤ (spread (entered m) w *ℤ pos D)) in
      let f : v - 64 < 96 = omega arith in
      subst P e (limits (64 + (v - 64)) (length m.baskets) (v - 64) (basket_spread (entered m) (v - 64) f) (cl.baskets (v - 64)) (λ g. cl.no_other_basket (v - 64) g f)))
      (λ (k : 160 ≤ v).
      let e : 160 + (v - 160) ≡ v = omega arith in
      let P : ℕ → Type 0 = λ (w : ℕ). (pos 0 ≤ℤ X w) × (X w ≤ℤ (spread (entered m) w *ℤ pos D)) in
      let f : v - 160 < 96 = omega arith in
      subst P e (limits (160 + (v - 160)) (length m.extras) (v - 160) (extra_spread (entered m) (v - 160) f) (cl.extras (v - 160)) (λ g. cl.no_other_extra (v - 160) g f)))
      (cases_lt v 160))
      (cases_lt v 64)

  whole : (b : ℕ) → b < length m.baskets → (z : ℤ) × (X (64 + b) ≡ z *ℤ pos D)
  whole b h = ⊎_elim
      (λ (e : X (64 + b) ≡ pos 0). (pos 0, e ∙ sym (zero-*ℤ (pos D))))
      (λ (e : X (64 + b) ≡ pos D). (pos 1, e ∙ sym (one_mul (pos D))))
      (ok.whole_parents b h)

  keeps_zero : Keeps m D X Zero
  keeps_zero = let e = zero_over m good X in omega (arith, ints)

  loop_first : (b : ℕ) → b < length m.baskets → ((basket_at m b).ring ≡ 0 → ⊥) → X (64 + b) ≡ X (64 + first m b)
  loop_first b h d = let l = first_le m b h in ok.loops b (first m b) h (omega arith) (sym (first_ring m b h)) d

  -- one column of a unit's row
  at_most : (b c : ℕ) → (t : Bool) → stands m b c ≡ t → (one_if t *ℤ X (64 + c)) ≤ℤ pos D
  at_most b c true e = let p = cl.baskets c (ltb-true c _ (and_parts _ _ e).0) in omega (arith, ints)
  at_most b c false e = omega (arith, ints)

  -- two baskets of a unit's row cover one half hour, so one of them is out
  lone : (b i j : ℕ) → (i ≡ j → ⊥) → (s t : Bool) → stands m b i ≡ s → stands m b j ≡ t
      → (one_if s *ℤ X (64 + i) ≡ pos 0) ⊎ (one_if t *ℤ X (64 + j) ≡ pos 0)
  lone b i j d false t e f = inl (zero-*ℤ (X (64 + i)))
  lone b i j d true false e f = inr (zero-*ℤ (X (64 + j)))
  lone b i j d true true e f =
      let p = and_parts _ _ e in
      let p1 = and_parts _ _ p.1 in
      let p2 = and_parts _ _ p1.1 in
      let q = and_parts _ _ f in
      let q1 = and_parts _ _ q.1 in
      let q2 = and_parts _ _ q1.1 in
      let h = ltb-true i (length m.baskets) p.0 in
      let k = ltb-true j (length m.baskets) q.0 in
      let u : (basket_at m i).unit ≡ (basket_at m j).unit = eqb-true _ _ p1.0 ∙ sym (eqb-true _ _ q1.0) in
      let ci : Covers m i (start_of m b) = (leb-true _ _ p2.0, ltb-true _ _ p2.1) in
      let cj : Covers m j (start_of m b) = (leb-true _ _ q2.0, ltb-true _ _ q2.1) in
      ⊎_elim
      (λ (x : X (64 + i) ≡ pos 0). inl (one_mul (X (64 + i)) ∙ x))
      (λ (x : X (64 + i) ≡ pos D). ⊎_elim
      (λ (y : X (64 + j) ≡ pos 0). inr (one_mul (X (64 + j)) ∙ y))
      (λ (y : X (64 + j) ≡ pos D). absurd (ok.units i j h k (record { two = d; unit = u; hour = start_of m b; first = ci; second = cj }) (omega (arith, ints)) (omega (arith, ints))))
      (ok.whole_parents j k))
      (ok.whole_parents i h)

  each : (r : ℕ) → Keeps m D X (row_at m r)
  each = at_each m (Keeps m D X)
      (λ l h.
      let t : 6 * (l / 6) + l % 6 ≡ l = omega arith in
      let p = ok.balance (l / 6) (l % 6) (omega arith) (omega arith) in
      let e = line_over m good X (l / 6) (l % 6) (omega arith) in
      let k : Keeps m D X (Line (6 * (l / 6) + l % 6)) = omega (arith, ints) in
      subst (λ (n : ℕ). Keeps m D X (Line n)) t k)
      (λ k h. cond_both (ltb k (length m.extras) && is_child (extra_at m k).role) (Child k) Zero (Keeps m D X)
      (λ t.
      let a = and_parts _ _ t in
      let g = ltb-true k (length m.extras) a.0 in
      let p = ok.children k g (child_is (extra_at m k).role a.1) in
      let e = child_over m good X k g in
      omega (arith, ints))
      (λ t. keeps_zero))
      (λ b h. cond_both (ltb b (length m.baskets)) (Substitutes b) Zero (Keeps m D X)
      (λ t.
      let g = ltb-true b (length m.baskets) t in
      let p = ok.substitutes b g in
      let e = substitutes_over m good X b g in
      omega (arith, ints))
      (λ t. keeps_zero))
      (λ f g h. let p = ok.families f g h in let e = family_over m good X f in omega (arith, ints))
      (λ b s h. cond_both (looped m b) _ Zero (Keeps m D X)
      (λ t.
      let a = and_parts _ _ t in
      let g = ltb-true b (length m.baskets) a.0 in
      let l = first_le m b g in
      let f : first m b < length m.baskets = omega arith in
      let same = loop_first b g (eqb-false _ _ (not-true _ a.1)) in
      let p = at_most_over m good X b g f in
      let q = at_least_over m good X b g f in
      cond_both (eqb s 0) (AtMostFirst b) (AtLeastFirst b) (Keeps m D X) (λ u. omega (arith, ints)) (λ u. omega (arith, ints)))
      (λ t. keeps_zero))
      (λ b. cond_both (ltb b (length m.baskets)) (Unit b) Zero (Keeps m D X)
      (λ t.
      let e = unit_over m good X b in
      let s = sum_lone 96 (λ c. one_if (stands m b c) *ℤ X (64 + c)) (pos D) (omega (arith, ints))
      (λ c l. at_most b c (stands m b c) refl)
      (λ i j k l d. lone b i j d (stands m b i) (stands m b j) refl refl) in
      omega (arith, ints))
      (λ t. keeps_zero))

  pub point : Point (acceptance m) D X
  point = record {
    from = λ v h. let l = within v h in omega (arith, ints);
    to = λ v h. (within v h).1;
    whole = λ v h t.
        let a = and_parts (leb 64 v) (ltb (v - 64) (length m.baskets)) t in
        let l : 64 ≤ v = leb-true 64 v a.0 in
        let e : 64 + (v - 64) ≡ v = omega arith in
        let P : ℕ → Type 0 = λ (w : ℕ). (z : ℤ) × (X w ≡ z *ℤ pos D) in
        subst P e (whole (v - 64) (ltb-true (v - 64) (length m.baskets) a.1));
    under = λ r h.
        let Q : ℤ → Type 0 = λ (z : ℤ). z ≤ℤ (side_of (row_at m r) *ℤ pos D) in
        subst Q (sym (spread_sum (coefficients m (row_at m r)) X)) (each r);
  }
