-- The acceptance table is lawful: its numbers are small, and 0 beyond the counts.
use Rattle.std.specs.Prelude.{◌≡◌, ℕ, ◌-◌, ◌≤◌, Bool, true, false, cond, length, ℤ, pos, negsuc, ◌+ℤ◌, ◌≤ℤ◌, ◌==◌, nat_le, nat_lt, refl}
use Rattle.std.proofs.Common.{ap, ◌∙◌, arith}
use Rattle.std.proofs.lemmas.Int.{ints}
use Rattle.std.proofs.lemmas.Bool.{cond_both, cond-false, le-ltb, and_right}
use Rattle.numbers.specs.Sums.{Within}
use Rattle.bound.specs.Tables as tables
use Rattle.market.specs.Market.{Market, extra_at}
use Rattle.market.specs.Lawful.{Lawful}
use Rattle.auction.specs.declared.rows.Measure.TheVariants.{On, Value}
use Rattle.auction.specs.declared.rows.Row.{Row}
use Rattle.auction.specs.declared.rows.Row.TheVariants.{Line, Child, Substitutes, Family, AtMostFirst, AtLeastFirst, Unit, Zero}
use Rattle.auction.specs.Orders.{buy_on}
use Rattle.auction.specs.Acceptance.{Numbers, spread, only, one_if, first, stands, coefficients, side_of, row_at, entered, values, acceptance}
use Rattle.auction.specs.Sizes.{small, wider, within_pos, within_neg, within_zero, within_if, within_add, buy_on_within, buy_value_within, parent_measure_within, extra_measure_within}

past_spread : (p : Numbers) (v : ℕ) → 256 ≤ v → spread p v ≡ pos 0
past_spread p v l =
    cond-false (nat_lt v 64) _ _ (le-ltb v 64 (omega arith))
    ∙ cond-false (nat_lt v 160) _ _ (le-ltb v 160 (omega arith))
    ∙ cond-false (nat_lt v 256) _ _ (le-ltb v 256 l)

-- what holds of 0 and of each number holds at every variable
spread_all : (P : ℤ → Type 0) (n : Numbers) → P (pos 0) → ((i : ℕ) → P (n.buys i)) → ((b : ℕ) → P (n.baskets b)) → ((k : ℕ) → P (n.extras k)) → (v : ℕ) → P (spread n v)
spread_all P n z a b c v =
    cond_both (nat_lt v 64) _ _ P (λ t. a v) (λ t.
    cond_both (nat_lt v 160) _ _ P (λ u. b (v - 64)) (λ u.
    cond_both (nat_lt v 256) _ _ P (λ w. c (v - 160)) (λ w. z)))

one_within : (t : Bool) → Within 999890001 (one_if t)
one_within t = within_if 999890001 t (pos 1) (within_pos 999890001 1 (omega arith))

above : (t : Bool) → pos 0 ≤ℤ one_if t
above true = omega (arith, ints)
above false = omega (arith, ints)

nothing : (i : ℕ) → Within 999890001 (pos 0)
nothing i = within_zero 999890001

two_within : (j k c : ℕ) → Within 999890001 (only j (pos 1) c +ℤ only k (negsuc 0) c)
two_within j k c = wider 2 999890001 _ (omega arith)
    (within_add 1 1 (only j (pos 1) c) (only k (negsuc 0) c)
    (within_if 1 (c == j) (pos 1) (within_pos 1 1 (omega arith))) (within_if 1 (c == k) (negsuc 0) (within_neg 1 (pos 1) (within_pos 1 1 (omega arith)))))

minus_within : (j c : ℕ) → Within 999890001 (only j (negsuc 0) c)
minus_within j c = within_if 999890001 (c == j) (negsuc 0) (within_neg 999890001 (pos 1) (within_pos 999890001 1 (omega arith)))

module _ (m : Market) (good : Lawful m) where
  row_within : (r : Row) (v : ℕ) → Within 999890001 (spread (coefficients m r) v)
  row_within (Line l) = spread_all (Within 999890001) (coefficients m (Line l)) (within_zero 999890001)
      (λ i. let h = buy_on_within m good l i in within_pos 999890001 (buy_on m l i) (omega arith))
      (λ b. within_neg 999890001 _ (parent_measure_within m good (On l) b)) (λ k. within_neg 999890001 _ (extra_measure_within m good (On l) k))
  row_within (Child k) = spread_all (Within 999890001) (coefficients m (Child k)) (within_zero 999890001) nothing (minus_within (extra_at m k).basket)
      (λ j. within_if 999890001 (j == k) (pos 1) (within_pos 999890001 1 (omega arith)))
  row_within (Substitutes b) = spread_all (Within 999890001) (coefficients m (Substitutes b)) (within_zero 999890001) nothing (minus_within b) (λ k. one_within _)
  row_within (Family f) = spread_all (Within 999890001) (coefficients m (Family f)) (within_zero 999890001) (λ i. one_within _) nothing nothing
  row_within (AtMostFirst b) = spread_all (Within 999890001) (coefficients m (AtMostFirst b)) (within_zero 999890001) nothing (two_within b (first m b)) nothing
  row_within (AtLeastFirst b) = spread_all (Within 999890001) (coefficients m (AtLeastFirst b)) (within_zero 999890001) nothing (two_within (first m b) b) nothing
  row_within (Unit b) = spread_all (Within 999890001) (coefficients m (Unit b)) (within_zero 999890001) nothing (λ c. one_within (stands m b c)) nothing
  row_within Zero = spread_all (Within 999890001) (coefficients m Zero) (within_zero 999890001) nothing nothing nothing

  side_within : (r : Row) → Within 1 (side_of r)
  side_within (Line l) = within_zero 1
  side_within (Child k) = within_zero 1
  side_within (Substitutes b) = within_zero 1
  side_within (Family f) = within_pos 1 1 (omega arith)
  side_within (AtMostFirst b) = within_zero 1
  side_within (AtLeastFirst b) = within_zero 1
  side_within (Unit b) = within_pos 1 1 (omega arith)
  side_within Zero = within_zero 1

  -- beyond the last row
  past_rows : (r : ℕ) → 736 ≤ r → row_at m r ≡ Zero
  past_rows r h =
      let past : (n : ℕ) (x y : Row) → n ≤ r → cond (nat_lt r n) x y ≡ y = λ n x y l. cond-false (nat_lt r n) x y (le-ltb r n l) in
      past 192 _ _ (omega arith) ∙ past 288 _ _ (omega arith) ∙ past 384 _ _ (omega arith) ∙ past 448 _ _ (omega arith) ∙ past 640 _ _ (omega arith)
      ∙ cond-false (nat_lt (r - 640) (length m.baskets)) (Unit (r - 640)) Zero (le-ltb (r - 640) (length m.baskets) (omega (arith, good.few_baskets)))

  pub acceptance_lawful : tables.Lawful (acceptance m)
  acceptance_lawful =
      record {
        scale_least = omega (arith, ints);
        scale_most = omega (arith, ints);
        some_variable = omega arith;
        few_variables = omega arith;
        few_rows = omega arith;
        ordered = spread_all (λ (z : ℤ). pos 0 ≤ℤ z) (entered m) (omega (arith, ints))
            (λ i. above (nat_lt i (length m.buys))) (λ b. above (nat_lt b (length m.baskets))) (λ k. above (nat_lt k (length m.extras)));
        small_low = λ v. small 1 _ (omega arith) (within_zero 1);
        small_high = λ v. small 999890001 _ (omega arith) (spread_all (Within 999890001) (entered m) (within_zero 999890001) (λ i. one_within _) (λ b. one_within _) (λ k. one_within _) v);
        small_objective = λ v. small 999890001 _ (omega arith) (spread_all (Within 999890001) (values m) (within_zero 999890001) (buy_value_within m good)
            (λ b. within_neg 999890001 _ (parent_measure_within m good Value b)) (λ k. within_neg 999890001 _ (extra_measure_within m good Value k)) v);
        small_coefficient = λ r v. small 999890001 _ (omega arith) (row_within (row_at m r) v);
        small_side = λ r. small 1 _ (omega arith) (side_within (row_at m r));
        past_low = λ v h. refl;
        past_high = past_spread (entered m);
        past_whole = λ v h. and_right (nat_le 64 v) _ (le-ltb (v - 64) (length m.baskets) (omega (arith, good.few_baskets)));
        past_objective = past_spread (values m);
        past_variable = λ r v h. past_spread (coefficients m (row_at m r)) v h;
        past_row = λ r v h. ap (λ (k : Row). spread (coefficients m k) v) (past_rows r h) ∙ spread_all (λ (z : ℤ). z ≡ pos 0) (coefficients m Zero) refl (λ i. refl) (λ b. refl) (λ k. refl) v;
        past_side = λ r h. ap side_of (past_rows r h);
      }
