-- A programme with as many variables as there may be: 256 of them, each 0 or 1 and worth 1, and three rows.
-- Row 0 has 1 at each variable. Rows 1 and 2 have -10^18 and 10^18 at the last, and nothing else.
use Rattle.std.specs.Prelude.{◌≡◌, ℕ, ◌≤◌, Bool, true, false, cond, ℤ, pos, negsuc, ◌≤ℤ◌, ◌==◌, nat_lt, refl}
use Rattle.std.proofs.Common.{arith}
use Rattle.std.specs.Int.Signed.{le_z_yes}
use Rattle.std.proofs.lemmas.Bool.{le-ltb, ne_eqb}
use Rattle.bound.specs.Tables.{Table, Lawful, Small}

-- 1 at a variable, and 0 beyond the last
abbrev pub one : ℕ → ℤ
one v = cond (nat_lt v 256) (pos 1) (pos 0)

-- z at the last variable
abbrev pub at_last : ℤ → ℕ → ℤ
at_last z v = cond (nat_lt v 256) (cond (v == 255) z (pos 0)) (pos 0)

abbrev pub entry : ℕ → ℕ → ℤ
entry r v = cond (r == 0) (one v) (cond (r == 1) (at_last (negsuc 999999999999999999) v) (cond (r == 2) (at_last (pos 1000000000000000000) v) (pos 0)))

abbrev pub right : ℕ → ℤ
right r = cond (r == 0) (pos 3) (cond (r == 1) (pos 1000000000000000000) (cond (r == 2) (negsuc 999999999999999999) (pos 0)))

abbrev pub wide : Table
wide =
    record {
      scale = pos 1;
      variables = 256;
      rows = 3;
      low = λ v. pos 0;
      high = one;
      whole = λ v. nat_lt v 256;
      objective = one;
      coefficient = entry;
      side = right;
    }

small_one : (v : ℕ) → Small (one v)
small_one v = elim (nat_lt v 256) as (λ c. Small (cond c (pos 1) (pos 0))) [ true ↦ omega arith | false ↦ omega arith ]

past_one : (v : ℕ) → 256 ≤ v → one v ≡ pos 0
past_one v past = rw (le-ltb v 256 past) refl

small_last : (z : ℤ) → Small z → (v : ℕ) → Small (at_last z v)
small_last z small v =
    elim (nat_lt v 256) as (λ c. Small (cond c (cond (v == 255) z (pos 0)) (pos 0))) [
      | true ↦ elim (v == 255) as (λ c. Small (cond c z (pos 0))) [ true ↦ small | false ↦ omega arith ]
      | false ↦ omega arith
    ]

past_last : (z : ℤ) (v : ℕ) → 256 ≤ v → at_last z v ≡ pos 0
past_last z v past = rw (le-ltb v 256 past) refl

-- one of four, by three tests
small_four : (a b c : Bool) (w x y z : ℤ) → Small w → Small x → Small y → Small z → Small (cond a w (cond b x (cond c y z)))
small_four true b c w x y z p q r s = p
small_four false true c w x y z p q r s = q
small_four false false true w x y z p q r s = r
small_four false false false w x y z p q r s = s

none_four : (a b c : Bool) (w x y : ℤ) → w ≡ pos 0 → x ≡ pos 0 → y ≡ pos 0 → cond a w (cond b x (cond c y (pos 0))) ≡ pos 0
none_four true b c w x y p q r = p
none_four false true c w x y p q r = q
none_four false false true w x y p q r = r
none_four false false false w x y p q r = refl

-- beyond the third, none of the tests passes
past_three : (a b c : Bool) (w x y : ℤ) → a ≡ false → b ≡ false → c ≡ false → cond a w (cond b x (cond c y (pos 0))) ≡ pos 0
past_three a b c w x y p q r = rw (p, q, r) refl

pub wide_lawful : Lawful wide
wide_lawful =
    record {
      scale_least = le_z_yes tt;
      scale_most = le_z_yes tt;
      some_variable = omega arith;
      few_variables = omega arith;
      few_rows = omega arith;
      ordered = λ v. elim (nat_lt v 256) as (λ c. pos 0 ≤ℤ cond c (pos 1) (pos 0)) [ true ↦ le_z_yes tt | false ↦ le_z_yes tt ];
      small_low = λ v. omega arith;
      small_high = small_one;
      small_objective = small_one;
      small_coefficient = λ r v. small_four (r == 0) (r == 1) (r == 2) _ _ _ _ (small_one v) (small_last _ (omega arith) v) (small_last _ (omega arith) v) (omega arith);
      small_side = λ r. small_four (r == 0) (r == 1) (r == 2) _ _ _ _ (omega arith) (omega arith) (omega arith) (omega arith);
      past_low = λ v past. refl;
      past_high = past_one;
      past_whole = λ v past. le-ltb v 256 past;
      past_objective = past_one;
      past_variable = λ r v past. none_four (r == 0) (r == 1) (r == 2) _ _ _ (past_one v past) (past_last _ v past) (past_last _ v past);
      past_row = λ r v past. past_three (r == 0) (r == 1) (r == 2) _ _ _ (ne_eqb r 0 (λ e. omega arith)) (ne_eqb r 1 (λ e. omega arith)) (ne_eqb r 2 (λ e. omega arith));
      past_side = λ r past. past_three (r == 0) (r == 1) (r == 2) _ _ _ (ne_eqb r 0 (λ e. omega arith)) (ne_eqb r 1 (λ e. omega arith)) (ne_eqb r 2 (λ e. omega arith));
    }
