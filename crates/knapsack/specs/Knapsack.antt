-- The knapsack as a table: a variable for each thing, 1 where it is packed and 0 where it is not, and one row, the capacity.
use Rattle.std.specs.Prelude.{◌≡◌, ℕ, ◌≤◌, true, false, cond, ℤ, pos, ◌≤ℤ◌, nat_lt, refl}
use Rattle.std.proofs.Common.{sym, ap, subst, inl, inr, arith}
use Rattle.std.specs.Int.Signed.{le_z_yes}
use Rattle.std.proofs.ByRecursion.{All-get_or}
use Rattle.std.proofs.lemmas.List.{get_or_past}
use Rattle.std.proofs.lemmas.Bool.{le-ltb, cases_lt}
use Rattle.std.specs.List.{AllByRecursion}
use Rattle.bound.specs.Tables.{Table, Lawful, Small}
use Rattle.knapsack.specs.declared.items.Item.{Item}
use Rattle.knapsack.specs.Items.{items, nothing, item_at}

-- z at the first n, and 0 beyond
abbrev pub up_to : ℕ → ℤ → ℕ → ℤ
up_to n z k = cond (nat_lt k n) z (pos 0)

abbrev pub knapsack : Table
knapsack =
    record {
      scale = pos 10;
      variables = 4;
      rows = 1;
      low = λ v. pos 0;
      high = up_to 4 (pos 1);
      whole = λ v. nat_lt v 4;
      objective = λ v. (item_at v).value;
      coefficient = λ r v. cond (nat_lt r 1) (item_at v).size (pos 0);
      side = up_to 1 (pos 10);
    }

-- what holds of each thing and of nothing
each_item : (P : Item → Type 0) → AllByRecursion P items → P nothing → (v : ℕ) → P (item_at v)
each_item P all none v =
    elim (cases_lt v 4) [ inl within ↦ All-get_or P items v nothing within all | inr past ↦ subst P (sym (get_or_past items v nothing past)) none ]

small_up_to : (n : ℕ) (z : ℤ) → Small z → (k : ℕ) → Small (up_to n z k)
small_up_to n z small k = elim (nat_lt k n) as (λ c. Small (cond c z (pos 0))) [ true ↦ small | false ↦ omega arith ]

past_up_to : (n : ℕ) (z : ℤ) (k : ℕ) → n ≤ k → up_to n z k ≡ pos 0
past_up_to n z k past = rw (le-ltb k n past) refl

small_size : (v : ℕ) → Small (item_at v).size
small_size = each_item (λ i. Small i.size) (omega arith, (omega arith, (omega arith, (omega arith, tt)))) (omega arith)

pub knapsack_lawful : Lawful knapsack
knapsack_lawful =
    record {
      scale_least = le_z_yes tt;
      scale_most = le_z_yes tt;
      some_variable = omega arith;
      few_variables = omega arith;
      few_rows = omega arith;
      ordered = λ v. elim (nat_lt v 4) as (λ c. pos 0 ≤ℤ cond c (pos 1) (pos 0)) [ true ↦ le_z_yes tt | false ↦ le_z_yes tt ];
      small_low = λ v. omega arith;
      small_high = small_up_to 4 (pos 1) (omega arith);
      small_objective = each_item (λ i. Small i.value) (omega arith, (omega arith, (omega arith, (omega arith, tt)))) (omega arith);
      small_coefficient = λ r v. elim (nat_lt r 1) as (λ c. Small (cond c (item_at v).size (pos 0))) [ true ↦ small_size v | false ↦ omega arith ];
      small_side = small_up_to 1 (pos 10) (omega arith);
      past_low = λ v past. refl;
      past_high = past_up_to 4 (pos 1);
      past_whole = λ v past. le-ltb v 4 past;
      past_objective = λ v past. ap (λ i. i.value) (get_or_past items v nothing past);
      past_variable = λ r v past. elim (nat_lt r 1) as (λ c. cond c (item_at v).size (pos 0) ≡ pos 0) [ true ↦ ap (λ i. i.size) (get_or_past items v nothing past) | false ↦ refl ];
      past_row = λ r v past. rw (le-ltb r 1 past) refl;
      past_side = past_up_to 1 (pos 10);
    }
