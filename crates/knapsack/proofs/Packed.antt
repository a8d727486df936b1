-- Sums of four, and packings as points of the knapsack.
use Rattle.std.proofs.Common.{◌≡◌, ℕ, Bool, true, false, cond, List, get_or, replicate, ℤ, pos, ◌+ℤ◌, ◌*ℤ◌, ◌≤ℤ◌, IfOk, Ok, Err, Result, sym, ap, subst, arith}
use lib.Signed.{le_z_yes}
use Rattle.std.proofs.lemmas.Int.{ints}
use Rattle.std.proofs.lemmas.Bool.{lt-ltb}
use Rattle.numbers.specs.Sums.{sum_to, Within, Term}
use Rattle.bound.specs.Points.{Point, Bounds}
use Rattle.bound.specs.declared.faults.Refusal.{Refusal}
use Rattle.knapsack.specs.declared.items.Item.{Item}
use Rattle.knapsack.specs.Items.{item_at}
use Rattle.knapsack.specs.Knapsack.{knapsack}
use Rattle.knapsack.specs.Packings.{part, worth_of, Fits, Caps}

pub sum_four : (f : ℕ → ℤ) → sum_to 4 f ≡ ((f 0 +ℤ f 1) +ℤ f 2) +ℤ f 3
unfolding sum_to
sum_four f = omega (arith, ints)

part_low : (b : Bool) → (pos 0 *ℤ pos 1) ≤ℤ cond b (pos 1) (pos 0)
part_low true = le_z_yes tt
part_low false = le_z_yes tt

part_high : (b : Bool) → cond b (pos 1) (pos 0) ≤ℤ (pos 1 *ℤ pos 1)
part_high true = le_z_yes tt
part_high false = le_z_yes tt

times_one : (z : ℤ) → z ≡ z *ℤ pos 1
times_one z = omega (arith, ints)

-- a packing that fits is a point over 1
packed : (taken : List Bool) → Fits taken → Point knapsack 1 (part taken)
packed taken fits =
    record {
      from = λ v known. part_low (get_or taken v false);
      to = λ v known. rw (lt-ltb v 4 known) (part_high (get_or taken v false));
      whole = λ v known marked. (part taken v, times_one (part taken v));
      under = λ r first. rw (lt-ltb r 1 first) fits;
    }

pub caps : (r : Result ℤ Refusal) → IfOk r (λ b. Bounds knapsack b) → IfOk r Caps
caps (Ok b) bounds = λ taken fits. subst (λ z. (pos 10 *ℤ worth_of taken) ≤ℤ z) (sym (times_one b)) (bounds 1 (part taken) (omega arith) (packed taken fits))
caps (Err e) bounds = tt

-- the number of a thing that is taken, or 0
counted_small : (z : ℤ) (b : Bool) → Within 50 z → Within 50 (z *ℤ cond b (pos 1) (pos 0))
counted_small z true w = (omega (arith, ints), omega (arith, ints))
counted_small z false w = (omega (arith, ints), omega (arith, ints))

pub counted_term : (f : Item → ℤ) (taken : List Bool) (v : ℕ) (z : ℤ) → Term (λ v. f (item_at v)) 50 v z → Term (λ v. f (item_at v) *ℤ part taken v) 50 v (z *ℤ part taken v)
counted_term f taken v z t = record { is = ap (λ x. x *ℤ part taken v) t.is; small = counted_small z (get_or taken v false) t.small }

-- nothing is taken
pub none_fits : Fits (replicate 4 false)
none_fits = rw (sum_four (λ v. (item_at v).size *ℤ part (replicate 4 false) v)) (le_z_yes tt)
