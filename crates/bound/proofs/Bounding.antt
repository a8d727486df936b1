-- The bound of a tree that sits in a table is at least the objective at every point.
use Rattle.std.proofs.Common.{◌≡◌, ℕ, zero, suc, ◌*◌, ◌<◌, ◌≤◌, Bool, true, false, cond, eqb, ltb, ◌⊎◌, List, [], ◌∷◌, ℤ, pos, negsuc, ◌*ℤ◌, ◌≤ℤ◌, Some, sym, refl, ap, ◌∙◌, subst, inl, inr, arith}
use Rattle.std.proofs.lemmas.Nat.{mul-le}
use Rattle.std.proofs.lemmas.Int.{ints}
use Rattle.std.proofs.lemmas.Bool.{eqb-true}
use Rattle.std.specs.Int.{int_max}
use Rattle.std.specs.List.{AllByRecursion}
use Rattle.bound.specs.declared.leaf.Weight.{Weight}
use Rattle.bound.specs.Tables.{Table, Lawful, Small}
use Rattle.bound.specs.Points.{Point, Bounds}
use Rattle.bound.specs.Leaves.{after}
use Rattle.bound.specs.Layers.{fixed_lawful}
use Rattle.bound.specs.Layers.{holding}
use Rattle.bound.specs.Trees.{Tree, leaf, split, Weighs, Sits, tree_bound}
use Rattle.numbers.proofs.Integers.{mul_le_right, le_max_left, le_max_right}
use Rattle.bound.proofs.Duality.{Positive, leaf_bounds, after_is, some_is}

-- a point that has v at the value is one of the table that holds v there
low_at : (b c : Bool) (low value x : ℤ) (D : ℕ) → (low *ℤ pos D) ≤ℤ x → (c ≡ true → x ≡ value *ℤ pos D) → (cond b (cond c value low) low *ℤ pos D) ≤ℤ x
low_at true true low value x D from here = let is = here refl in omega (arith, ints)
low_at true false low value x D from here = from
low_at false c low value x D from here = from

high_at : (b c : Bool) (high value x : ℤ) (D : ℕ) → x ≤ℤ (high *ℤ pos D) → (c ≡ true → x ≡ value *ℤ pos D) → x ≤ℤ (cond b (cond c value high) high *ℤ pos D)
high_at true true high value x D to here = let is = here refl in omega (arith, ints)
high_at true false high value x D to here = to
high_at false c high value x D to here = to

pub held_point : (t : Table) (D : ℕ) (X : ℕ → ℤ) (v : ℕ) (value : ℤ) → Point t D X → X v ≡ value *ℤ pos D → Point (holding t v value) D X
held_point t D X v value point is =
    let here : (u : ℕ) → eqb v u ≡ true → X u ≡ value *ℤ pos D = λ u e. ap X (sym (eqb-true v u e)) ∙ is in
    record {
      from = λ u within. low_at (ltb u t.variables) (eqb v u) (t.low u) value (X u) D (point.from u within) (here u);
      to = λ u within. high_at (ltb u t.variables) (eqb v u) (t.high u) value (X u) D (point.to u within) (here u);
      whole = point.whole;
      under = point.under;
    }

-- a multiple of D from 0 up to D is one of the two
two_values : (k x : ℤ) (D : ℕ) → 1 ≤ D → x ≡ k *ℤ pos D → (pos 0 *ℤ pos D) ≤ℤ x → x ≤ℤ (pos 1 *ℤ pos D) → (x ≡ pos 0 *ℤ pos D) ⊎ (x ≡ pos 1 *ℤ pos D)
two_values (pos zero) x D one is from to = inl is
two_values (pos (suc zero)) x D one is from to = inr is
two_values (pos (suc (suc k))) x D one is from to =
    let big : 2 * D ≤ suc (suc k) * D = mul-le 2 D (suc (suc k)) D (omega arith) (omega arith) in
    absurd (omega (arith, ints))
two_values (negsuc k) x D one is from to =
    let big : 1 * D ≤ suc k * D = mul-le 1 D (suc k) D (omega arith) (omega arith) in
    absurd (omega (arith, ints))

small_zero : Small (pos 0)
small_zero = omega arith

small_one : Small (pos 1)
small_one = omega arith

-- one variable held keeps a table lawful
held_lawful : (t : Table) (v : ℕ) (value : ℤ) → Lawful t → Small value → Lawful (holding t v value)
held_lawful t v value lawful small = fixed_lawful t (record { variable = v; value = value } ∷ []) lawful (small, tt)

le_trans : (a b c : ℤ) → a ≤ℤ b → b ≤ℤ c → a ≤ℤ c
le_trans a b c h k = omega (arith, ints)

split_bounds : (t : Table) (v : ℕ) (x y : ℤ) → v < t.variables → t.whole v ≡ true → t.low v ≡ pos 0 → t.high v ≡ pos 1
    → Bounds (holding t v (pos 0)) x → Bounds (holding t v (pos 1)) y → Bounds t (int_max x y)
split_bounds t v x y known marked low high off on D X one point =
    let k = point.whole v known marked in
    let from = subst (λ z. (z *ℤ pos D) ≤ℤ X v) low (point.from v known) in
    let to = subst (λ z. X v ≤ℤ (z *ℤ pos D)) high (point.to v known) in
    elim (two_values k.0 (X v) D one k.1 from to) [
      | inl none ↦ le_trans _ _ _ (off D X one (held_point t D X v (pos 0) point none)) (mul_le_right D x (int_max x y) (le_max_left x y))
      | inr whole ↦ le_trans _ _ _ (on D X one (held_point t D X v (pos 1) point whole)) (mul_le_right D y (int_max x y) (le_max_right x y))
    ]

positive : (t : Table) (ws : List Weight) → AllByRecursion (Weighs t) ws → Positive ws
positive t [] all = tt
positive t (w ∷ ws) all = (all.0.least, positive t ws all.1)

pub tree_bounds : (n : ℕ) (t : Table) (tree : Tree) (b : ℤ) → Lawful t → Sits n t tree → tree_bound t tree ≡ Some b → Bounds t b
tree_bounds zero t (leaf ws) b lawful sits e = leaf_bounds t ws b lawful (positive t ws sits.0) e
tree_bounds (suc n) t (leaf ws) b lawful sits e = leaf_bounds t ws b lawful (positive t ws sits.0) e
tree_bounds zero t (split v a c) b lawful sits e = absurd sits
tree_bounds (suc n) t (split v a c) b lawful sits e =
    let x = after_is (tree_bound (holding t v (pos 0)) a) (λ x. after (tree_bound (holding t v (pos 1)) c) (λ y. Some (int_max x y))) b e in
    let y = after_is (tree_bound (holding t v (pos 1)) c) (λ y. Some (int_max x.0 y)) b x.2 in
    let off = tree_bounds n (holding t v (pos 0)) a x.0 (held_lawful t v (pos 0) lawful small_zero) sits.4 x.1 in
    let on = tree_bounds n (holding t v (pos 1)) c y.0 (held_lawful t v (pos 1) lawful small_one) sits.5 y.1 in
    subst (Bounds t) (some_is (int_max x.0 y.0) b y.2) (split_bounds t v x.0 y.0 sits.0 sits.1 sits.2 sits.3 off on)
