-- Weak duality: the bound of a leaf is at least the scaled objective at every point.
use Rattle.std.proofs.Common.{◌≡◌, ℕ, zero, suc, ◌+◌, ◌<◌, ◌≤◌, Bool, true, false, cond, leb, List, [], ◌∷◌, ℤ, pos, negsuc, ◌+ℤ◌, ◌-ℤ◌, ◌*ℤ◌, nat_abs, ◌≤ℤ◌, Some, None, Option, sym, refl, ap, ◌∙◌, inl, inr, add-zero, zero-add, arith}
use lib.IntN.{zero-*ℤ}
use Rattle.std.proofs.lemmas.Bool.{cases_lt}
use Rattle.std.specs.List.{AllByRecursion}
use Rattle.std.specs.Int.{int_max}
use Rattle.std.proofs.lemmas.Int.{ints}
use Rattle.bound.specs.declared.leaf.Weight.{Weight}
use Rattle.numbers.specs.Sums.{sum_to}
use Rattle.numbers.proofs.Sums.{sum_start, sum_more}
use Rattle.numbers.proofs.Integers.{mul_assoc, add_mul, mul_le, mul_max}
use Rattle.numbers.proofs.Weighted.{weighted_mul, weighted_add, weighted_zero}
use Rattle.bound.specs.Tables.{Table, Lawful, most}
use Rattle.bound.specs.Points.{Point, row_at, Bounds}
use Rattle.bound.specs.Leaves.{kept, after, times, plus, less, more, fewer, each, add_side, sides, take_coefficient, rest_of, peak, part, parts, leaf_bound}

-- ---- a checked step that was made

kept_at : (b : Bool) (z y : ℤ) → cond b (Some z) None ≡ Some y → z ≡ y
kept_at true z y e = grind arith
kept_at false z y e = grind arith

kept_is : (z y : ℤ) → kept z ≡ Some y → z ≡ y
kept_is z y e = kept_at (leb (nat_abs z) most) z y e

pub after_is : (o : Option ℤ) (f : ℤ → Option ℤ) (y : ℤ) → after o f ≡ Some y → (x : ℤ) × (o ≡ Some x) × (f x ≡ Some y)
after_is None f y e = grind arith
after_is (Some x) f y e = (x, refl, e)

more_is : (sum a b z : ℤ) → more sum a b ≡ Some z → z ≡ sum +ℤ (a *ℤ b)
more_is sum a b z e =
    let s = after_is (times a b) (plus sum) z e in
    sym (ap (λ p. sum +ℤ p) (kept_is (a *ℤ b) s.0 s.1) ∙ kept_is (sum +ℤ s.0) z s.2)

fewer_is : (rest a b z : ℤ) → fewer rest a b ≡ Some z → z ≡ rest -ℤ (a *ℤ b)
fewer_is rest a b z e =
    let s = after_is (times a b) (less rest) z e in
    sym (ap (λ p. rest -ℤ p) (kept_is (a *ℤ b) s.0 s.1) ∙ kept_is (rest -ℤ s.0) z s.2)

pub some_is : (x y : ℤ) → Some x ≡ Some y → x ≡ y
some_is x y e = grind arith

by_weight : (w a b : ℤ) → pos 1 ≤ℤ w → a ≤ℤ b → (w *ℤ a) ≤ℤ (w *ℤ b)
by_weight (pos n) a b one h = mul_le n a b h
by_weight (negsuc n) a b one h = absurd one.le

-- every weight is at least 1
abbrev pub Positive : List Weight → Type 0
Positive ws = AllByRecursion (λ w. pos 1 ≤ℤ w.weight) ws

-- ---- the two sums that the weights make

-- the weights times v's coefficients
column : Table → ℕ → List Weight → ℤ
column t v [] = pos 0
column t v (w ∷ ws) = (w.weight *ℤ t.coefficient w.row v) +ℤ column t v ws

-- the weights times the rows at X
weighted : Table → (ℕ → ℤ) → List Weight → ℤ
weighted t X [] = pos 0
weighted t X (w ∷ ws) = (w.weight *ℤ row_at t w.row X) +ℤ weighted t X ws

-- they are one sum, taken by rows and by variables
by_rows : (t : Table) (X : ℕ → ℤ) (ws : List Weight) → sum_to t.variables (λ v. column t v ws *ℤ X v) ≡ weighted t X ws
unfolding column weighted
by_rows t X [] = weighted_zero t.variables (λ v. pos 0) X (λ v. refl)
by_rows t X (w ∷ ws) =
    let n = t.variables in
    let row : ℕ → ℤ = λ v. t.coefficient w.row v in
    weighted_add n (λ v. w.weight *ℤ row v) (λ v. column t v ws) X
    ∙ ap (λ z. z +ℤ sum_to n (λ v. column t v ws *ℤ X v)) (sym (weighted_mul n w.weight row X))
    ∙ ap (λ z. (w.weight *ℤ row_at t w.row X) +ℤ z) (by_rows t X ws)

taken : (y p z r k : ℤ) → z ≡ y -ℤ p → z ≡ r +ℤ k → y ≡ r +ℤ (p +ℤ k)
taken y p z r k made rest = omega (arith, ints)

rest_is : (t : Table) (v : ℕ) (ws : List Weight) (y r : ℤ) → each (take_coefficient t v) ws y ≡ Some r → y ≡ r +ℤ column t v ws
unfolding column
rest_is t v [] y r e = let same = some_is y r e in omega (arith, ints)
rest_is t v (w ∷ ws) y r e =
    let s = after_is (take_coefficient t v y w) (each (take_coefficient t v) ws) r e in
    taken y (w.weight *ℤ t.coefficient w.row v) s.0 r (column t v ws) (fewer_is y w.weight (t.coefficient w.row v) s.0 s.1) (rest_is t v ws s.0 r s.2)

peak_is : (t : Table) (v : ℕ) (r p : ℤ) → peak t v r ≡ Some p → p ≡ int_max (r *ℤ t.low v) (r *ℤ t.high v)
peak_is t v r p e =
    let low = after_is (times r (t.low v)) (λ a. after (times r (t.high v)) (λ b. Some (int_max a b))) p e in
    let high = after_is (times r (t.high v)) (λ b. Some (int_max low.0 b)) p low.2 in
    sym (ap (λ a. int_max a (r *ℤ t.high v)) (kept_is _ low.0 low.1) ∙ ap (int_max low.0) (kept_is _ high.0 high.1) ∙ some_is _ p high.2)

-- ---- sums of numbers, each of which stands for a product

none_more : (y b : ℤ) → y ≡ b → (y +ℤ pos 0) ≤ℤ b
none_more y b e = omega (arith, ints)

one_more : (y p z b row rows : ℤ) → z ≡ y +ℤ p → row ≤ℤ p → (z +ℤ rows) ≤ℤ b → (y +ℤ (row +ℤ rows)) ≤ℤ b
one_more y p z b row rows made h k = omega (arith, ints)

within_part : (whole rest taken' p top : ℤ) → whole ≡ rest +ℤ taken' → p ≡ top → rest ≤ℤ top → whole ≤ℤ (p +ℤ taken')
within_part whole rest taken' p top shares same h = omega (arith, ints)

part_more : (y p z f fs g gs s : ℤ) → z ≡ y +ℤ p → f ≤ℤ (p +ℤ g) → (fs +ℤ s) ≤ℤ (y +ℤ gs) → ((fs +ℤ f) +ℤ s) ≤ℤ (z +ℤ (gs +ℤ g))
part_more y p z f fs g gs s added here h = omega (arith, ints)

next_part : (f g : ℕ → ℤ) (v : ℕ) (y p z s : ℤ) → z ≡ y +ℤ p → f v ≤ℤ (p +ℤ g v) → (sum_to v f +ℤ s) ≤ℤ (y +ℤ sum_to v g) → (sum_to (v + 1) f +ℤ s) ≤ℤ (z +ℤ sum_to (v + 1) g)
next_part f g v y p z s added here h = rw (sum_more v f, sum_more v g) (part_more y p z (f v) (sum_to v f) (g v) (sum_to v g) s added here h)

at_start : (f g s : ℤ) → f ≡ pos 0 → g ≡ pos 0 → (f +ℤ s) ≤ℤ (s +ℤ g)
at_start f g s none nor = omega (arith, ints)

last : (f s b g rows : ℤ) → (f +ℤ s) ≤ℤ (b +ℤ g) → g ≡ rows → (pos 0 +ℤ rows) ≤ℤ s → f ≤ℤ b
last f s b g rows h same k = omega (arith, ints)

-- ---- the bound at a point

module _ (t : Table) (lawful : Lawful t) (D : ℕ) (X : ℕ → ℤ) (point : Point t D X) where
  -- past the rows both sides are 0
  row_le : (r : ℕ) → row_at t r X ≤ℤ (t.side r *ℤ pos D)
  row_le r =
      elim (cases_lt r t.rows) [
        | inl within ↦ point.under r within
        | inr past ↦
            let none = weighted_zero t.variables (λ v. t.coefficient r v) X (λ v. lawful.past_row r v past) in
            let side = ap (λ z. z *ℤ pos D) (lawful.past_side r past) ∙ zero-*ℤ (pos D) in
            omega (arith, ints)
      ]

  sides_le : (ws : List Weight) (y b : ℤ) → Positive ws → each (add_side t) ws y ≡ Some b → ((y *ℤ pos D) +ℤ weighted t X ws) ≤ℤ (b *ℤ pos D)
  unfolding weighted
  sides_le [] y b all e = let same = ap (λ z. z *ℤ pos D) (some_is y b e) in none_more (y *ℤ pos D) (b *ℤ pos D) same
  sides_le (w ∷ ws) y b all e =
      let s = after_is (add_side t y w) (each (add_side t) ws) b e in
      let side = t.side w.row in
      let row : (w.weight *ℤ row_at t w.row X) ≤ℤ ((w.weight *ℤ side) *ℤ pos D) =
      rw (mul_assoc w.weight side (pos D)) (by_weight w.weight (row_at t w.row X) (side *ℤ pos D) all.0 (row_le w.row)) in
      let made = ap (λ z. z *ℤ pos D) (more_is y w.weight side s.0 s.1) ∙ add_mul y (w.weight *ℤ side) (pos D) in
      one_more _ _ _ _ _ (weighted t X ws) made row (sides_le ws s.0 b all.1 s.2)

  -- what v adds to the objective, less what the rows take, is at most its part
  part_le : (ws : List Weight) (v : ℕ) (p : ℤ) → v < t.variables → part t ws v ≡ Some p → ((t.scale *ℤ t.objective v) *ℤ X v) ≤ℤ ((p *ℤ pos D) +ℤ (column t v ws *ℤ X v))
  part_le ws v p within e =
      let s = after_is (rest_of t ws v) (peak t v) p e in
      let r = s.0 in
      let q = after_is (times t.scale (t.objective v)) (each (take_coefficient t v) ws) r s.1 in
      let whole : t.scale *ℤ t.objective v ≡ r +ℤ column t v ws = kept_is _ q.0 q.1 ∙ rest_is t v ws q.0 r q.2 in
      let shares = ap (λ z. z *ℤ X v) whole ∙ add_mul r (column t v ws) (X v) in
      let most-is = ap (λ z. z *ℤ pos D) (peak_is t v r p s.2) in
      let at_most = mul_max r (t.low v) (t.high v) (X v) D (point.from v within) (point.to v within) in
      within_part _ _ _ _ _ shares most-is at_most

  -- v's share of the scaled objective, and of the weighted rows
  abbrev gain : ℕ → ℤ
  gain v = (t.scale *ℤ t.objective v) *ℤ X v

  abbrev loss : List Weight → ℕ → ℤ
  loss ws v = column t v ws *ℤ X v

  parts_le : (ws : List Weight) (s : ℤ) (k v : ℕ) (y b : ℤ) → v + k ≤ t.variables → parts t ws k v y ≡ Some b → (sum_to v gain +ℤ s) ≤ℤ ((y *ℤ pos D) +ℤ sum_to v (loss ws)) → (sum_to (v + k) gain +ℤ s) ≤ℤ ((b *ℤ pos D) +ℤ sum_to (v + k) (loss ws))
  parts_le ws s zero v y b within e h = rw (add-zero, sym (some_is y b e)) h
  parts_le ws s (suc k) v y b within e h =
      let first = after_is (part t ws v) (λ p. after (plus y p) (parts t ws k (v + 1))) b e in
      let then = after_is (plus y first.0) (parts t ws k (v + 1)) b first.2 in
      let below : v < t.variables = omega arith in
      let fits : (v + 1) + k ≤ t.variables = omega arith in
      let next : v + suc k ≡ (v + 1) + k = omega arith in
      let added = ap (λ z. z *ℤ pos D) (sym (kept_is _ then.0 then.1)) ∙ add_mul y first.0 (pos D) in
      let here = part_le ws v first.0 below first.1 in
      rw next (parts_le ws s k (v + 1) then.0 b fits then.2 (next_part gain (loss ws) v (y *ℤ pos D) (first.0 *ℤ pos D) (then.0 *ℤ pos D) s added here h))

pub leaf_bounds : (t : Table) (ws : List Weight) (b : ℤ) → Lawful t → Positive ws → leaf_bound t ws ≡ Some b → Bounds t b
leaf_bounds t ws b lawful all e D X one point =
    let n = t.variables in
    let s = after_is (sides t ws) (parts t ws n 0) b e in
    let within : 0 + n ≤ n = omega arith in
    let start = at_start _ _ (s.0 *ℤ pos D) (sum_start _) (sum_start _) in
    let all-parts = rw zero-add at (parts_le t lawful D X point ws (s.0 *ℤ pos D) n 0 s.0 b within s.2 start) in
    let rows = rw zero-*ℤ at (sides_le t lawful D X point ws (pos 0) s.0 all s.1) in
    rw (weighted_mul n t.scale t.objective X) (last _ (s.0 *ℤ pos D) _ _ (weighted t X ws) all-parts (by_rows t X ws) rows)
