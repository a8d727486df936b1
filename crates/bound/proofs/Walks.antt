-- What the reading of a leaf accepts.
use Rattle.std.proofs.Common.{◌≡◌, ℕ, ◌<◌, ◌≤◌, Bool, true, false, cond, ◌&&◌, ltb, ℤ, pos, negsuc, ◌≤ℤ◌, Some, None, Ok, sym, refl, ap, ◌∙◌, subst, inl, inr, arith}
use lib.Signed.{lt_z, le_z}
use Rattle.std.proofs.lemmas.Bool.{ltb-true, ltb-false, and_parts, cases_lt}
use Rattle.std.proofs.lemmas.Int.{ints}
use Rattle.bound.specs.declared.faults.Fault.TheVariants.{OutsideLimits, NotRising}
use Rattle.bound.specs.declared.leaf.Weight.{Weight}
use Rattle.bound.specs.Tables.{most}
use Rattle.bound.specs.Checks.{numbered, placed, judged}
use Rattle.bound.proofs.Outcomes.{never, inside, not_refused, was_passed}

placed_at : (weight : ℤ) (p rows k : ℕ) (w : Weight) (b : Bool) → b ≡ ltb k rows → placed weight p (cond b (Some k) None) ≡ Ok w → (k ≡ w.row) × (k < rows) × (weight ≡ w.weight)
placed_at weight p rows k w true is e = let same = inside _ w e in (ap (λ x. x.row) same, ltb-true k rows (sym is), ap (λ x. x.weight) same)
placed_at weight p rows k w false is e = absurd (never _ w e)

placed_is : (weight : ℤ) (p rows : ℕ) (row : ℤ) (w : Weight) → placed weight p (numbered rows row) ≡ Ok w → (row ≡ pos w.row) × (w.row < rows) × (weight ≡ w.weight)
placed_is weight p rows (pos k) w e = let h = placed_at weight p rows k w (ltb k rows) refl e in (ap pos h.0, omega (arith, h.0, h.1), h.2)
placed_is weight p rows (negsuc k) w e = absurd (never _ w e)

-- a weight that was accepted
pub record Accepted (count next rows : ℕ) (row weight : ℤ) (w : Weight) : Type 0 where
  pub row_is : row ≡ pos w.row
  pub weight_is : weight ≡ w.weight
  pub there : w.row < rows
  pub rises : 1 ≤ count → next ≤ w.row
  pub least : pos 1 ≤ℤ w.weight
  pub greatest : w.weight ≤ℤ pos most

not_late : (a : Bool) (row : ℤ) (next k : ℕ) → row ≡ pos k → (a && lt_z row (pos next)) ≡ false → a ≡ true → next ≤ k
not_late true row next k is e h = let z : ltb k next ≡ false = ap (λ r. lt_z r (pos next)) (sym is) ∙ e in ltb-false k next z
not_late false row next k is e h = let z : ◌≡◌ {A = ℕ} 0 1 = cc in absurd (omega arith)

at_least : (a b : ℤ) → le_z a b ≡ true → a ≤ℤ b
at_least a b e = grind (arith, ints)

lt_true : (a b : ℕ) → a < b → ltb a b ≡ true
lt_true a b h = grind arith

pub accepted : (count next rows : ℕ) (row weight : ℤ) (p : ℕ) (w : Weight) → judged count next rows row weight p ≡ Ok w → Accepted count next rows row weight w
accepted count next rows row weight p w e =
    let a = not_refused (ltb 0 count && lt_z row (pos next)) NotRising p _ w e in
    let b = was_passed (le_z (pos 1) weight && le_z weight (pos most)) OutsideLimits p _ w a.1 in
    let c = placed_is weight p rows row w b.1 in
    let d = and_parts _ _ b.0 in
    record {
      row_is = c.0;
      weight_is = c.2;
      there = c.1;
      rises = λ some. not_late (ltb 0 count) row next w.row c.0 a.0 (lt_true 0 count some);
      least = subst (λ z. pos 1 ≤ℤ z) c.2 (at_least (pos 1) weight d.0);
      greatest = subst (λ z. z ≤ℤ pos most) c.2 (at_least weight (pos most) d.1);
    }

-- as many rows are below a row as were weighed before it
pub rises_past : (count n next row : ℕ) → count ≡ n → count ≤ next → (1 ≤ n → next ≤ row) → count ≤ row
rises_past count n next row same few rises =
    elim (cases_lt 0 n) [ inl some ↦ let h = rises some in omega arith | inr none ↦ omega arith ]
