-- What is held on the way down a tree.
use Rattle.std.proofs.Common.{◌≡◌, ℕ, suc, ◌+◌, ◌<◌, Bool, true, false, cond, eqb, ltb, List, [], ◌∷◌, ◌++◌, length, ℤ, pos, negsuc, Result, sym, refl, ap, ◌∙◌, inl, inr, arith}
use mathlib.Core.Path.{fun_ext}
use Rattle.std.proofs.lemmas.Bool.{and_parts, cases_eq, cond-true, cond-false, eq-eqb, eqb-true, eqb-false, lt-ltb, le-ltb, ne_eqb}
use Rattle.bound.specs.declared.faults.Refusal.{Refusal}
use Rattle.bound.specs.declared.fixing.Held.{Held}
use Rattle.bound.specs.Tables.{Table, Small}
use Rattle.bound.specs.Layers.{held_or, fixed, place, with_held, hold_answer, hold_after}
use Rattle.bound.specs.Checks.{is_nat, allowed}
use Rattle.bound.proofs.Holding.{may_hold}

-- a free variable is held last
held_last : (hs : List Held) (h : Held) → place h.variable hs ≡ length hs → with_held hs h ≡ hs ++ (h ∷ [])
held_last hs h free = cond-false _ _ _ (le-ltb (place h.variable hs) (length hs) (omega (arith, free)))

pub held_on : (n : ℕ) (hs : List Held) (h : Held) (r : Result (Unit {0}) Refusal) (now : List Held) → r ≡ hold_answer n hs h → now ≡ hold_after r hs h → Small h.value → h.variable < n → place h.variable hs ≡ length hs → length hs < 64 → now ≡ hs ++ (h ∷ [])
held_on n hs h r now answers holds small known free room =
    let below : place h.variable hs < 64 = omega (arith, free) in
    holds ∙ ap (λ r. hold_after r hs h) (answers ∙ sym (may_hold n hs h small known below)) ∙ held_last hs h free

nat_is : (z : ℤ) (n : ℕ) → is_nat z n ≡ true → z ≡ pos n
nat_is (pos a) n e = ap pos (eqb-true a n e)
nat_is (negsuc a) n e = let z : ◌≡◌ {A = ℕ} 0 1 = cc in absurd (omega arith)

pub allowed_is : (t : Table) (v : ℕ) → allowed t v ≡ true → (t.whole v ≡ true) × (t.low v ≡ pos 0) × (t.high v ≡ pos 1)
allowed_is t v e =
    let a = and_parts _ _ e in
    let b = and_parts _ _ a.1 in
    (a.0, nat_is (t.low v) 0 b.0, nat_is (t.high v) 1 b.1)

-- two limits that differ are not those of a held variable
free_at : (c : Bool) (x a b : ℤ) (k n : ℕ) → cond c x a ≡ pos 0 → cond c x b ≡ pos 1 → (a ≡ pos 0 → b ≡ pos 1 → k ≡ n) → cond c 0 (1 + k) ≡ suc n
free_at true x a b k n low high rest = let z : ◌≡◌ {A = ℕ} 0 1 = cc in absurd (omega arith)
free_at false x a b k n low high rest = let same = rest low high in omega arith

free : (v : ℕ) (hs : List Held) (a b : ℤ) → held_or v a hs ≡ pos 0 → held_or v b hs ≡ pos 1 → place v hs ≡ length hs
free v [] a b low high = refl
free v (h ∷ hs) a b low high = free_at (eqb h.variable v) h.value _ _ (place v hs) (length hs) low high (free v hs a b)

pub allowed_free : (t : Table) (hs : List Held) (v : ℕ) → v < t.variables → allowed (fixed t hs) v ≡ true → place v hs ≡ length hs
allowed_free t hs v known e =
    let is = allowed_is (fixed t hs) v e in
    let within = lt-ltb v t.variables known in
    free v hs (t.low v) (t.high v) (sym (cond-true _ _ _ within) ∙ is.1) (sym (cond-true _ _ _ within) ∙ is.2)

-- one variable more is held
not_first : (a b n : ℕ) (c : Bool) → c ≡ eqb a b → (k : ℕ) → cond c 0 (1 + k) ≡ suc n → (a ≡ b → ⊥) × (k ≡ n)
not_first a b n true is k e = absurd (omega arith)
not_first a b n false is k e = (eqb-false a b (sym is), omega arith)

held_more : (u : ℕ) (z : ℤ) (hs : List Held) (h : Held) → place h.variable hs ≡ length hs → held_or u z (hs ++ (h ∷ [])) ≡ cond (eqb h.variable u) h.value (held_or u z hs)
held_more u z [] h free = refl
held_more u z (x ∷ hs) h free =
    let first = not_first x.variable h.variable (length hs) (eqb x.variable h.variable) refl (place h.variable hs) free in
    elim (cases_eq x.variable u) [
      | inl same ↦
          cond-true _ _ _ (eq-eqb x.variable u same)
          ∙ sym (cond-false _ _ _ (ne_eqb h.variable u (λ e. first.0 (same ∙ sym e))) ∙ cond-true _ _ _ (eq-eqb x.variable u same))
      | inr other ↦
          cond-false _ _ _ (ne_eqb x.variable u other) ∙ held_more u z hs h first.1
          ∙ ap (cond (eqb h.variable u) h.value) (sym (cond-false _ _ _ (ne_eqb x.variable u other)))
    ]

limit_more : (b : Bool) (x y z w : ℤ) (c : Bool) → x ≡ cond c y w → cond b x z ≡ cond b (cond c y (cond b w z)) (cond b w z)
limit_more true x y z w c e = e
limit_more false x y z w c e = refl

pub fixed_more : (t : Table) (hs : List Held) (h : Held) → place h.variable hs ≡ length hs → fixed t (hs ++ (h ∷ [])) ≡ fixed (fixed t hs) (h ∷ [])
fixed_more t hs h free =
    let low = fun_ext (λ u. limit_more (ltb u t.variables) _ h.value (t.low u) (held_or u (t.low u) hs) (eqb h.variable u) (held_more u (t.low u) hs h free)) in
    let high = fun_ext (λ u. limit_more (ltb u t.variables) _ h.value (t.high u) (held_or u (t.high u) hs) (eqb h.variable u) (held_more u (t.high u) hs h free)) in
    λ i. record {
      scale = t.scale;
      variables = t.variables;
      rows = t.rows;
      low = low i;
      high = high i;
      whole = t.whole;
      objective = t.objective;
      coefficient = t.coefficient;
      side = t.side;
    }

-- nothing is held
same_both : (b : Bool) (z : ℤ) → cond b z z ≡ z
same_both true z = refl
same_both false z = refl

pub fixed_none : (t : Table) → fixed t [] ≡ t
fixed_none t =
    let low = fun_ext (λ u. same_both (ltb u t.variables) (t.low u)) in
    let high = fun_ext (λ u. same_both (ltb u t.variables) (t.high u)) in
    λ i. record {
      scale = t.scale;
      variables = t.variables;
      rows = t.rows;
      low = low i;
      high = high i;
      whole = t.whole;
      objective = t.objective;
      coefficient = t.coefficient;
      side = t.side;
    }
