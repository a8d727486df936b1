-- A sheet whose lines are those of the table below keeps to the limits, and means the same as what is below.
use Rattle.std.proofs.Common.{◌≡◌, ℕ, ◌≤◌, false, cond, List, pos, ◌≤ℤ◌, nat_lt, sym, ap, ◌∙◌, subst, inl, inr, le-ltb, lt-ltb}
use mathlib.Core.Path.{fun_ext}
use Rattle.std.proofs.lemmas.Bool.{cases_lt}
use Rattle.bound.specs.declared.sheet.Line.{Line}
use Rattle.bound.specs.Tables.{Table, Lawful, Small}
use Rattle.bound.specs.Sheets.{line, line_of, Copied, Ordered, SmallLow, SmallHigh, sheeted}

module _ (t : Table) (l : Lawful t) (lines : List Line) (copied : Copied t lines) where
  pub copied_ordered : Ordered lines
  copied_ordered v = let P : Line → Type 0 = λ x. x.low ≤ℤ x.high in subst P (sym (copied v)) (l.ordered v)

  pub copied_low : SmallLow lines
  copied_low v = let P : Line → Type 0 = λ x. Small x.low in subst P (sym (copied v)) (l.small_low v)

  pub copied_high : SmallHigh lines
  copied_high v = let P : Line → Type 0 = λ x. Small x.high in subst P (sym (copied v)) (l.small_high v)

  -- within the count an answer of the lines is the table's, and past it both are d
  answer_is : {A : Type 0} (f : Line → A) (d : A) (k : ℕ) → (t.variables ≤ k → f (line_of t k) ≡ d) → cond (nat_lt k t.variables) (f (line lines k)) d ≡ f (line_of t k)
  answer_is f d k past =
      elim (cases_lt k t.variables) [
        | inl within ↦ ap (λ c. cond c (f (line lines k)) d) (lt-ltb k t.variables within) ∙ ap f (copied k)
        | inr beyond ↦ ap (λ c. cond c (f (line lines k)) d) (le-ltb k t.variables beyond) ∙ sym (past beyond)
      ]

  pub sheeted_same : sheeted t lines ≡ t
  sheeted_same =
      let low = fun_ext (λ k. answer_is (λ x. x.low) (pos 0) k (l.past_low k)) in
      let high = fun_ext (λ k. answer_is (λ x. x.high) (pos 0) k (l.past_high k)) in
      let whole = fun_ext (λ k. answer_is (λ x. x.whole) false k (l.past_whole k)) in
      λ i. record {
        scale = t.scale;
        variables = t.variables;
        rows = t.rows;
        low = low i;
        high = high i;
        whole = whole i;
        objective = t.objective;
        coefficient = t.coefficient;
        side = t.side;
      }
