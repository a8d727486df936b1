-- The lines of a sheet are those of the table below.
use Rattle.std.proofs.Common.{◌≡◌, ℕ, zero, suc, ◌+◌, ◌<◌, ◌≤◌, List, length, sym, ap, ◌∙◌, subst, inl, inr, arith}
use denote.Param.Members.{Mut}
use Rattle.std.specs.Array.{IsFromFnResultFrom, IsFromFnResult}
use Rattle.std.specs.Fn.{Called}
use Rattle.std.proofs.lemmas.List.{get_or_past}
use Rattle.std.proofs.lemmas.Bool.{cases_eq, cases_lt}
use Rattle.bound.specs.declared.sheet.Line.{Line}
use Rattle.bound.specs.Tables.{Table, Lawful}
use Rattle.bound.specs.Sheets.{line, line_of, no_line, Copied}

-- the array that a closure fills, whose calls change nothing and give F of each index
module _ {S : Type 0} (g : Mut S (ℕ × Unit {0}) Line) (f : S) (F : ℕ → Line) (says : (k : ℕ) (x : Line) (q : S) → Called g f (k, tt) x q → (q ≡ f) × (x ≡ F k)) where
  filled_from : (lines : List Line) (i n : ℕ) → IsFromFnResultFrom g f lines i n → (k : ℕ) → i ≤ k → k < i + n → line lines k ≡ F k
  filled_from lines i zero calls k above below = absurd (omega arith)
  filled_from lines i (suc n) calls k above below =
      let said = says i calls.1 calls.0 calls.3 in
      elim (cases_eq k i) [
        | inl same ↦ ap (line lines) same ∙ calls.2.1 no_line ∙ said.1 ∙ ap F (sym same)
        | inr other ↦ filled_from lines (i + 1) n (subst (λ q. IsFromFnResultFrom g q lines (i + 1) n) said.0 calls.4) k (omega arith) (omega arith)
      ]

  pub filled : (lines : List Line) (n : ℕ) → IsFromFnResult g f lines n → (k : ℕ) → k < n → line lines k ≡ F k
  filled lines n calls k below = filled_from lines 0 n calls.each k (omega arith) (omega arith)

-- lines that are the table's are so beyond the last one too
pub copied : (t : Table) (l : Lawful t) (lines : List Line) → length lines ≡ 256 → ((k : ℕ) → k < 256 → line lines k ≡ line_of t k) → Copied t lines
copied t l lines long same k =
    elim (cases_lt k 256) [
      | inl within ↦ same k within
      | inr beyond ↦
          let past : t.variables ≤ k = omega (arith, l.few_variables) in
          get_or_past lines k no_line (omega (arith, long)) ∙ sym (λ i. record { low = l.past_low k past i; high = l.past_high k past i; whole = l.past_whole k past i })
    ]
