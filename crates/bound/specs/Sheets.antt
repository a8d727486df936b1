-- A sheet that keeps the limits and the whole marks below.
use Rattle.std.specs.Prelude.{◌≡◌, ℕ, true, false, cond, List, pos, ◌≤ℤ◌, nat_lt, slice_index_or, refl}
use Rattle.std.proofs.Common.{arith, le-ltb}
use Rattle.std.specs.Int.Signed.{≤ℤ_refl}
use Rattle.bound.specs.declared.sheet.Line.{Line}
use Rattle.bound.specs.Tables.{Table, Lawful, Small}

-- what stands where there is no variable
abbrev pub no_line : Line
no_line = record { low = pos 0; high = pos 0; whole = false }

-- the limits and the mark that a table has for v
abbrev pub line_of : Table → ℕ → Line
line_of t v = record { low = t.low v; high = t.high v; whole = t.whole v }

-- the line of v
abbrev pub line : List Line → ℕ → Line
line lines v = slice_index_or lines v no_line

-- what a sheet's lines keep: low at most high, and both small
abbrev pub Ordered : List Line → Type 0
Ordered lines = (v : ℕ) → (line lines v).low ≤ℤ (line lines v).high

abbrev pub SmallLow : List Line → Type 0
SmallLow lines = (v : ℕ) → Small (line lines v).low

abbrev pub SmallHigh : List Line → Type 0
SmallHigh lines = (v : ℕ) → Small (line lines v).high

-- each line is that of the table, beyond the variables too
abbrev pub Copied : Table → List Line → Type 0
Copied t lines = (v : ℕ) → line lines v ≡ line_of t v

-- the table below, with the limits and the marks of the sheet
abbrev pub sheeted : Table → List Line → Table
sheeted t lines =
    record {
      scale = t.scale;
      variables = t.variables;
      rows = t.rows;
      low = λ v. cond (nat_lt v t.variables) (line lines v).low (pos 0);
      high = λ v. cond (nat_lt v t.variables) (line lines v).high (pos 0);
      whole = λ v. cond (nat_lt v t.variables) (line lines v).whole false;
      objective = t.objective;
      coefficient = t.coefficient;
      side = t.side;
    }

pub sheeted_lawful : (t : Table) (lines : List Line) → Lawful t → Ordered lines → SmallLow lines → SmallHigh lines → Lawful (sheeted t lines)
sheeted_lawful t lines l ordered low high =
    record {
      scale_least = l.scale_least;
      scale_most = l.scale_most;
      some_variable = l.some_variable;
      few_variables = l.few_variables;
      few_rows = l.few_rows;
      ordered = λ v.
          elim (nat_lt v t.variables) as (λ c. cond c (line lines v).low (pos 0) ≤ℤ cond c (line lines v).high (pos 0))
          [ true ↦ ordered v | false ↦ ≤ℤ_refl (pos 0) ];
      small_low = λ v.
          elim (nat_lt v t.variables) as (λ c. Small (cond c (line lines v).low (pos 0))) [ true ↦ low v | false ↦ omega arith ];
      small_high = λ v.
          elim (nat_lt v t.variables) as (λ c. Small (cond c (line lines v).high (pos 0))) [ true ↦ high v | false ↦ omega arith ];
      small_objective = l.small_objective;
      small_coefficient = l.small_coefficient;
      small_side = l.small_side;
      past_low = λ v past. rw (le-ltb v t.variables past) refl;
      past_high = λ v past. rw (le-ltb v t.variables past) refl;
      past_whole = λ v past. rw (le-ltb v t.variables past) refl;
      past_objective = l.past_objective;
      past_variable = l.past_variable;
      past_row = l.past_row;
      past_side = l.past_side;
    }
