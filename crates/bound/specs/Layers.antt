-- Variables held at a value, over a table.
use Rattle.std.specs.Prelude.{ℕ, ◌+◌, ◌-◌, true, false, cond, List, [], ◌∷◌, ◌++◌, length, take, ℤ, pos, ◌≤ℤ◌, Ok, Err, Option, Result, ◌==◌, option_map, nat_le, nat_lt, slice_index_or, slice_set, unsigned_abs}
use Rattle.std.specs.Int.Signed.{≤ℤ_refl}
use Rattle.std.proofs.Common.{le-ltb}
use Rattle.std.specs.List.{AllByRecursion, find}
use Rattle.std.proofs.ByRecursion.{All-from_get_or}
use Rattle.arrayvec.specs.ArrayVec.{ArrayVec}
use Rattle.bound.specs.declared.faults.Fault.{Fault}
use Rattle.bound.specs.declared.faults.Fault.TheVariants.{OutsideLimits, Absent, TooDeep}
use Rattle.bound.specs.declared.faults.Refusal.{Refusal}
use Rattle.bound.specs.declared.fixing.Held.{Held}
use Rattle.bound.specs.Tables.{Table, Lawful, Small, most}

-- its value is small
abbrev pub SmallHeld : Held → Type 0
SmallHeld h = Small h.value

-- what v is held at, or z
abbrev pub held_or : ℕ → ℤ → List Held → ℤ
held_or v z [] = z
held_or v z (h ∷ hs) = cond (h.variable == v) h.value (held_or v z hs)

-- what v is held at, if it is
abbrev pub held_at : ℕ → List Held → Option ℤ
held_at v hs = option_map (λ h. h.value) (find (λ h. h.variable == v) hs)

-- both limits of a held variable are its value
abbrev pub fixed : Table → List Held → Table
fixed t hs =
    record {
      scale = t.scale;
      variables = t.variables;
      rows = t.rows;
      low = λ v. cond (nat_lt v t.variables) (held_or v (t.low v) hs) (t.low v);
      high = λ v. cond (nat_lt v t.variables) (held_or v (t.high v) hs) (t.high v);
      whole = t.whole;
      objective = t.objective;
      coefficient = t.coefficient;
      side = t.side;
    }

-- the limits stay ordered and small
ordered_held : (v : ℕ) (hs : List Held) (a b : ℤ) → a ≤ℤ b → held_or v a hs ≤ℤ held_or v b hs
ordered_held v [] a b h = h
ordered_held v (x ∷ xs) a b h =
    elim (x.variable == v) as (λ c. cond c x.value (held_or v a xs) ≤ℤ cond c x.value (held_or v b xs))
    [ true ↦ ≤ℤ_refl x.value | false ↦ ordered_held v xs a b h ]

small_held : (v : ℕ) (hs : List Held) (a : ℤ) → Small a → AllByRecursion SmallHeld hs → Small (held_or v a hs)
small_held v [] a h all = h
small_held v (x ∷ xs) a h all =
    elim (x.variable == v) as (λ c. Small (cond c x.value (held_or v a xs)))
    [ true ↦ all.0 | false ↦ small_held v xs a h all.1 ]

pub fixed_lawful : (t : Table) (hs : List Held) → Lawful t → AllByRecursion SmallHeld hs → Lawful (fixed t hs)
fixed_lawful t hs l all =
    record {
      scale_least = l.scale_least;
      scale_most = l.scale_most;
      some_variable = l.some_variable;
      few_variables = l.few_variables;
      few_rows = l.few_rows;
      ordered = λ v.
          elim (nat_lt v t.variables) as (λ c. cond c (held_or v (t.low v) hs) (t.low v) ≤ℤ cond c (held_or v (t.high v) hs) (t.high v))
          [ true ↦ ordered_held v hs _ _ (l.ordered v) | false ↦ l.ordered v ];
      small_low = λ v.
          elim (nat_lt v t.variables) as (λ c. Small (cond c (held_or v (t.low v) hs) (t.low v)))
          [ true ↦ small_held v hs _ (l.small_low v) all | false ↦ l.small_low v ];
      small_high = λ v.
          elim (nat_lt v t.variables) as (λ c. Small (cond c (held_or v (t.high v) hs) (t.high v)))
          [ true ↦ small_held v hs _ (l.small_high v) all | false ↦ l.small_high v ];
      small_objective = l.small_objective;
      small_coefficient = l.small_coefficient;
      small_side = l.small_side;
      past_low = λ v past. rw (le-ltb v t.variables past) (l.past_low v past);
      past_high = λ v past. rw (le-ltb v t.variables past) (l.past_high v past);
      past_whole = l.past_whole;
      past_objective = l.past_objective;
      past_variable = l.past_variable;
      past_row = l.past_row;
      past_side = l.past_side;
    }

-- the table with one variable held
abbrev pub holding : Table → ℕ → ℤ → Table
holding t v z = fixed t (record { variable = v; value = z } ∷ [])

-- what stands where nothing is held
abbrev pub none_held : Held
none_held = record { variable = 0; value = pos 0 }

-- all values of a row are small
abbrev pub SmallRow : List Held → Type 0
SmallRow row = (k : ℕ) → Small (slice_index_or row k none_held).value

-- all of a row are held
abbrev pub fixed_by : Table → ArrayVec Held → Table
fixed_by t row = fixed t row.items

pub fixed_by_lawful : (t : Table) (row : ArrayVec Held) → Lawful t → SmallRow row.items → Lawful (fixed_by t row)
fixed_by_lawful t row l small = fixed_lawful t row.items l (All-from_get_or SmallHeld row.items none_held (λ k h. small k))

-- where v is held, or how many are held
abbrev pub place : ℕ → List Held → ℕ
place v [] = 0
place v (h ∷ hs) = cond (h.variable == v) 0 (1 + place v hs)

-- h in its place, where its variable is held, and else last
abbrev pub put : List Held → ℕ → Held → List Held
put hs at h = cond (nat_lt at (length hs)) (slice_set hs at h) (hs ++ (h ∷ []))

-- what is held once h is
abbrev pub with_held : List Held → Held → List Held
with_held hs h = put hs (place h.variable hs) h

-- all but the one held last
abbrev pub without_last : List Held → List Held
without_last hs = take (length hs - 1) hs

-- h is refused, at its variable
abbrev pub barred : Fault → Held → Result (Unit {0}) Refusal
barred f h = Err (record { fault = f; place = h.variable })

-- whether h may be held, among n variables: its value is small, its variable is one of them, and there is room for it
abbrev pub hold_answer : ℕ → List Held → Held → Result (Unit {0}) Refusal
hold_answer n hs h =
    cond (nat_le (unsigned_abs h.value) most)
    (cond (nat_lt h.variable n) (cond (nat_lt (place h.variable hs) 64) (Ok tt) (barred TooDeep h)) (barred Absent h))
    (barred OutsideLimits h)

-- what is held after the answer
abbrev pub hold_after : Result (Unit {0}) Refusal → List Held → Held → List Held
hold_after (Ok _) hs h = with_held hs h
hold_after (Err _) hs h = hs
