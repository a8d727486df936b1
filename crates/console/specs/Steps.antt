-- One call: what it is answered, and what stands after it.
use Rattle.std.specs.Prelude.{◌≡◌, ℕ, cond, List, take, ℤ, Some, None, Ok, Err, Option, Result, int_lt}
use Rattle.bound.specs.declared.faults.Refusal as bounds
use Rattle.clearing.specs.declared.faults.Refusal as clearings
use Rattle.clearing.specs.declared.worth.Worth.{Worth}
use Rattle.clearing.specs.Verdicts.{Judged}
use Rattle.console.specs.declared.faults.Refusal.{Refusal}
use Rattle.console.specs.declared.held.Held.{Held}
use Rattle.console.specs.Faults.{from_clearing, from_bound}
use Rattle.console.specs.Standing.{Standing, better}

-- what was answered, where it was not refused
abbrev pub accepted : {A E : Type 0} → Result A E → Option A
accepted (Ok x) = Some x
accepted (Err e) = None

-- the lesser of two bounds, of which the first may be absent
abbrev pub lower : Option ℤ → ℤ → Option ℤ
lower None x = Some x
lower (Some b) x = Some (cond (int_lt x b) x b)

-- the bound that is kept where another is told, or none
abbrev pub lowered : Option ℤ → Option ℤ → Option ℤ
lowered o None = o
lowered o (Some x) = lower o x

-- a clearing is held if it is better; then the price bound is dropped
abbrev pub taken : Standing → Held → Standing
taken s h = cond (better h s.held) (record { market = s.market; held = h; bound = s.bound; price = None }) s

-- the smaller bound is kept
abbrev pub bounded : Standing → Option ℤ → Standing
bounded s o = record { market = s.market; held = s.held; bound = lowered s.bound o; price = s.price }

abbrev pub priced : Standing → Option ℤ → Standing
priced s o = record { market = s.market; held = s.held; bound = s.bound; price = lowered s.price o }

-- a tree's answer, as the console tells it
abbrev pub told_bound : Result ℤ bounds.Refusal → Result ℤ Refusal
told_bound (Ok b) = Ok b
told_bound (Err e) = Err (from_bound e)

-- a clearing's answer, its welfare, as the console tells it
abbrev pub told_worth : Result Worth clearings.Refusal → Result ℤ Refusal
told_worth (Ok w) = Ok w.welfare
told_worth (Err e) = Err (from_clearing e)

-- an accepted clearing with the numbers ns is taken; a refused one changes nothing
abbrev pub after_worth : Standing → Result Worth clearings.Refusal → List ℤ → Standing
after_worth s (Ok w) ns = taken s (record { numbers = ns; welfare = w.welfare; cost = w.cost })
after_worth s (Err e) ns = s

-- a clearing call: the file's verdict, what is told of it, the scratch and what stands after it
pub record Cleared (s : Standing) (file : List ℕ) (was : List ℤ) (r : Result ℤ Refusal) (then : List ℤ) (t : Standing) : Type 0 where
  pub verdict : Result Worth clearings.Refusal
  pub judged : Judged s.market file was verdict then
  pub told : r ≡ told_worth verdict
  pub after : t ≡ after_worth s verdict (take 448 then)
