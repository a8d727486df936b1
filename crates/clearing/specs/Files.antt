-- What a clearing file says: marks that are in order, up to its end or to the record that is refused, and the numbers that they leave.
use Rattle.std.specs.Prelude.{◌≡◌, ℕ, ◌+◌, ◌<◌, ◌≤◌, cond, List, [], ◌∷◌, length, take, drop, ℤ, Some, None, Ok, Err, Option, Result}
use Rattle.records.specs.declared.Kind.{Kind}
use Rattle.records.specs.declared.Fault as below
use Rattle.records.specs.declared.Fault.TheVariants.{TooLong}
use Rattle.records.specs.Read.{Content, read}
use Rattle.market.specs.Market.{Market}
use Rattle.clearing.specs.declared.faults.Fault.{Fault}
use Rattle.clearing.specs.declared.faults.Fault.TheVariants.{Record, NotRising, OutsideLimits, Absent, ScratchTooShort}
use Rattle.clearing.specs.declared.faults.Refusal.{Refusal}
use Rattle.clearing.specs.declared.marks.Mark.{Mark}
use Rattle.clearing.specs.Marks.{mark_of, rises, in_limits, is_named, bytes_of, marked}

-- a clearing file has kinds 6 and 7, of two fields each
abbrev pub kinds : List Kind
kinds = record { number = 6; fields = 2 } ∷ record { number = 7; fields = 2 } ∷ []

-- what is wrong with a mark after the one before it: the first of three in this order
abbrev pub fault_of : Market → Option Mark → Mark → Option Fault
fault_of m last x = cond (rises last x) (cond (in_limits x) (cond (is_named m x) None (Some Absent)) (Some OutsideLimits)) (Some NotRising)

-- from the place p up to q the records say these marks, each in order after the one before, the last of them being `end`
abbrev pub Run : Market → List ℕ → ℕ → Option Mark → List Mark → ℕ → Option Mark → Type 0
Run m file p last [] q end = (q ≡ p) × (end ≡ last)
Run m file p last (x ∷ xs) q end = (c : Content) × (read kinds (drop p file) ≡ Ok c) × (x ≡ mark_of c) × (fault_of m last x ≡ None) × Run m file (p + c.size) (Some x) xs q end

-- what stands next is no record, or one that is not in order
abbrev pub Stops : Market → Option Mark → Result Content below.Fault → Fault → Type 0
Stops m last (Ok c) f = fault_of m last (mark_of c) ≡ Some f
Stops m last (Err g) f = f ≡ Record g

-- the file ends at q, or is refused there
abbrev pub Ends : Market → List ℕ → ℕ → Option Mark → Result (Unit {0}) Refusal → Type 0
Ends m file q last (Ok x) = q ≡ length file
Ends m file q last (Err e) = (e.place ≡ q) × (q < length file) × Stops m last (read kinds (drop q file)) e.fault

-- the records of a file up to its end or to the one that is refused, and the 448 numbers that they leave
pub record Runs (m : Market) (file : List ℕ) (r : Result (Unit {0}) Refusal) (numbers : List ℤ) : Type 0 where
  pub marks : List Mark
  pub place : ℕ
  pub last : Option Mark
  pub run : Run m file 0 None marks place last
  pub ends : Ends m file place last r
  pub are : numbers ≡ marked marks

-- each mark is in order after the one before it
abbrev pub InOrder : Market → Option Mark → List Mark → Type 0
InOrder m last [] = Unit
InOrder m last (x ∷ xs) = (fault_of m last x ≡ None) × InOrder m (Some x) xs

-- the same by the file's bytes: up to a place they are the encoding of marks that are in order, all of which are kept
pub record Reads (m : Market) (file : List ℕ) (r : Result (Unit {0}) Refusal) (numbers : List ℤ) : Type 0 where
  pub runs : Runs m file r numbers
  pub bytes : take runs.place file ≡ bytes_of runs.marks
  pub ordered : InOrder m None runs.marks

abbrev pub refused : Fault → Result (Unit {0}) Refusal
refused f = Err (record { fault = f; place = 0 })

-- what becomes of a scratch: with fewer than 448 numbers, or a file over 65,535 bytes, it is untouched; else its first 448
-- numbers are those of the file, and the others are untouched
pub record Outcome (m : Market) (file : List ℕ) (was : List ℤ) (r : Result (Unit {0}) Refusal) (then : List ℤ) : Type 0 where
  pub short : length was < 448 → (r ≡ refused ScratchTooShort) × (then ≡ was)
  pub long : 448 ≤ length was → 65535 < length file → (r ≡ refused (Record TooLong)) × (then ≡ was)
  pub reads : 448 ≤ length was → length file ≤ 65535 → Reads m file r (take 448 then) × (drop 448 then ≡ drop 448 was)
