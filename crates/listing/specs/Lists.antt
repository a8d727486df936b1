-- What a listing of a file is.
use Rattle.std.specs.Prelude.{◌≡◌, ℕ, ◌+◌, ◌<◌, ◌≤◌, List, ◌++◌, length, drop, Ok, Err, Result}
use Rattle.records.specs.Faults.{code}
use Rattle.records.specs.Read.{Content, read}
use Rattle.records.specs.declared.Fault.{Fault}
use Rattle.records.specs.declared.Fault.TheVariants.{TooLong}
use Rattle.records.specs.declared.Kind.{Kind}
use Rattle.listing.specs.declared.lists.Stop.{Stop}
use Rattle.listing.specs.declared.lists.Stop.TheVariants.{Memory, Refused}
use Rattle.listing.specs.Lines.{line_text, count_text, fault_text}

-- the text for what stands from a place on, after so many records:
-- a line for each record, up to the end of the file or to the first fault
pub data Listed (kinds : List Kind) (file : List ℕ) : ℕ → ℕ → List ℕ → Type 0 where
  ended : {p n : ℕ} → length file ≤ p → Listed kinds file p n (count_text n)
  refused : {p n : ℕ} {e : Fault} → p < length file → read kinds (drop p file) ≡ Err e → Listed kinds file p n (fault_text (code e).number p)
  record_then : {p n : ℕ} {c : Content} {text : List ℕ} → read kinds (drop p file) ≡ Ok c → Listed kinds file (p + c.size) (n + 1) text → Listed kinds file p n (line_text p c ++ text)

-- a file that is too long has no line but that of its fault
pub data Lists (kinds : List Kind) (file : List ℕ) : List ℕ → Type 0 where
  whole : {text : List ℕ} → length file ≤ 65535 → Listed kinds file 0 0 text → Lists kinds file text
  too_long : 65535 < length file → Lists kinds file (fault_text (code TooLong).number 0)

-- what is added to a text is all of a listing but this last line
abbrev pub AllBut : List Kind → List ℕ → List ℕ → List ℕ → List ℕ → Type 0
AllBut kinds file last old new = (lines : List ℕ) × (new ≡ old ++ lines) × Lists kinds file (lines ++ last)

-- the last line is that of the count, or of the fault; where memory runs out nothing is told
abbrev pub Added : List Kind → List ℕ → List ℕ → List ℕ → Result ℕ Stop → Type 0
Added kinds file old new (Ok n) = AllBut kinds file (count_text n) old new
Added kinds file old new (Err (Refused e)) = AllBut kinds file (fault_text (code e.fault).number e.place) old new
Added kinds file old new (Err (Memory e)) = Unit {0}
