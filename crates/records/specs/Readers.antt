-- What a reader reads, and what its calls promise.
use Rattle.std.specs.Prelude.{◌≡◌, ℕ, ◌+◌, ◌<◌, ◌≤◌, List, [], length, drop, Some, None, Ok, Err, Option, Result}
use Rattle.records.specs.declared.Fault.TheVariants.{TooLong}
use Rattle.records.specs.declared.Kind.{Kind}
use Rattle.records.specs.declared.Reader.{Reader}
use Rattle.records.specs.declared.Record.{Record}
use Rattle.records.specs.declared.Refusal.{Refusal}
use Rattle.records.specs.Read.{Content, read, content}
use Rattle.records.specs.Write.{Spelt}

-- the file that it reads, the kinds of its records, and where it stands
abbrev pub file_of : Reader → List ℕ
file_of r = r.file.now

abbrev pub kinds_of : Reader → List Kind
kinds_of r = r.kinds.now

abbrev pub place_of : Reader → ℕ
place_of r = r.place

-- a file of at most 65,535 bytes is opened at its beginning; a longer one is refused
abbrev pub Opened : List ℕ → List Kind → Result Reader Refusal → Type 0
Opened file kinds (Ok r) = (length file ≤ 65535) × (file_of r ≡ file) × (kinds_of r ≡ kinds) × (place_of r ≡ 0)
Opened file kinds (Err e) = (65535 < length file) × (e.fault ≡ TooLong) × (e.place ≡ 0)

-- what `next` answers in a file at the place p, and the place q that it leaves:
-- no record where no byte is left, else the record that stands there, all within the file, or the fault
abbrev pub Next : List Kind → List ℕ → ℕ → Result (Option Record) Refusal → ℕ → Type 0
Next kinds file p (Ok None) q = (length file ≤ p) × (q ≡ p)
Next kinds file p (Ok (Some r)) q = (read kinds (drop p file) ≡ Ok (content r)) × (r.place ≡ p) × (q ≡ p + (content r).size) × (q ≤ length file)
Next kinds file p (Err e) q = (p < length file) × (read kinds (drop p file) ≡ Err e.fault) × (e.place ≡ p) × (q ≡ p)

-- a record is handed out exactly where an encoding stands: there it says what is written, and at a fault no record is spelt
abbrev pub Handed : List Kind → List ℕ → Result (Option Record) Refusal → Type 0
Handed kinds bs (Ok None) = bs ≡ []
Handed kinds bs (Ok (Some r)) = Spelt kinds bs (content r)
Handed kinds bs (Err e) = (c : Content) → Spelt kinds bs c → ⊥
