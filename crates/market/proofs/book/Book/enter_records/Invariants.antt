use Rattle.std.proofs.Common.{◌≡◌, ◌-◌, ◌≤◌, length}
use Rattle.records.specs.Readers.{file_of, kinds_of, place_of}
use Rattle.market.specs.Files.{kinds}
use Rattle.market.specs.View.{market_of}
use Rattle.market.proofs.Running.{SoFar}
use Rattle.market.proofs.book.Book.enter_records.Given as goal

-- the entries so far
abbrev pub invariant-loop-given : goal.invariant-loop-given
invariant-loop-given l =
    (file_of l.reader ≡ l.file)
    × (kinds_of l.reader ≡ kinds)
    × (place_of l.reader ≤ length l.file)
    × SoFar (market_of l.initial.self) l.file (place_of l.reader) (market_of l.self)

abbrev pub decreases-loop-given : goal.decreases-loop-given
decreases-loop-given l = length (file_of l.reader) - place_of l.reader
