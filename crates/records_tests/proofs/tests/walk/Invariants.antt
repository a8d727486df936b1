use Rattle.std.proofs.Common.{◌≡◌, ◌-◌, ◌≤◌, length}
use Rattle.records.specs.Readers.{file_of, place_of}
use Rattle.records_tests.proofs.tests.walk.Given as goal

abbrev pub invariant-loop-record : goal.invariant-loop-record
invariant-loop-record l =
    (file_of l.reader ≡ l.file)
    × (l.records ≤ place_of l.reader)
    × (place_of l.reader ≤ length l.file)

abbrev pub decreases-loop-record : goal.decreases-loop-record
decreases-loop-record l = length (file_of l.reader) - place_of l.reader
