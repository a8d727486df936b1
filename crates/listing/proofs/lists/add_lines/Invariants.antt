use Rattle.std.proofs.Common.{◌≡◌, ◌-◌, ◌≤◌, length, string_bytes}
use Rattle.records.specs.Readers.{file_of, kinds_of, place_of}
use Rattle.listing.proofs.Listings.{Begun}
use Rattle.listing.proofs.lists.add_lines.Given as goal

abbrev pub invariant-loop-record : goal.invariant-loop-record
invariant-loop-record l =
    (file_of l.reader ≡ l.file)
    × (kinds_of l.reader ≡ l.kinds)
    × (l.count ≤ place_of l.reader)
    × (place_of l.reader ≤ length l.file)
    × Begun l.kinds l.file (string_bytes l.initial.text) (place_of l.reader) l.count (string_bytes l.text)

abbrev pub decreases-loop-record : goal.decreases-loop-record
decreases-loop-record l = length (file_of l.reader) - place_of l.reader
