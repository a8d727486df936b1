use Rattle.std.proofs.Common.{◌≡◌, ◌-◌, ◌≤◌, List, length, None}
use Rattle.market.specs.View.{closed_of}
use Rattle.records.specs.Readers.{file_of, kinds_of, place_of}
use Rattle.clearing.specs.declared.marks.Mark.{Mark}
use Rattle.clearing.specs.Files.{kinds, Run}
use Rattle.clearing.specs.Marks.{marked}
use Rattle.clearing.proofs.files.read_marks.Given as goal

-- the marks so far
abbrev pub invariant-loop-given : goal.invariant-loop-given
invariant-loop-given l = record {
  same_file : file_of l.reader ≡ file_of l.initial.reader;
  same_kinds : kinds_of l.reader ≡ kinds;
  within : place_of l.reader ≤ length (file_of l.reader);
  marks : (xs : List Mark) × Run (closed_of l.market) (file_of l.reader) 0 None xs (place_of l.reader) l.last × (l.numbers ≡ marked xs);
}

abbrev pub decreases-loop-given : goal.decreases-loop-given
decreases-loop-given l = length (file_of l.reader) - place_of l.reader
