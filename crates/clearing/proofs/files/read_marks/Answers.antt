use Rattle.std.proofs.Common.{◌≡◌, [], ◌∷◌, ◌++◌, drop, None, Ok, rules}
use Rattle.market.specs.View.{closed_of}
use Rattle.records.specs.Read.{read, content}
use Rattle.records.specs.Readers.{file_of, place_of}
use Rattle.clearing.specs.Files.{kinds, fault_of}
use Rattle.clearing.specs.Marks.{mark_of}
use Rattle.clearing.proofs.Marking.{run_more, marked_more}
use Rattle.clearing.proofs.files.read_marks.Goals as goal

pub loop-given-preserved : goal.loop-given-preserved
loop-given-preserved c =
    let m = closed_of c.args.market.now in
    let r = c.loop-given.reader in
    let inv = c.loop-given.invariant in
    let xs = inv.marks.0 in
    let told = c.in_ok-given.ensures in
    let given = c.in-Some.given in
    let mark = c.of-mark.result in
    let n = rw c.in-Some.is at told.reads in
    let here : read kinds (drop (place_of r) (file_of r)) ≡ Ok (content given) = cc in
    let fine : fault_of m c.loop-given.last mark ≡ None = search rules in
    let fine' : fault_of m c.loop-given.last (mark_of (content given)) ≡ None = cc in
    let more = run_more m (file_of r) 0 None xs (place_of r) c.loop-given.last (content given) inv.marks.1 here fine' in
    let are = marked_more xs mark in
    record {
      same_file = cc;
      same_kinds = cc;
      within = rw told.file n.3;
      marks = (xs ++ mark ∷ [], rw (told.file, n.2, c.of-mark.ensures) more, cc);
    }
