use Rattle.std.proofs.Common.{◌≡◌, ℕ, List, ◌++◌, length, drop, ℤ, pos, replicate, None, sym, ap, ◌∙◌, subst, arith, rules}
use Rattle.market.specs.View.{closed_of}
use Rattle.std.proofs.lemmas.List.{take_at, take-append-drop, length-take-le}
use Rattle.std.proofs.lemmas.Slice.{drop-append-drop}
use Rattle.std.specs.List.{AllByRecursion}
use Rattle.std.proofs.ByRecursion.{All-from_get_or}
use Rattle.records.specs.Write.{Byte}
use Rattle.clearing.specs.Files.{Runs, Reads}
use Rattle.clearing.proofs.Marking.{length-marked}
use Rattle.clearing.proofs.Spelling.{run_bytes, run_ordered}
use Rattle.clearing.proofs.files.read_clearing.Goals as goal

pub returns-in_err-reader : goal.returns-in_err-reader
returns-in_err-reader c =
    let was = c.args.scratch.now in
    let front = c.in-Some.ensures.cases in
    record {
      short = λ h. absurd (omega (arith, front.enough));
      long = λ h l. (search rules, ap (λ (xs : List ℤ). xs ++ drop 448 was) front.same ∙ take-append-drop 448 was);
      reads = λ h l. absurd (omega (arith, c.in_err-reader.ensures.0));
    }

pub read_marks-requires : goal.read_marks-requires
read_marks-requires c =
    let front = c.in-Some.ensures.cases in
    let long : length c.in-Some.numbers.now ≡ 448 = ap length front.same ∙ length-take-le 448 c.args.scratch.now front.enough in
    (c.fill.ensures.after (λ _ e. e) ∙ ap (λ k. replicate k (pos 0)) long, search rules)

pub returns : goal.returns
returns c =
    let m = closed_of c.args.market.now in
    let file = c.args.file.now in
    let was = c.args.scratch.now in
    let ns = c.read_marks.new.numbers in
    let opened = c.in_ok-reader.ensures in
    let runs : Runs m file c.read_marks.result ns = subst (λ (f : List ℕ). Runs m f c.read_marks.result ns) opened.1 c.read_marks.ensures in
    let long : length ns ≡ 448 = ap length runs.are ∙ length-marked runs.marks in
    let all : AllByRecursion Byte file = All-from_get_or Byte file 0 (λ k h. search rules) in
    record {
      short = λ h. absurd (omega (arith, c.in-Some.ensures.cases.enough));
      long = λ h l. absurd (omega (arith, opened.0));
      reads = λ h l. (
        subst (λ (xs : List ℤ). Reads m file c.read_marks.result xs) (sym (take_at ns (drop 448 was) 448 long))
            (record { runs = runs; bytes = run_bytes m file all 0 None runs.marks runs.place runs.last runs.run; ordered = run_ordered m file 0 None runs.marks runs.place runs.last runs.run }),
        drop-append-drop 448 was ns 448 (omega arith) long,
      );
    }
