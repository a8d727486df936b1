use Rattle.std.proofs.Common.{sym, ◌∙◌, w64, rules}
use Rattle.std.proofs.lemmas.Int.{to_z-of_z}
use Rattle.records.specs.Readers.{place_of}
use Rattle.bound.specs.Sheets.{sheeted}
use Rattle.bound.specs.Checks.{finished}
use Rattle.bound.proofs.Paths.{started}
use Rattle.bound.proofs.Sound.{finished_checked}
use Rattle.bound.proofs.checks.walk.Goals as goal

pub returns : goal.returns
returns g c =
    let table = g.P.Programme.table in
    let t = table c.args.pile.now in
    let file = c.args.file.now in
    let b = c.in_ok-bound.bound in
    let over = c.over.ensures in
    let opened = c.in_ok-reader.ensures.opened in
    let told = c.in_ok-bound.ensures in
    let start = started (λ s. sheeted (table s.below.now) s.lines) t file c.of-sheet.result c.over.result c.in_ok-reader.reader.reader c.of-sheet.ensures.table over.below over.held opened.1 opened.2 in
    c.finish.ensures ∙ (λ i. finished ((told.file ∙ opened.1) i) (to_z-of_z w64 b (search rules) i) (place_of c.node.new.self.reader.reader))
    ∙ sym (finished_checked t file opened.0 b _ (start ∙ told.gives))
