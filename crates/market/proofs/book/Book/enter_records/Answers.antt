use Rattle.std.proofs.Common.{◌≡◌, ℕ, ◌≤◌, List, length, drop, Ok, Option, sym, ◌∙◌, subst, rules}
use Rattle.std.specs.List.{AllByRecursion}
use Rattle.std.proofs.ByRecursion.{All-from_get_or}
use Rattle.records.specs.declared.Record.{Record}
use Rattle.records.specs.Read.{content, read}
use Rattle.records.specs.Readers.{file_of, kinds_of, place_of, Next}
use Rattle.records.specs.Write.{Byte}
use Rattle.market.specs.Files.{kinds}
use Rattle.market.specs.View.{market_of}
use Rattle.market.proofs.Running.{so_far_more, took_ok}
use Rattle.market.proofs.book.Book.enter_records.Goals as goal

pub loop-given-preserved : goal.loop-given-preserved
loop-given-preserved c =
    let inv = c.loop-given.invariant in
    let told = c.in_ok-given.ensures in
    let took = took_ok (market_of c.loop-given.self) (content c.in-Some.given) c.take.result c.map_err.result _ _ c.take.ensures c.map_err.ensures.variant c.in_ok-map_err.was in
    let file = c.args.file.now in
    let was = c.loop-given.reader in
    let p = place_of was in
    let q = place_of c.next.new.self in
    let r = content c.in-Some.given in
    let next = subst (λ (o : Option Record). Next (kinds_of was) (file_of was) p (Ok o) q) c.in-Some.is told.reads in
    let bytes : AllByRecursion Byte file = All-from_get_or Byte file 0 (λ k h. search rules) in
    let is : read kinds (drop p file) ≡ Ok r = sym (λ i. read (inv.1 i) (drop p (inv.0 i))) ∙ next.0 in (
      told.file ∙ inv.0,
      told.kinds ∙ inv.1,
      subst (λ (f : List ℕ). q ≤ length f) inv.0 next.3,
      so_far_more (market_of c.args.self.now) file p q c.loop-given.self c.take.new.self r bytes inv.3 is next.2 took.0 took.1 took.2,
    )
