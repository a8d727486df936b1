use Rattle.std.proofs.Common.{◌<◌, ◌≤◌, [], ◌++◌, length, drop, Ok, string_bytes, sym, ap, ◌∙◌, subst, append-nil, arith}
use Rattle.std.proofs.lemmas.Result.{err_from_is_err_and}
use Rattle.records.specs.Read.{read, content}
use Rattle.records.specs.Readers.{file_of, kinds_of, place_of, Next}
use Rattle.listing.specs.Lines.{line_text}
use Rattle.listing.specs.Lists.{ended, refused, too_long}
use Rattle.listing.proofs.Listings.{begun, begun_more, begun_last}
use Rattle.listing.proofs.lists.add_lines.Goals as goal

pub returns-in_err-reader : goal.returns-in_err-reader
returns-in_err-reader c =
    let told = c.in_err-reader.ensures in
    let p = err_from_is_err_and c.from_residual.result c.from_residual.ensures.1 in
    rw (p.1, p.2, told.1, told.2) ([], sym (append-nil (string_bytes c.args.text.now)), too_long told.0)

pub loop-record-init : goal.loop-record-init
loop-record-init c =
    let told = c.in_ok-reader.ensures in (
      told.1,
      told.2,
      omega arith,
      omega (arith, told.3),
      rw told.3 (begun c.args.kinds.now c.args.file.now (string_bytes c.args.text.now)),
    )

pub returns-in_err-record : goal.returns-in_err-record
returns-in_err-record c =
    let inv = c.loop-record.invariant in
    let told = c.in_err-record.ensures.reads in
    let place = place_of c.loop-record.reader in
    let left : place < length c.args.file.now = omega (arith, told.0, ap length inv.0) in
    let reads = sym (λ i. read (inv.1 i) (drop place (inv.0 i))) ∙ told.1 in
    let p = err_from_is_err_and c.from_residual-in_err-record.result c.from_residual-in_err-record.ensures.1 in
    rw (p.1, p.2, told.2) (begun_last c.args.kinds.now c.args.file.now (string_bytes c.args.text.now) place c.loop-record.count (string_bytes c.loop-record.text) _ inv.4 c.in_ok-reader.ensures.0 (refused left reads))

pub loop-record-preserved : goal.loop-record-preserved
loop-record-preserved c =
    let inv = c.loop-record.invariant in
    let told = c.in_ok-record.ensures in
    let r = c.in-Some.record in
    let place = place_of c.loop-record.reader in
    let next = place_of c.next.new.self in
    let found = subst (λ o. Next (kinds_of c.loop-record.reader) (file_of c.loop-record.reader) place (Ok o) next) c.in-Some.is told.reads in
    let reads = sym (λ i. read (inv.1 i) (drop place (inv.0 i))) ∙ found.0 in
    let text = c.in_ok-add_line.ensures ∙ ap (λ k. string_bytes c.loop-record.text ++ line_text k (content r)) found.1 in (
      told.file ∙ inv.0,
      told.kinds ∙ inv.1,
      omega (arith, found.2, inv.2),
      omega (arith, found.3, ap length inv.0),
      begun_more c.args.kinds.now c.args.file.now (string_bytes c.args.text.now) place next c.loop-record.count (content r) (string_bytes c.loop-record.text) _ inv.4 reads found.2 text,
    )

pub returns : goal.returns
returns c =
    let inv = c.loop-record.invariant in
    let place = place_of c.loop-record.reader in
    let found = subst (λ o. Next (kinds_of c.loop-record.reader) (file_of c.loop-record.reader) place (Ok o) (place_of c.next.new.self)) c.in_default.is c.in_ok-record.ensures.reads in
    let end : length c.args.file.now ≤ place = omega (arith, found.0, ap length inv.0) in
    begun_last c.args.kinds.now c.args.file.now (string_bytes c.args.text.now) place c.loop-record.count (string_bytes c.loop-record.text) _ inv.4 c.in_ok-reader.ensures.0 (ended end)
