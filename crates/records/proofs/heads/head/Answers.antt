use Rattle.std.proofs.Common.{◌≡◌, ◌-◌, ◌*◌, ◌≤◌, length, get_or, take, drop, sym, refl, ap, ◌∙◌, arith, rules}
use lib.Count.{ones}
use Rattle.std.proofs.ByRecursion.{All-from_get_or}
use Rattle.records.specs.Bytes.{width}
use Rattle.records.specs.Read.{has_zero, values}
use Rattle.records.specs.Write.{Byte}
use Rattle.records.proofs.Bodies.{read_some, body_ok}
use Rattle.records.proofs.Spelling.{spelt}
use Rattle.records.proofs.heads.head.Goals as goal

pub returns : goal.returns
returns c =
    let kinds = c.args.kinds.now in
    let left = c.args.left.now in
    let kind = get_or left 0 0 in
    let three : 3 ≤ length left = search rules in
    let map = c.from_be_bytes.result in
    let count = c.in-Some.count in
    let rest = take (length left - 3) (drop 3 left) in
    let size : c.field_width.result * c.ones-standing.result ≡ width kind * ones map = λ i. c.field_width.ensures i * c.ones-standing.ensures.told i in
    let long : width kind * ones map ≤ length rest = omega (arith, size) in
    let cut = ap (λ n. take n rest) size in
    let none = ap (λ n. has_zero (values kind n (take (c.field_width.result * c.ones-standing.result) rest))) (sym c.ones-standing.ensures.told) ∙ c.in_ok-pass.ensures in
    let reads =
    read_some kinds left map count three c.from_be_bytes.ensures c.in-Some.ensures
    ∙ body_ok kind map count rest _ long (sym c.if-stands_from.ensures) cut none in
    (reads, refl, spelt kinds left _ (All-from_get_or Byte left 0 (λ k h. search rules)) reads)
