use Rattle.std.proofs.Common.{◌+◌, sym, ◌∙◌, arith, rules}
use Rattle.records.specs.Read.{content}
use Rattle.market.specs.Reading.{is_quantity, field}
use Rattle.market.proofs.Fitting.{limited_ok, fewer_bits}
use Rattle.market.proofs.Quantities.{read_six, read_more}
use Rattle.market.proofs.reading.quantities.Goals as goal

pub loop-p-preserved : goal.loop-p-preserved
loop-p-preserved c =
    let zs = (content c.args.given.now).fields in
    let r = limited_ok (is_quantity (field zs (c.args.first + c.loop-p.p))) _ _ (sym c.within.ensures ∙ c.in_ok-quantity.was) in
    read_more zs c.args.first c.loop-p.quantity-items c.loop-p.p _ (search rules) c.loop-p.invariant r.0 (fewer_bits 0 999 65535 _ _ (omega arith) (omega arith) r.0 r.1)

pub returns : goal.returns
returns c = sym (read_six (content c.args.given.now).fields c.args.first c.loop-p.quantity-items c.loop-p-test.array_long (λ k h. c.loop-p.invariant k (omega arith)))
