use Rattle.std.proofs.Common.{◌+◌, ◌++◌, drop, string_bytes, ap, ◌∙◌, arith, w64, rules}
use Rattle.std.proofs.lemmas.Int.{to_z-of_z}
use Rattle.records.specs.Read.{fields}
use Rattle.records.proofs.Places.{fields_length}
use Rattle.listing.specs.Lines.{standing_text, fields_text}
use Rattle.listing.proofs.Texts.{fields_on, fields_done}
use Rattle.listing.proofs.fields.add_fields.Goals as goal

pub loop-bit-preserved : goal.loop-bit-preserved
loop-bit-preserved c =
    let r = c.args.record.now in
    let zs = fields r.kind 16 r.map.bits r.bytes.now in
    let bit = c.loop-bit.bit in
    let long = fields_length r.kind 16 r.map.bits r.bytes.now in
    let value = to_z-of_z w64 c.field-value.result (search rules) ∙ c.field-value.ensures in
    let text = c.in_ok-add_field.ensures ∙ ap (λ z. string_bytes c.loop-bit.text ++ standing_text bit z) value in
    ap (λ l. l ++ fields_text (bit + 1) (drop (bit + 1) zs)) text ∙ fields_on zs bit (string_bytes c.loop-bit.text) _ (omega (arith, long, c.loop-bit-test.true)) c.loop-bit.invariant

pub returns : goal.returns
returns c =
    let r = c.args.record.now in
    let zs = fields r.kind 16 r.map.bits r.bytes.now in
    fields_done zs c.loop-bit.bit _ _ (omega (arith, fields_length r.kind 16 r.map.bits r.bytes.now, c.loop-bit-test.false)) c.loop-bit.invariant
