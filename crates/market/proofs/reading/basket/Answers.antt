use Rattle.std.proofs.Common.{pos, sym, ◌∙◌, rules, arith, w32}
use Rattle.std.proofs.lemmas.Int.{to_z-of_z}
use Rattle.records.specs.Read.{content}
use Rattle.market.specs.Lines.{between, price_ok}
use Rattle.market.specs.Reading.{field, are_quantities}
use Rattle.market.proofs.Fitting.{limited_ok, fewer_bits, basket_read}
use Rattle.market.proofs.reading.basket.Goals as goal

pub returns : goal.returns
returns c =
    let zs = (content c.args.given.now).fields in
    let unit = limited_ok (between (pos 1) (pos 65535) (field zs 0)) _ _ (sym c.within.ensures ∙ c.in_ok-within.was) in
    let ring = limited_ok (between (pos 0) (pos 255) (field zs 2)) _ _ (sym c.within-2.ensures ∙ c.in_ok-within-2.was) in
    let six = limited_ok (are_quantities zs 3) _ _ (sym c.quantities.ensures ∙ c.in_ok-quantities.was) in
    let price = limited_ok (price_ok (field zs 9)) _ _ (sym c.price.ensures ∙ c.in_ok-price.was) in
    sym (basket_read zs _ c.byte.result _ _ _ unit.0 ring.0 six.0 price.0
    (fewer_bits 1 65535 65535 _ _ (omega arith) (omega arith) unit.0 unit.1) c.byte.ensures
    (fewer_bits 0 255 255 _ _ (omega arith) (omega arith) ring.0 ring.1) (sym six.1)
    (to_z-of_z w32 _ (search rules) ∙ sym price.1))
