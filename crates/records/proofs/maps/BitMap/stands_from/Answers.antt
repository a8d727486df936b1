use Rattle.std.proofs.Common.{ltb, sym, ap, ◌∙◌, rules}
use Rattle.std.proofs.lemmas.Bool.{le-ltb}
use Rattle.records.proofs.Places.{no_bit}
use Rattle.records.proofs.maps.BitMap.stands_from.Goals as goal

pub returns-else-bit-lt16 : goal.returns-else-bit-lt16
returns-else-bit-lt16 c =
    le-ltb c.args.bit 16 c.if-bit-lt16.false ∙ sym (ap (ltb 0) (no_bit c.args.self.bits c.args.bit (search rules) c.if-bit-lt16.false))
