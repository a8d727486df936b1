use Rattle.std.proofs.Common.{◌%◌, eqb, sym, ap, ◌∙◌, rules}
use Rattle.std.proofs.lemmas.Bool.{le-ltb}
use Rattle.records.proofs.Places.{no_bit}
use Rattle.records.proofs.maps.BitMap.stands.Goals as goal

pub returns-else-bit-lt16-clause-told : goal.returns-else-bit-lt16-clause-told
returns-else-bit-lt16-clause-told c =
    le-ltb c.args.bit 16 c.if-bit-lt16.false ∙ sym (ap (λ x. eqb (x % 2) 1) (no_bit c.args.self.bits c.args.bit (search rules) c.if-bit-lt16.false))
