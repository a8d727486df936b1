use Rattle.records.specs.Read.{content}
use Rattle.market.proofs.Quantities.{ReadTo}
use Rattle.market.proofs.reading.quantities.Given as goal

abbrev pub invariant-loop-p : goal.invariant-loop-p
invariant-loop-p l = ReadTo (content l.given).fields l.first l.quantity-items l.p
