use Rattle.rules.specs.Views.{market_of, parts_of, prices_of}
use Rattle.rules.proofs.Compared.{below_zero}
use Rattle.rules.proofs.Losses.{not_first, looped_sunk}
use Rattle.rules.proofs.filled.Clearing.is_sunk.Goals as goal

pub returns-then-first_of-b : goal.returns-then-first_of-b
returns-then-first_of-b c = not_first (market_of c.args.self.now) (parts_of c.args.self.now) (prices_of c.args.self.now) _ _ c.basket-ring.ensures.is _
    c.if-ring-eq0.false c.first_of.ensures c.if-first_of-b.true

pub returns : goal.returns
returns c = looped_sunk (market_of c.args.self.now) (parts_of c.args.self.now) (prices_of c.args.self.now) _ _ c.basket-ring.ensures.is _ _
    c.if-ring-eq0.false c.first_of.ensures c.if-first_of-b.false (below_zero _ _ c.loop_surplus.type_inv c.loop_surplus.ensures.is)
