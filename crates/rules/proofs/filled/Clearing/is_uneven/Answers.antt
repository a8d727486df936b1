use Rattle.std.proofs.Common.{rules}
use Rattle.rules.specs.Views.{market_of, parts_of}
use Rattle.rules.proofs.Terms.{uneven_decides}
use Rattle.rules.proofs.filled.Clearing.is_uneven.Goals as goal

pub returns-then-basket-ne0 : goal.returns-then-basket-ne0
returns-then-basket-ne0 c = uneven_decides (market_of c.args.self.now) (parts_of c.args.self.now) _ _ _ _ _ (search rules) c.first_of-first.ensures c.parts.ensures.is c.parts-then-basket-ne0.ensures.is (search rules)
