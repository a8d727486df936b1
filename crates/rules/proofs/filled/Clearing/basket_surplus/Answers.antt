use Rattle.market.proofs.Books.{closed_lawful}
use Rattle.rules.specs.Views.{market_of, parts_of, prices_of}
use Rattle.rules.proofs.Surpluses.{basket_surplus_term}
use Rattle.rules.proofs.filled.Clearing.basket_surplus.Goals as goal

pub returns : goal.returns
returns c = basket_surplus_term (market_of c.args.self.now) (parts_of c.args.self.now) (prices_of c.args.self.now) _ _ _
    (closed_lawful c.args.self.now.market.now).few_extras c.parent_surplus.ensures c.basket_extras.ensures
