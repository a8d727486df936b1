use Rattle.console.specs.View.{standing}
use Rattle.console.proofs.Promise.{price_gap_covered}
use Rattle.console.proofs.state.Console.stands.Goals as goal

pub returns-clause-prices : goal.returns-clause-prices
returns-clause-prices c = let s = c.args.self.now in price_gap_covered (standing s) s.prices
