use Rattle.std.proofs.Common.{rules}
use Rattle.auction.specs.declared.rows.Measure.TheVariants.{Value}
use Rattle.auction.proofs.Offers.{sized}
use Rattle.auction.proofs.sales.Sale.measured.Goals as goal

pub returns-in-Value-clause-small : goal.returns-in-Value-clause-small
returns-in-Value-clause-small c = sized 999890001 _ _ (search rules) (c.args.self.now.small Value)
