use Rattle.market.proofs.Outcomes.{files_in_order}
use Rattle.market.proofs.laws.files_in_order.Goals as goal

pub returns : goal.returns
returns c = files_in_order
