use Rattle.market.proofs.Figures.{figure}
use Rattle.market.proofs.laws.figure.Goals as goal

pub returns : goal.returns
returns c = figure
