use Rattle.std.proofs.Common.{refl}
use Rattle.numbers.specs.Sums.{sum_to}
use Rattle.numbers.specs.Searches.{least}
use Rattle.auction.proofs.theorems.worked_bounds.Goals as goal

pub returns : goal.returns
unfolding sum_to least
returns c = record { welfare = refl; saving = refl; without_weights = refl }
