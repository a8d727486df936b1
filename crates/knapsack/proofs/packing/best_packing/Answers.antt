use Rattle.knapsack.proofs.Packed.{none_fits}
use Rattle.knapsack.proofs.packing.best_packing.Goals as goal

pub loop-n-init : goal.loop-n-init
loop-n-init c = none_fits
