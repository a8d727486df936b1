use Rattle.knapsack.specs.Packings.{Fits}
use Rattle.knapsack.proofs.packing.best_packing.Given as goal

-- what was best so far fits
abbrev pub invariant-loop-n : goal.invariant-loop-n
invariant-loop-n l = Fits l.best
