use Rattle.std.proofs.Common.{ℕ, ◌<◌, false}
use Rattle.numbers.proofs.finds.lowest_passing.Given as goal

abbrev pub invariant-loop-k : goal.invariant-loop-k
invariant-loop-k g l = (j : ℕ) → j < l.k → goal.F-post g l.test j false
