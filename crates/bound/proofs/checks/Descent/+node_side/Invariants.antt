use Rattle.std.proofs.Common.{◌+◌, ◌-◌, ◌*◌}
use Rattle.bound.specs.Paths.{count_of}
use Rattle.bound.proofs.checks.Descent.+node_side.Given as goal

-- a node calls its sides, and a side the node below it
abbrev pub decreases-node : goal.decreases-node
decreases-node g l = 2 * (64 - count_of l.self.now.fixing) + 1

abbrev pub decreases-side : goal.decreases-side
decreases-side g l = 2 * (64 - count_of l.self.now.fixing)
