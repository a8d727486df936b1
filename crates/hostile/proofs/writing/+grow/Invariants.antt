use Rattle.std.proofs.Common.{◌-◌}
use Rattle.hostile.proofs.writing.+grow.Given as goal

abbrev pub decreases-grow : goal.decreases-grow
decreases-grow l = 12 - l.depth
