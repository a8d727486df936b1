use Rattle.std.proofs.Common.{◌+◌}
use Rattle.rules.specs.Views.{market_of, parts_of, prices_of}
use Rattle.rules.proofs.Verdicts.{Clear}
use Rattle.rules.proofs.filled.Clearing.judge.Given as goal

abbrev pub invariant-loop-rule : goal.invariant-loop-rule
invariant-loop-rule l = Clear (market_of l.self) (parts_of l.self) (prices_of l.self) (12 + l.rule-index)
