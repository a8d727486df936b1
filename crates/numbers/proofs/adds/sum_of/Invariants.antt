use Rattle.std.proofs.Common.{ℕ, ℤ}
use Rattle.numbers.specs.Sums.{Summed, Terms}
use Rattle.numbers.proofs.adds.sum_of.Given as goal

abbrev pub invariant-loop-k : goal.invariant-loop-k
invariant-loop-k g l = (f : ℕ → ℤ) (size : ℕ) → Terms (goal.F-post g l.term) f size l.count → Summed f size l.k l.sum
