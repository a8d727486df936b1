use Rattle.std.proofs.Common.{◌≡◌, ◌-◌}
use Rattle.bound.specs.Leaves.{parts}
use Rattle.bound.proofs.leaf.Leaf.bound.Given as goal

-- the parts of the variables that are left lead to the whole
abbrev pub invariant-loop-v : goal.invariant-loop-v
invariant-loop-v g l =
    let t = g.P.Programme.table l.self.programme.now in
    parts t l.self.weights.items (t.variables - l.v) l.v l.bound ≡ parts t l.self.weights.items t.variables 0 l.initial.bound
