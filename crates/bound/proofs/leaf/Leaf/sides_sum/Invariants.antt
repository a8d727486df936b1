use Rattle.std.proofs.Common.{◌≡◌, drop}
use Rattle.bound.specs.Leaves.{each, add_side, sides}
use Rattle.bound.proofs.leaf.Leaf.sides_sum.Given as goal

-- what is left to add leads to the whole
abbrev pub invariant-loop-w : goal.invariant-loop-w
invariant-loop-w g l =
    let t = g.P.Programme.table l.self.programme.now in
    each (add_side t) (drop l.w-index l.w-items) l.bound ≡ sides t l.w-items
