use Rattle.std.proofs.Common.{◌≡◌, drop}
use Rattle.bound.specs.Leaves.{each, take_coefficient}
use Rattle.bound.proofs.leaf.Leaf.rest_of.Given as goal

-- what is left to take leads to the whole
abbrev pub invariant-loop-w : goal.invariant-loop-w
invariant-loop-w g l =
    let step = take_coefficient (g.P.Programme.table l.self.programme.now) l.v in
    each step (drop l.w-index l.w-items) l.rest ≡ each step l.w-items l.initial.rest
