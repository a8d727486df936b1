use Rattle.std.proofs.Common.{◌<◌, sym, ◌∙◌, w64, SFits, rules}
use Rattle.std.proofs.lemmas.Int.{to_z-of_z}
use Rattle.bound.specs.Leaves.{parts}
use Rattle.bound.proofs.Steps.{went}
use Rattle.bound.proofs.Parts.{part_refused, sum_refused, parts_more}
use Rattle.bound.proofs.leaf.Leaf.bound.Goals as goal

pub returns-in_err-part_of : goal.returns-in_err-part_of
returns-in_err-part_of g c =
    let t = g.P.Programme.table c.args.self.now.programme.now in
    let ws = c.args.self.now.weights.items in
    let first : SFits w64 c.in_ok-bound.bound = search rules in
    let inv = simp to_z-of_z at c.loop-v.invariant in
    let within : c.loop-v.v < t.variables = rw c.variable_count-v-end.ensures at c.loop-v-test.true in
    rw c.from_residual-in_err-part_of.ensures
    (part_refused t ws t.variables c.in_ok-bound.bound c.loop-v.v _ inv within c.in_err-part_of.ensures
    ∙ sym (went _ (parts t ws t.variables 0) c.in_ok-bound.ensures))

pub returns-in_err-bound-2 : goal.returns-in_err-bound-2
returns-in_err-bound-2 g c =
    let t = g.P.Programme.table c.args.self.now.programme.now in
    let ws = c.args.self.now.weights.items in
    let first : SFits w64 c.in_ok-bound.bound = search rules in
    let part : SFits w64 c.in_ok-part_of.field-0 = search rules in
    let inv = simp to_z-of_z at c.loop-v.invariant in
    let within : c.loop-v.v < t.variables = rw c.variable_count-v-end.ensures at c.loop-v-test.true in
    let refused = simp to_z-of_z at c.in_err-bound-2.ensures in
    rw c.from_residual-in_err-bound-2.ensures
    (sum_refused t ws t.variables c.in_ok-bound.bound c.loop-v.v _ inv within c.in_ok-part_of.ensures refused
    ∙ sym (went _ (parts t ws t.variables 0) c.in_ok-bound.ensures))

pub loop-v-preserved : goal.loop-v-preserved
loop-v-preserved g c =
    let t = g.P.Programme.table c.args.self.now.programme.now in
    let ws = c.args.self.now.weights.items in
    let first : SFits w64 c.in_ok-bound.bound = search rules in
    let part : SFits w64 c.in_ok-part_of.field-0 = search rules in
    let bound : SFits w64 c.in_ok-bound-2.bound = search rules in
    let inv = simp to_z-of_z at c.loop-v.invariant in
    let within : c.loop-v.v < t.variables = rw c.variable_count-v-end.ensures at c.loop-v-test.true in
    let added = simp to_z-of_z at c.in_ok-bound-2.ensures in
    simp to_z-of_z (parts_more t ws t.variables c.in_ok-bound.bound c.loop-v.v _ inv within c.in_ok-part_of.ensures added)
