use Rattle.std.proofs.Common.{get_or, pos, sym, ap, ◌∙◌, w64, SFits, rules}
use Rattle.std.proofs.lemmas.Int.{to_z-of_z}
use Rattle.bound.specs.declared.leaf.Weight.{Weight}
use Rattle.bound.specs.Leaves.{each, take_coefficient, rest_of}
use Rattle.bound.proofs.Steps.{went, each_more, each_stops}
use Rattle.bound.proofs.leaf.Leaf.rest_of.Goals as goal

pub returns-in_err-rest-2 : goal.returns-in_err-rest-2
returns-in_err-rest-2 g c =
    let step = take_coefficient (g.P.Programme.table c.args.self.now.programme.now) c.args.v in
    let ws = c.as_slice-w-items.result.now in
    let i = c.loop-w.w-index in
    let d : Weight = record { row = 0; weight = pos 0 } in
    let weight : SFits w64 (get_or ws i d).weight = search rules in
    let coefficient : SFits w64 c.coefficient.result = search rules in
    let scale : SFits w64 c.scale_value.result = search rules in
    let objective : SFits w64 c.objective.result = search rules in
    let first : SFits w64 c.in_ok-rest.rest = search rules in
    let inv = simp to_z-of_z at c.loop-w.invariant in
    let started = simp (c.scale_value.ensures, c.objective.ensures) at (simp to_z-of_z at c.in_ok-rest.ensures) in
    let refused = simp c.coefficient.ensures at (simp to_z-of_z at c.in_err-rest-2.ensures) in
    let t = g.P.Programme.table c.args.self.now.programme.now in
    rw c.from_residual-in_err-rest-2.ensures
    (each_stops step ws c.in_ok-rest.rest i _ inv d c.loop-w-test.true refused ∙ sym (went _ (each step ws) started) ∙ ap (λ l. rest_of t l c.args.v) c.as_slice-w-items.ensures.value)

pub loop-w-preserved : goal.loop-w-preserved
loop-w-preserved g c =
    let step = take_coefficient (g.P.Programme.table c.args.self.now.programme.now) c.args.v in
    let ws = c.as_slice-w-items.result.now in
    let i = c.loop-w.w-index in
    let d : Weight = record { row = 0; weight = pos 0 } in
    let weight : SFits w64 (get_or ws i d).weight = search rules in
    let coefficient : SFits w64 c.coefficient.result = search rules in
    let first : SFits w64 c.in_ok-rest.rest = search rules in
    let rest : SFits w64 c.in_ok-rest-2.rest = search rules in
    let inv = simp to_z-of_z at c.loop-w.invariant in
    let made = simp c.coefficient.ensures at (simp to_z-of_z at c.in_ok-rest-2.ensures) in
    simp to_z-of_z (each_more step ws c.in_ok-rest.rest i _ inv d c.loop-w-test.true made)
