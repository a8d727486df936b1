use Rattle.std.proofs.Common.{sym, ◌∙◌, w64, rules}
use Rattle.std.proofs.lemmas.Int.{to_z-of_z}
use Rattle.bound.proofs.Holding.{limit_held, limit_past, limit_other}
use Rattle.bound.proofs.fixing.FixingProgramme.limits.Goals.{in_default-via-in-Some+else-v-variable_count, in_default-via-in_default}
use Rattle.bound.proofs.fixing.FixingProgramme.limits.Goals as goal

pub returns-in-Some-clause-low : goal.returns-in-Some-clause-low
returns-in-Some-clause-low g c =
    let held = sym c.in-Some.is ∙ rw c.as_slice.ensures.value at c.held_at.ensures in
    limit_held _ _ _ c.in-Some.value _ _ (to_z-of_z w64 _ (search rules)) held (rw c.variable_count.ensures at c.if-v-variable_count.true)

pub returns-in-Some-clause-high : goal.returns-in-Some-clause-high
returns-in-Some-clause-high g c =
    let held = sym c.in-Some.is ∙ rw c.as_slice.ensures.value at c.held_at.ensures in
    limit_held _ _ _ c.in-Some.value _ _ (to_z-of_z w64 _ (search rules)) held (rw c.variable_count.ensures at c.if-v-variable_count.true)

pub returns-in_default-clause-low : goal.returns-in_default-clause-low
returns-in_default-clause-low g c =
    let t = g.P.Programme.table c.args.self.now.below.now in
    elim c.in_default.branch [
      | in_default-via-in-Some+else-v-variable_count w ↦ limit_past c.args.v t.variables (t.low c.args.v) _ _ c.limits.ensures.low (rw w.variable_count.ensures at w.if-v-variable_count.false)
      | in_default-via-in_default w ↦ limit_other c.args.v t.variables (t.low c.args.v) _ _ c.limits.ensures.low (sym w.in_default.is ∙ rw c.as_slice.ensures.value at c.held_at.ensures)
    ]

pub returns-in_default-clause-high : goal.returns-in_default-clause-high
returns-in_default-clause-high g c =
    let t = g.P.Programme.table c.args.self.now.below.now in
    elim c.in_default.branch [
      | in_default-via-in-Some+else-v-variable_count w ↦ limit_past c.args.v t.variables (t.high c.args.v) _ _ c.limits.ensures.high (rw w.variable_count.ensures at w.if-v-variable_count.false)
      | in_default-via-in_default w ↦ limit_other c.args.v t.variables (t.high c.args.v) _ _ c.limits.ensures.high (sym w.in_default.is ∙ rw c.as_slice.ensures.value at c.held_at.ensures)
    ]
