use Rattle.std.proofs.Common.{◌≡◌, suc, ◌-◌, ◌<◌, true, false, pos, Ok, Err, sym, ap, ◌∙◌, subst, arith, w64, rules}
use Rattle.std.specs.Int.{int_max}
use Rattle.std.proofs.lemmas.Result.{err_from_is_err_and}
use Rattle.std.proofs.lemmas.Int.{to_z-of_z}
use Rattle.records.specs.Readers.{file_of, place_of}
use Rattle.bound.specs.declared.faults.Fault.TheVariants.{TooDeep, SplitBarred}
use Rattle.bound.specs.Layers.{fixed, place}
use Rattle.bound.specs.Steps.{refuse}
use Rattle.bound.specs.Checks.{allowed, node_at}
use Rattle.bound.specs.Layers.{holding}
use Rattle.bound.specs.Paths.{held_of, count_of, below_of, Free, SamePath}
use Rattle.bound.proofs.Reading.{node_err, node_leaf, node_barred, node_deep, node_off, node_on, node_both}
use Rattle.bound.proofs.Descent.{allowed_free}
use Rattle.bound.proofs.Paths.{held_count, deeper}
use Rattle.bound.proofs.Sound.{found_known}
use Rattle.bound.proofs.checks.Descent.+node_side.Goals as goal

pub node-returns-in_err-variable-clause-gives : goal.node-returns-in_err-variable-clause-gives
node-returns-in_err-variable-clause-gives g t c =
    let told = c.in_err-variable.ensures in
    let p = err_from_is_err_and c.from_residual.result c.from_residual.ensures.1 in
    let f = c.args.self.now.fixing in
    rw (p.1, p.2) (node_err (fixed (g.P.Programme.table (below_of f)) (held_of f)) (file_of c.args.self.now.reader.reader) (place_of c.args.self.now.reader.reader) (64 - count_of f) _ told.gives)

pub node-returns-then-not-may_split-clause-gives : goal.node-returns-then-not-may_split-clause-gives
node-returns-then-not-may_split-clause-gives g t c =
    let told = c.in_ok-variable.ensures in
    let f = c.args.self.now.fixing in
    let found = told.gives ∙ ap (λ s. Ok (s, place_of c.open.new.reader.reader)) c.in-Branch.is in
    let barred : allowed (fixed (g.P.Programme.table (below_of f)) (held_of f)) c.in-Branch.variable ≡ false = sym c.may_split.ensures ∙ c.if-not-may_split.true in
    node_barred (fixed (g.P.Programme.table (below_of f)) (held_of f)) (file_of c.args.self.now.reader.reader) (place_of c.args.self.now.reader.reader) (64 - count_of f) _ _ barred found
    ∙ ap (refuse SplitBarred) (sym c.place-place.ensures) ∙ ap Err (sym c.at.ensures)

pub node-returns-then-count-eq-DEEPEST-clause-gives : goal.node-returns-then-count-eq-DEEPEST-clause-gives
node-returns-then-count-eq-DEEPEST-clause-gives g t c =
    let told = c.in_ok-variable.ensures in
    let f = c.args.self.now.fixing in
    let found = told.gives ∙ ap (λ s. Ok (s, place_of c.open.new.reader.reader)) c.in-Branch.is in
    let may : allowed (fixed (g.P.Programme.table (below_of f)) (held_of f)) c.in-Branch.variable ≡ true = sym c.may_split.ensures ∙ c.if-not-may_split.false in
    node_deep (fixed (g.P.Programme.table (below_of f)) (held_of f)) (file_of c.args.self.now.reader.reader) (place_of c.args.self.now.reader.reader) (64 - count_of f) _ _ (omega (arith, c.count.ensures, c.if-count-eq-DEEPEST.true)) may found
    ∙ ap (refuse TooDeep) (sym c.place-place.ensures) ∙ ap Err (sym c.at-then-count-eq-DEEPEST.ensures)

pub node-side-requires : goal.node-side-requires
node-side-requires g t c κs within =
    let told = c.in_ok-variable.ensures in
    let f = c.args.self.now.fixing in
    let table = g.P.Programme.table (below_of f) in
    let v = c.in-Branch.variable in
    let found = told.gives ∙ ap (λ s. Ok (s, place_of c.open.new.reader.reader)) c.in-Branch.is in
    let may : allowed (fixed table (held_of f)) v ≡ true = sym c.may_split.ensures ∙ c.if-not-may_split.false in
    let known : v < table.variables = found_known (fixed table (held_of f)) (file_of c.args.self.now.reader.reader) (place_of c.args.self.now.reader.reader) v _ found in
    let free : place v (held_of f) ≡ count_of f = allowed_free table (held_of f) v known may ∙ held_count g.P.Programme.table f in
    let room : count_of f < 64 = omega (arith, c.count.ensures, c.if-count-eq-DEEPEST.false, f.few) in
    let can : Free table.variables f v = (known, free, room) in
    search rules

pub node-returns-in_err-off-in-Branch-clause-gives : goal.node-returns-in_err-off-in-Branch-clause-gives
node-returns-in_err-off-in-Branch-clause-gives g t c =
    let told = c.in_ok-variable.ensures in
    let f = c.args.self.now.fixing in
    let program = g.P.Programme.table (below_of f) in
    let here = fixed program (held_of f) in
    let file = file_of c.args.self.now.reader.reader in
    let at = place_of c.args.self.now.reader.reader in
    let d = 63 - count_of f in
    let q = place_of c.open.new.reader.reader in
    let v = c.in-Branch.variable in
    let found = told.gives ∙ ap (λ s. Ok (s, q)) c.in-Branch.is in
    let may : allowed here v ≡ true = sym c.may_split.ensures ∙ c.if-not-may_split.false in
    let more : 64 - count_of f ≡ suc d = omega (arith, c.count.ensures, c.if-count-eq-DEEPEST.false, f.few) in
    let off = c.in_err-off-in-Branch.ensures in
    let p = err_from_is_err_and c.from_residual-in_err-off-in-Branch.result c.from_residual-in_err-off-in-Branch.ensures.1 in
    let first : node_at d (holding here v (pos 0)) file q ≡ Err c.in_err-off-in-Branch.field-0.0 =
    (λ i. node_at d (holding here v (pos 0)) (sym told.file i) q) ∙ off.gives in
    rw (p.1, p.2) (node_off here file at (64 - count_of f) d v q more may found _ first)

pub node-side-requires-in-Branch : goal.node-side-requires-in-Branch
node-side-requires-in-Branch g t c κs within =
    let told = c.in_ok-variable.ensures in
    let f = c.args.self.now.fixing in
    let table = g.P.Programme.table (below_of f) in
    let v = c.in-Branch.variable in
    let found = told.gives ∙ ap (λ s. Ok (s, place_of c.open.new.reader.reader)) c.in-Branch.is in
    let may : allowed (fixed table (held_of f)) v ≡ true = sym c.may_split.ensures ∙ c.if-not-may_split.false in
    let known : v < table.variables = found_known (fixed table (held_of f)) (file_of c.args.self.now.reader.reader) (place_of c.args.self.now.reader.reader) v _ found in
    let free : place v (held_of f) ≡ count_of f = allowed_free table (held_of f) v known may ∙ held_count g.P.Programme.table f in
    let room : count_of f < 64 = omega (arith, c.count.ensures, c.if-count-eq-DEEPEST.false, f.few) in
    let f' = c.side.new.self.fixing in
    let kept : SamePath f f' = c.in_ok-off-in-Branch.ensures.path in
    let known' : v < (g.P.Programme.table (below_of f')).variables = subst (λ p. v < (g.P.Programme.table p).variables) (sym kept.2) known in
    let free' : place v (held_of f') ≡ count_of f' = ap (place v) kept.0 ∙ free ∙ sym kept.1 in
    let room' : count_of f' < 64 = omega (arith, room, kept.1) in
    let can : Free (g.P.Programme.table (below_of f')).variables f' v = (known', free', room') in
    search rules

pub node-returns-in_err-on-in-Branch-clause-gives : goal.node-returns-in_err-on-in-Branch-clause-gives
node-returns-in_err-on-in-Branch-clause-gives g t c =
    let told = c.in_ok-variable.ensures in
    let f = c.args.self.now.fixing in
    let program = g.P.Programme.table (below_of f) in
    let here = fixed program (held_of f) in
    let file = file_of c.args.self.now.reader.reader in
    let at = place_of c.args.self.now.reader.reader in
    let d = 63 - count_of f in
    let q = place_of c.open.new.reader.reader in
    let v = c.in-Branch.variable in
    let found = told.gives ∙ ap (λ s. Ok (s, q)) c.in-Branch.is in
    let may : allowed here v ≡ true = sym c.may_split.ensures ∙ c.if-not-may_split.false in
    let more : 64 - count_of f ≡ suc d = omega (arith, c.count.ensures, c.if-count-eq-DEEPEST.false, f.few) in
    let off = c.in_ok-off-in-Branch.ensures in
    let mid = place_of c.side.new.self.reader.reader in
    let f' = c.side.new.self.fixing in
    let kept : SamePath f f' = off.path in
    let first : node_at d (holding here v (pos 0)) file q ≡ Ok (c.in_ok-off-in-Branch.off, mid) =
    (λ i. node_at d (holding here v (pos 0)) (sym told.file i) q) ∙ off.gives in
    let moved : node_at d (holding here v (pos 1)) file mid ≡ node_at (63 - count_of f') (holding (fixed (g.P.Programme.table (below_of f')) (held_of f')) v (pos 1)) (file_of c.side.new.self.reader.reader) mid =
    λ i. node_at (63 - sym kept.1 i) (holding (fixed (g.P.Programme.table (sym kept.2 i)) (sym kept.0 i)) v (pos 1)) (sym (off.file ∙ told.file) i) mid in
    let on = c.in_err-on-in-Branch.ensures in
    let p = err_from_is_err_and c.from_residual-in_err-on-in-Branch.result c.from_residual-in_err-on-in-Branch.ensures.1 in
    rw (p.1, p.2) (node_on here file at (64 - count_of f) d v q more may found _ mid _ first (moved ∙ on.gives))

pub node-returns-in_ok-on-in-Branch-clause-gives : goal.node-returns-in_ok-on-in-Branch-clause-gives
node-returns-in_ok-on-in-Branch-clause-gives g t c =
    let told = c.in_ok-variable.ensures in
    let f = c.args.self.now.fixing in
    let program = g.P.Programme.table (below_of f) in
    let here = fixed program (held_of f) in
    let file = file_of c.args.self.now.reader.reader in
    let at = place_of c.args.self.now.reader.reader in
    let d = 63 - count_of f in
    let q = place_of c.open.new.reader.reader in
    let v = c.in-Branch.variable in
    let found = told.gives ∙ ap (λ s. Ok (s, q)) c.in-Branch.is in
    let may : allowed here v ≡ true = sym c.may_split.ensures ∙ c.if-not-may_split.false in
    let more : 64 - count_of f ≡ suc d = omega (arith, c.count.ensures, c.if-count-eq-DEEPEST.false, f.few) in
    let off = c.in_ok-off-in-Branch.ensures in
    let mid = place_of c.side.new.self.reader.reader in
    let f' = c.side.new.self.fixing in
    let kept : SamePath f f' = off.path in
    let first : node_at d (holding here v (pos 0)) file q ≡ Ok (c.in_ok-off-in-Branch.off, mid) =
    (λ i. node_at d (holding here v (pos 0)) (sym told.file i) q) ∙ off.gives in
    let moved : node_at d (holding here v (pos 1)) file mid ≡ node_at (63 - count_of f') (holding (fixed (g.P.Programme.table (below_of f')) (held_of f')) v (pos 1)) (file_of c.side.new.self.reader.reader) mid =
    λ i. node_at (63 - sym kept.1 i) (holding (fixed (g.P.Programme.table (sym kept.2 i)) (sym kept.0 i)) v (pos 1)) (sym (off.file ∙ told.file) i) mid in
    let on = c.in_ok-on-in-Branch.ensures in
    let kept' : SamePath f' c.side-in-Branch.new.self.fixing = on.path in
    let greater = to_z-of_z w64 c.max.result (search rules) ∙ c.max.ensures.value ∙ (λ i. int_max (to_z-of_z w64 c.in_ok-off-in-Branch.off (search rules) i) (to_z-of_z w64 c.in_ok-on-in-Branch.on (search rules) i)) in
    node_both here file at (64 - count_of f) d v q more may found _ mid _ _ first (moved ∙ on.gives)
    ∙ ap (λ b. Ok (b, place_of c.side-in-Branch.new.self.reader.reader)) (sym greater)

pub node-returns-in-Leaf-clause-gives : goal.node-returns-in-Leaf-clause-gives
node-returns-in-Leaf-clause-gives g t c =
    let told = c.in_ok-variable.ensures in
    let f = c.args.self.now.fixing in
    let q = place_of c.open.new.reader.reader in
    let found = told.gives ∙ ap (λ s. Ok (s, q)) c.in-Leaf.is in
    node_leaf (fixed (g.P.Programme.table (below_of f)) (held_of f)) (file_of c.args.self.now.reader.reader) (place_of c.args.self.now.reader.reader) (64 - count_of f) _ q found
    ∙ ap (λ b. Ok (b, q)) (sym (to_z-of_z w64 c.in-Leaf.bound (search rules)))

pub side-returns-in_err-bound-clause-gives : goal.side-returns-in_err-bound-clause-gives
side-returns-in_err-bound-clause-gives g t c =
    let f = c.args.self.now.fixing in
    let f' = c.hold.new.self in
    let down = deeper g.P.Programme.table f f' c.args.variable c.args.value _ c.hold.result (to_z-of_z w64 _ c.ranges.value)
    c.hold.ensures.answers c.hold.ensures.held c.hold.ensures.below c.requires.small c.requires.free.0 c.requires.free.1 c.requires.free.2 in
    let depth : 63 - count_of f ≡ 64 - count_of f' = omega (arith, down.count) in
    let told = c.in_err-bound.ensures in
    let p = err_from_is_err_and c.from_residual.result c.from_residual.ensures.1 in
    rw (p.1, p.2) ((λ i. node_at (depth i) (down.means i) (file_of c.args.self.now.reader.reader) (place_of c.args.self.now.reader.reader)) ∙ told.gives)

pub side-returns-clause-gives : goal.side-returns-clause-gives
side-returns-clause-gives g t c =
    let f = c.args.self.now.fixing in
    let f' = c.hold.new.self in
    let down = deeper g.P.Programme.table f f' c.args.variable c.args.value _ c.hold.result (to_z-of_z w64 _ c.ranges.value)
    c.hold.ensures.answers c.hold.ensures.held c.hold.ensures.below c.requires.small c.requires.free.0 c.requires.free.1 c.requires.free.2 in
    let depth : 63 - count_of f ≡ 64 - count_of f' = omega (arith, down.count) in
    let told = c.in_ok-bound.ensures in
    (λ i. node_at (depth i) (down.means i) (file_of c.args.self.now.reader.reader) (place_of c.args.self.now.reader.reader)) ∙ told.gives
    ∙ ap (λ b. Ok (b, place_of c.node.new.self.reader.reader)) (sym (to_z-of_z w64 c.in_ok-bound.bound (search rules)))
