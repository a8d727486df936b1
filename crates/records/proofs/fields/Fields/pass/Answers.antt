use Rattle.std.proofs.Common.{◌≡◌, suc, ◌+◌, ◌-◌, ◌*◌, ◌≤◌, ◌||◌, length, drop, sym, ap, ◌∙◌, mul-suc, arith, length-drop}
use Rattle.std.proofs.lemmas.Result.{err_from_is_err_and}
use Rattle.std.proofs.lemmas.Bool.{le-ltb, cond-false}
use Rattle.records.specs.Bytes.{width}
use Rattle.records.specs.Read.{values, has_zero}
use Rattle.records.proofs.fields.Fields.pass.Goals as goal

pub returns-in_err-take : goal.returns-in_err-take
returns-in_err-take c =
    let kind = c.loop-i.self.kind in
    let rest = c.loop-i.self.bytes.now in
    let left = c.args.count - (c.loop-i._i + 1) in
    let more : c.args.count - c.loop-i._i ≡ suc left = omega arith in
    let long : width kind ≤ length rest = omega (arith, c.loop-i.invariant.1, ap (λ k. width kind * k) more, mul-suc (width kind) left) in
    let told = c.in_err-take.ensures.takes in
    let p = err_from_is_err_and c.from_residual.result c.from_residual.ensures.1 in
    rw (p.1, p.2) (
      c.loop-i.invariant.2 ∙ ap (λ k. has_zero (values kind k rest)) more ∙ ap (λ b. b || has_zero (values kind left (drop (width kind) rest))) told.0,
      told.1 ∙ cond-false _ _ _ (le-ltb (length rest) (width kind) long),
    )

pub loop-i-preserved : goal.loop-i-preserved
loop-i-preserved c =
    let kind = c.loop-i.self.kind in
    let rest = c.loop-i.self.bytes.now in
    let left = c.args.count - (c.loop-i._i + 1) in
    let more : c.args.count - c.loop-i._i ≡ suc left = omega arith in
    let same = c.in_ok-take.ensures.kind in
    let told = c.in_ok-take.ensures.takes in (
      same ∙ c.loop-i.invariant.0,
      rw (same, told.3) (simp length-drop (omega (arith, c.loop-i.invariant.1, ap (λ k. width kind * k) more, mul-suc (width kind) left))),
      c.loop-i.invariant.2 ∙ ap (λ k. has_zero (values kind k rest)) more
          ∙ ap (λ b. b || has_zero (values kind left (drop (width kind) rest))) told.2
          ∙ sym (λ i. has_zero (values (same i) left (told.3 i))),
    )
