use Rattle.std.proofs.Common.{◌≡◌, pos, ◌+ℤ◌, ◌*ℤ◌, ◌≤ℤ◌, arith, w64, SFits, rules}
use Rattle.std.proofs.lemmas.Int.{ints}
use Rattle.market.specs.View.{closed_of}
use Rattle.console.proofs.Gaps.{cost_under}
use Rattle.console.proofs.state.Console.cost_pence.Goals as goal

pub overflow_mul-self : goal.overflow_mul-self
overflow_mul-self c =
    let s = c.args.self.now in
    let b = c.in_ok-self.field-0 in
    let f : SFits w64 b = search rules in
    let k : SFits w64 s.held.cost = search rules in
    let h : pos 0 ≤ℤ (b +ℤ pos 1000 *ℤ s.held.cost) = cost_under (closed_of s.market) s.held s.price_bound b c.in_ok-self.was s.prices s.kept in
    let t = s.cheap in
    omega (arith, ints)

pub returns : goal.returns
returns c =
    let s = c.args.self.now in
    let b = c.in_ok-self.field-0 in
    let f : SFits w64 b = search rules in
    let k : SFits w64 s.held.cost = search rules in
    let h : pos 0 ≤ℤ (b +ℤ pos 1000 *ℤ s.held.cost) = cost_under (closed_of s.market) s.held s.price_bound b c.in_ok-self.was s.prices s.kept in
    let t = s.cheap in
    let d : pos c.abs_diff-gap.result ≡ b +ℤ pos 1000 *ℤ s.held.cost = omega (arith, ints, c.abs_diff-gap.ensures) in
    search rules
