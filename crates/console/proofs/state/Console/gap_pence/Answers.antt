use Rattle.std.proofs.Common.{◌≡◌, pos, ◌-ℤ◌, ◌≤ℤ◌, arith, w64, SFits, rules}
use Rattle.std.proofs.lemmas.Int.{ints}
use Rattle.market.specs.View.{closed_of}
use Rattle.console.proofs.Gaps.{welfare_under}
use Rattle.console.proofs.state.Console.gap_pence.Goals as goal

pub returns : goal.returns
returns c =
    let s = c.args.self.now in
    let b = c.in_ok-self.field-0 in
    let f : SFits w64 b = search rules in
    let w : SFits w64 s.held.welfare = search rules in
    let h : s.held.welfare ≤ℤ b = welfare_under (closed_of s.market) s.held s.bound b c.in_ok-self.was s.rivals s.kept in
    let d : pos c.abs_diff-gap.result ≡ b -ℤ s.held.welfare = omega (arith, ints, c.abs_diff-gap.ensures) in
    search rules
