use Rattle.std.proofs.Common.{refl, rules}
use Rattle.bound.specs.Sheets.{line_of}
use Rattle.bound.proofs.Copies.{filled, copied}
use Rattle.bound.proofs.Sheeted.{copied_ordered, copied_low, copied_high, sheeted_same}
use Rattle.bound.proofs.sheet.LimitSheet.of.Goals as goal

pub invariant_of-result : goal.invariant_of-result
invariant_of-result g c =
    let t = g.P.Programme.table c.args.below.now in
    let l = g.P.Programme.lawful c.args.below.now in
    let lines = c.from_fn-lines.result in
    let made = c.from_fn-lines.ensures.items in
    let same = copied t l lines made.long (filled _ _ (line_of t) (λ k x q h. search rules) lines 256 made) in
    record { ordered = copied_ordered t l lines same; smalllow = copied_low t l lines same; smallhigh = copied_high t l lines same }

pub returns : goal.returns
returns g c =
    let t = g.P.Programme.table c.args.below.now in
    let l = g.P.Programme.lawful c.args.below.now in
    let lines = c.from_fn-lines.result in
    let made = c.from_fn-lines.ensures.items in
    let own = copied t l lines made.long (filled _ _ (line_of t) (λ k x q h. search rules) lines 256 made) in
    let same = sheeted_same t l lines own in
    record { below = refl; lines = own; table = same; same = same }
