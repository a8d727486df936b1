use Rattle.std.proofs.Common.{arith, ◌∙◌, rules}
use Rattle.auction.specs.declared.rows.Measure.TheVariants.{On}
use Rattle.auction.proofs.Terms.{negated}
use Rattle.auction.proofs.acceptance.AcceptanceProgramme.of_basket.Goals as goal

pub returns-in-Line : goal.returns-in-Line
returns-in-Line c =
    let minus = negated _ _ 999890001 (omega arith) (c.measured.ensures.is ∙ c.of_parent.ensures (On c.in-Line.l)) c.measured.ensures.small in
    search rules
