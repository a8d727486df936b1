use Rattle.std.proofs.Common.{arith, ◌∙◌, rules}
use Rattle.auction.specs.declared.rows.Measure.TheVariants.{Value}
use Rattle.auction.proofs.Terms.{negated}
use Rattle.auction.proofs.acceptance.AcceptanceProgramme.value_at.Goals as goal

pub returns-in-Some-Parent : goal.returns-in-Some-Parent
returns-in-Some-Parent c =
    let minus = negated _ _ 999890001 (omega arith) (c.measured.ensures.is ∙ c.of_parent.ensures Value) c.measured.ensures.small in
    search rules

pub returns-in-Some-Extra : goal.returns-in-Some-Extra
returns-in-Some-Extra c =
    let minus = negated _ _ 999890001 (omega arith) (c.measured-in-Some-Extra.ensures.is ∙ c.of_extra.ensures Value) c.measured-in-Some-Extra.ensures.small in
    search rules
