use Rattle.std.proofs.Common.{ap, ◌∙◌, length, ◌-◌, rules}
use Rattle.std.specs.List.{slice_get}
use Rattle.bound.proofs.Rows.{rises_is}
use Rattle.bound.proofs.leaf.Leaf.rises.Goals as goal

pub returns : goal.returns
returns g c =
    rises_is c.args.self.now.weights.items c.args.row c.last.result c.is_none_or.result
    (c.last.ensures.value ∙ ap (λ l. slice_get l (length l - 1)) c.as_slice.ensures.value) (search rules)
