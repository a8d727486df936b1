use Rattle.std.proofs.Common.{◌∙◌}
use Rattle.market.proofs.Naming.{numbered}
use Rattle.market.proofs.entries.Service.numbered.Goals as goal

pub returns : goal.returns
returns c = c.unwrap_or.ensures ∙ numbered c.args.number c.try_from.result c.try_from.ensures
