use Rattle.records.proofs.Spelling.{unique}
use Rattle.records.proofs.laws.unique.Goals as goal

pub returns : goal.returns
returns c = unique
