use Rattle.records.proofs.Spelling.{stands}
use Rattle.records.proofs.laws.stands.Goals as goal

pub returns : goal.returns
returns c = stands
