use Rattle.std.proofs.Common.{rules}
use Rattle.rules.specs.Broken.{FamilyOverfull}
use Rattle.rules.specs.Views.{market_of, parts_of}
use Rattle.rules.proofs.Places.{lowest_own}
use Rattle.rules.proofs.filled.Clearing.family_overfull.Goals as goal

pub returns : goal.returns
returns c = (lowest_own 65 (FamilyOverfull (market_of c.args.self.now) (parts_of c.args.self.now)) _ _ c.lowest_passing.ensures (λ k b l h. search rules))
