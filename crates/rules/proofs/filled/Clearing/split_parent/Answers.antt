use Rattle.std.proofs.Common.{rules}
use Rattle.rules.specs.Broken.{SplitParent}
use Rattle.rules.specs.Views.{parts_of}
use Rattle.rules.proofs.Places.{lowest_of}
use Rattle.rules.proofs.filled.Clearing.split_parent.Goals as goal

pub returns : goal.returns
returns c = lowest_of 64 _ (SplitParent (parts_of c.args.self.now)) _ _ c.lowest_basket.ensures (λ k b l h. search rules)
