use Rattle.std.proofs.Common.{rules}
use Rattle.rules.specs.Broken.{LineShort}
use Rattle.rules.specs.Views.{market_of, parts_of}
use Rattle.rules.proofs.Places.{lowest_own}
use Rattle.rules.proofs.filled.Clearing.line_short.Goals as goal

pub returns : goal.returns
returns c = (lowest_own 192 (LineShort (market_of c.args.self.now) (parts_of c.args.self.now)) _ _ c.lowest_passing.ensures (λ k b l h. search rules))
