use Rattle.std.proofs.Common.{rules}
use Rattle.rules.specs.Views.{market_of}
use Rattle.rules.proofs.Places.{first_found}
use Rattle.rules.proofs.filled.Clearing.first_of.Goals as goal

pub returns : goal.returns
returns c = first_found (market_of c.args.self.now) c.args.b _ c.lowest_passing.result c.unwrap_or.result c.requires c.lowest_passing.ensures (λ k t l h. search rules) (λ e. search rules) (λ v e. search rules)
