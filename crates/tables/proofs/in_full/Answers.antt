use Rattle.std.proofs.Common.{ℤ, pos, sym, subst, arith}
use Rattle.std.proofs.lemmas.List.{get_or-replicate}
use Rattle.std.proofs.lemmas.Int.{ints}
use Rattle.rules.specs.Clearings.{Parts}
use Rattle.tables.proofs.in_full.Goals as goal

pub returns : goal.returns
returns c = λ v h. subst (λ (z : ℤ). Parts 10000 z) (sym (get_or-replicate 256 v (pos 10000) (pos 0) h)) (omega (arith, ints), omega (arith, ints))
