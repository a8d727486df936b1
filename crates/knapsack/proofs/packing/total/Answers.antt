use Rattle.std.proofs.Common.{◌*ℤ◌, ◌∙◌, arith, w64, rules}
use Rattle.std.proofs.lemmas.Int.{to_z-of_z}
use Rattle.knapsack.specs.Items.{item_at}
use Rattle.knapsack.specs.Packings.{part}
use Rattle.knapsack.proofs.Packed.{counted_term}
use Rattle.knapsack.proofs.packing.total.Goals as goal

pub sum_of-requires-clause-fits : goal.sum_of-requires-clause-fits
sum_of-requires-clause-fits g c =
    let f = c.requires.small.0 in
    let small = c.requires.small.1 in
    ((λ v. f (item_at v) *ℤ part c.args.taken.now v), 50, omega arith, λ k z l h. search (counted_term, rules))

pub returns : goal.returns
returns g c = λ f h.
    let small = c.requires.small.1 in
    let said = c.sum_of.ensures (λ v. f (item_at v) *ℤ part c.args.taken.now v) 50 (λ k z l p. search (counted_term, rules)) in
    to_z-of_z w64 _ (search rules) ∙ said.is
