use Rattle.std.proofs.Common.{◌∙◌, w64, rules}
use Rattle.std.proofs.lemmas.Int.{to_z-of_z}
use Rattle.knapsack.proofs.packing.worth.Goals as goal

pub total-requires-clause-small : goal.total-requires-clause-small
total-requires-clause-small c = ((λ i. i.value), λ v z h. record { is = search rules; small = search rules })

pub returns : goal.returns
returns c = to_z-of_z w64 _ (search rules) ∙ c.total.ensures (λ i. i.value) (λ v z h. search rules)
