use Rattle.std.proofs.Common.{rules, arith}
use Rattle.std.proofs.lemmas.Int.{ints}
use Rattle.market.proofs.Books.{closed_lawful}
use Rattle.rules.specs.Prices.{parent_payment, extra_payment}
use Rattle.rules.specs.Views.{market_of, parts_of, prices_of}
use Rattle.rules.proofs.Worths.{both_sums}
use Rattle.rules.proofs.filled.Clearing.cost.Goals as goal

pub parents_sum-requires-clause-fits : goal.parents_sum-requires-clause-fits
parents_sum-requires-clause-fits c = (parent_payment (market_of c.args.self.now) (parts_of c.args.self.now) (prices_of c.args.self.now), 5993940060000, omega arith, λ k z l h. let s = h.sells in search rules)

pub extras_sum-requires-clause-fits : goal.extras_sum-requires-clause-fits
extras_sum-requires-clause-fits c = (extra_payment (market_of c.args.self.now) (parts_of c.args.self.now) (prices_of c.args.self.now), 5993940060000, omega arith, λ k z l h. let s = h.sells in search rules)

pub overflow_add-result : goal.overflow_add-result
overflow_add-result c =
    let law = closed_lawful c.args.self.now.market.now in
    let one = c.parents_sum.ensures (parent_payment (market_of c.args.self.now) (parts_of c.args.self.now) (prices_of c.args.self.now)) 5993940060000 (λ k z l h. let s = h.sells in search rules) in
    let two = c.extras_sum.ensures (extra_payment (market_of c.args.self.now) (parts_of c.args.self.now) (prices_of c.args.self.now)) 5993940060000 (λ k z l h. let s = h.sells in search rules) in
    search rules

pub returns : goal.returns
returns c =
    let law = closed_lawful c.args.self.now.market.now in
    let one = c.parents_sum.ensures (parent_payment (market_of c.args.self.now) (parts_of c.args.self.now) (prices_of c.args.self.now)) 5993940060000 (λ k z l h. let s = h.sells in search rules) in
    let two = c.extras_sum.ensures (extra_payment (market_of c.args.self.now) (parts_of c.args.self.now) (prices_of c.args.self.now)) 5993940060000 (λ k z l h. let s = h.sells in search rules) in
    let both = both_sums _ _ _ _ _ _ (omega arith) (omega arith) one two in
    let small = both.1 in
    record { is = both.0; size = (omega (arith, ints), omega (arith, ints)) }
