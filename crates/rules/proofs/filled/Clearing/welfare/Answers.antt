use Rattle.std.proofs.Common.{rules, arith}
use Rattle.market.proofs.Books.{closed_lawful}
use Rattle.rules.specs.Clearings.{parent_worth, extra_worth}
use Rattle.rules.specs.Views.{market_of, parts_of, prices_of}
use Rattle.rules.proofs.Worths.{both_sums, less_sums}
use Rattle.rules.proofs.filled.Clearing.welfare.Goals as goal

pub parents_sum-requires-clause-fits : goal.parents_sum-requires-clause-fits
parents_sum-requires-clause-fits c = (parent_worth (market_of c.args.self.now) (parts_of c.args.self.now), 5993940060000, omega arith, λ k z l h. let s = h.sells in search rules)

pub extras_sum-requires-clause-fits : goal.extras_sum-requires-clause-fits
extras_sum-requires-clause-fits c = (extra_worth (market_of c.args.self.now) (parts_of c.args.self.now), 5993940060000, omega arith, λ k z l h. let s = h.sells in search rules)

pub overflow_add-sells : goal.overflow_add-sells
overflow_add-sells c =
    let law = closed_lawful c.args.self.now.market.now in
    let one = c.parents_sum.ensures (parent_worth (market_of c.args.self.now) (parts_of c.args.self.now)) 5993940060000 (λ k z l h. let s = h.sells in search rules) in
    let two = c.extras_sum.ensures (extra_worth (market_of c.args.self.now) (parts_of c.args.self.now)) 5993940060000 (λ k z l h. let s = h.sells in search rules) in
    search rules

pub overflow_sub-result : goal.overflow_sub-result
overflow_sub-result c =
    let law = closed_lawful c.args.self.now.market.now in
    let one = c.parents_sum.ensures (parent_worth (market_of c.args.self.now) (parts_of c.args.self.now)) 5993940060000 (λ k z l h. let s = h.sells in search rules) in
    let two = c.extras_sum.ensures (extra_worth (market_of c.args.self.now) (parts_of c.args.self.now)) 5993940060000 (λ k z l h. let s = h.sells in search rules) in
    let both = both_sums _ _ _ _ _ _ (omega arith) (omega arith) one two in
    let left = less_sums _ _ _ _ _ (omega arith) c.buys_worth.ensures both.0 both.1 in
    let fits = left.0 in
    search rules

pub returns : goal.returns
returns c =
    let law = closed_lawful c.args.self.now.market.now in
    let one = c.parents_sum.ensures (parent_worth (market_of c.args.self.now) (parts_of c.args.self.now)) 5993940060000 (λ k z l h. let s = h.sells in search rules) in
    let two = c.extras_sum.ensures (extra_worth (market_of c.args.self.now) (parts_of c.args.self.now)) 5993940060000 (λ k z l h. let s = h.sells in search rules) in
    let both = both_sums _ _ _ _ _ _ (omega arith) (omega arith) one two in
    let left = less_sums _ _ _ _ _ (omega arith) c.buys_worth.ensures both.0 both.1 in
    record { is = left.1; size = left.2 }
