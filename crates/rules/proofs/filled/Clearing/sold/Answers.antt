use Rattle.std.proofs.Common.{rules, arith}
use Rattle.market.proofs.Books.{closed_lawful}
use Rattle.rules.specs.Clearings.{sold_by_parent, sold_by_extra}
use Rattle.rules.specs.Views.{market_of, parts_of}
use Rattle.rules.proofs.filled.Clearing.sold.Goals as goal

pub parents_sum-requires-clause-fits : goal.parents_sum-requires-clause-fits
parents_sum-requires-clause-fits c = (sold_by_parent (market_of c.args.self.now) (parts_of c.args.self.now) c.args.w c.args.p, 99990000, omega arith, λ k z l h. let s = h.sells in search rules)

pub extras_sum-requires-clause-fits : goal.extras_sum-requires-clause-fits
extras_sum-requires-clause-fits c = (sold_by_extra (market_of c.args.self.now) (parts_of c.args.self.now) c.args.w c.args.p, 99990000, omega arith, λ k z l h. let s = h.sells in search rules)

pub overflow_add-result : goal.overflow_add-result
overflow_add-result c =
    let law = closed_lawful c.args.self.now.market.now in
    let one = (c.parents_sum.ensures (sold_by_parent (market_of c.args.self.now) (parts_of c.args.self.now) c.args.w c.args.p) 99990000 (λ k z l h. let s = h.sells in search rules)).small in
    let two = (c.extras_sum.ensures (sold_by_extra (market_of c.args.self.now) (parts_of c.args.self.now) c.args.w c.args.p) 99990000 (λ k z l h. let s = h.sells in search rules)).small in
    search rules

pub returns : goal.returns
returns c =
    let law = closed_lawful c.args.self.now.market.now in
    let one = c.parents_sum.ensures (sold_by_parent (market_of c.args.self.now) (parts_of c.args.self.now) c.args.w c.args.p) 99990000 (λ k z l h. let s = h.sells in search rules) in
    let two = c.extras_sum.ensures (sold_by_extra (market_of c.args.self.now) (parts_of c.args.self.now) c.args.w c.args.p) 99990000 (λ k z l h. let s = h.sells in search rules) in
    search rules
