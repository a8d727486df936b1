use Rattle.std.proofs.Common.{◌≡◌, ℕ, ℤ, pos, Fits, w32, w64, to_z, of_z, get_or, sym, ap, ◌∙◌, subst, arith, rules}
use Rattle.std.proofs.lemmas.Int.{ints}
use lib.IntN.{nat_abs}
use lib.Dec.{T}
use lib.Signed.{non_neg}
use Rattle.auction.specs.Orders.{total}
use Rattle.auction.proofs.Worth.{total_sum}
use Rattle.auction.proofs.sales.Sale.total.Goals as goal

pub sum_of-requires-clause-fits : goal.sum_of-requires-clause-fits
sum_of-requires-clause-fits c = ((λ p. pos (get_or c.args.self.now.quantities.now p 0)), 65535, omega arith, λ k z l h. search rules)

-- the sum is the total
is_total : (c : goal.After-sum_of) → to_z w64 (of_z w64 c.sum_of.result) ≡ pos (total c.args.self.now.quantities.now)
is_total c =
    let f : ℕ → ℤ = λ p. pos (get_or c.args.self.now.quantities.now p 0) in
    let said = c.sum_of.ensures f 65535 (λ k z l h. search rules) in
    let answer : to_z w64 (of_z w64 c.sum_of.result) ≡ c.sum_of.result = search rules in
    answer ∙ said.is ∙ sym (total_sum c.args.self.now.quantities.now)

pub overflow_cast-result : goal.overflow_cast-result
overflow_cast-result c =
    let f : ℕ → ℤ = λ p. pos (get_or c.args.self.now.quantities.now p 0) in
    let said = c.sum_of.ensures f 65535 (λ k z l h. search rules) in
    let answer : to_z w64 (of_z w64 c.sum_of.result) ≡ c.sum_of.result = search rules in
    let few = said.small in
    let same = is_total c in
    let fits : Fits w32 (total c.args.self.now.quantities.now) = omega (arith, ints) in
    subst (λ (z : ℤ). T (non_neg z) × Fits w32 (nat_abs z)) (sym same) (tt, fits)

pub returns : goal.returns
returns c = ap nat_abs (is_total c)
