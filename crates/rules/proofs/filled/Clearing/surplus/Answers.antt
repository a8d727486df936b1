use Rattle.std.proofs.Common.{◌≡◌, ℤ, ◌*ℤ◌, sym, ap, ◌∙◌, subst, arith, w64, to_z, of_z, rules}
use Rattle.std.proofs.lemmas.Int.{ints}
use Rattle.numbers.specs.Sums.{Within}
use Rattle.numbers.proofs.Products.{Multiplied, multiplied}
use Rattle.rules.proofs.filled.Clearing.surplus.Goals as goal

scaled : (u x g : ℤ) → u ≡ x → Within 10000 x → Within 1198788012 g → Multiplied (to_z w64 (of_z w64 u)) (to_z w64 (of_z w64 g)) x g 11987880120000
scaled u x g e a b = multiplied _ _ _ _ 10000 1198788012 (omega (arith, ints)) (omega (arith, ints)) a b (omega arith)

pub overflow_mul-result : goal.overflow_mul-result
overflow_mul-result c = (scaled c.from.result c.args.sale.parts c.gains.result (search rules) c.args.sale.shared c.gains.ensures.small).fits

pub returns : goal.returns
returns c =
    let p = scaled c.from.result c.args.sale.parts c.gains.result (search rules) c.args.sale.shared c.gains.ensures.small in
    record { is = p.is ∙ ap (λ a. c.args.sale.parts *ℤ a) c.gains.ensures.is; small = subst (Within 11987880120000) (sym p.is) p.small }
