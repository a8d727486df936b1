use Rattle.std.proofs.Common.{◌≡◌, ℕ, ◌*◌, ◌≤◌, get_or, ℤ, pos, ◌-ℤ◌, ◌*ℤ◌, sym, ap, ◌∙◌, subst, arith, w64, to_z, of_z, rules}
use Rattle.std.proofs.lemmas.Int.{ints}
use Rattle.numbers.specs.Sums.{Within}
use Rattle.numbers.proofs.Products.{Multiplied, multiplied}
use Rattle.rules.proofs.filled.Clearing.gain.Goals as goal

spread : (u v n : ℤ) (q : ℕ) (y own : ℤ) → u ≡ pos q → v ≡ y → n ≡ own → q ≤ 999 → Within 99999 y → Within 99999 own → Multiplied (to_z w64 (of_z w64 u))
    (to_z w64 (of_z w64 (to_z w64 (of_z w64 v) -ℤ to_z w64 (of_z w64 n)))) (pos q) (y -ℤ pos 1 *ℤ own) (999 * 199998)
spread u v n q y own e f g l s t = multiplied _ _ _ _ 999 199998 (omega (arith, ints)) (omega (arith, ints)) (omega (arith, ints), omega (arith, ints)) (omega (arith, ints), omega (arith, ints)) (omega arith)

pub overflow_mul-result : goal.overflow_mul-result
overflow_mul-result c = (spread c.from.result c.from-2.result c.from-3.result _ c.price-price.result c.args.sale.price c.from.ensures (search rules) (search rules) (c.args.sale.small c.args.p c.requires) c.price-price.ensures.small c.args.sale.priced).fits

pub returns : goal.returns
returns c =
    let p = spread c.from.result c.from-2.result c.from-3.result _ c.price-price.result c.args.sale.price c.from.ensures (search rules) (search rules) (c.args.sale.small c.args.p c.requires) c.price-price.ensures.small c.args.sale.priced in
    record {
      is = p.is ∙ ap (λ a. pos (get_or c.args.sale.quantities c.args.p 0) *ℤ (a -ℤ pos 1 *ℤ c.args.sale.price)) c.price-price.ensures.is;
      small = subst (Within 199798002) (sym p.is) p.small;
    }
