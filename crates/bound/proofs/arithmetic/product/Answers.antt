-- The product of two numbers of 64 bits fits 128.
use Rattle.std.proofs.Common.{◌≡◌, ◌*ℤ◌, arith, w64, SFits, to_z, of_z, ap, ◌∙◌, ap₂, rules}
use borrow.Author.Numbers.{signed_product}
use mir.Syntax.{w128}
use Rattle.std.proofs.lemmas.Int.{ints, to_z-of_z}
use Rattle.bound.specs.Leaves.{kept}
use Rattle.bound.proofs.arithmetic.product.Goals as goal

pub returns : goal.returns
returns c =
    let a : SFits w64 c.args.a = c.ranges.a in
    let b : SFits w64 c.args.b = c.ranges.b in
    let a_wide : SFits w128 c.args.a = omega (arith, ints) in
    let b_wide : SFits w128 c.args.b = omega (arith, ints) in
    let x : to_z w128 (of_z w128 c.from.result) ≡ c.args.a = search rules in
    let y : to_z w128 (of_z w128 c.from-2.result) ≡ c.args.b = search rules in
    let fits : SFits w128 (c.args.a *ℤ c.args.b) = simp to_z-of_z at (signed_product w128 w64 w64 _ _ a b tt) in
    c.kept.ensures ∙ ap kept (ap (λ z. to_z w128 (of_z w128 z)) (ap₂ ◌*ℤ◌ x y) ∙ to_z-of_z w128 _ fits)
