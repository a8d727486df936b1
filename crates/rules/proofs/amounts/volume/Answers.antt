use Rattle.std.proofs.Common.{◌≡◌, ℕ, ◌*◌, ◌≤◌, ℤ, pos, arith, w64, to_z, of_z, rules}
use Rattle.std.proofs.lemmas.Int.{ints}
use Rattle.numbers.specs.Sums.{Within}
use Rattle.numbers.proofs.Products.{Multiplied, multiplied}
use Rattle.rules.proofs.amounts.volume.Goals as goal

product : (u v : ℤ) (q : ℕ) (x : ℤ) → u ≡ pos q → v ≡ x → q ≤ 9999 → Within 10000 x → Multiplied (to_z w64 (of_z w64 u)) (to_z w64 (of_z w64 v)) (pos q) x (9999 * 10000)
product u v q x e f l w = multiplied _ _ _ _ 9999 10000 (omega (arith, ints)) (omega (arith, ints)) (omega (arith, ints), omega (arith, ints)) w (omega arith)

pub overflow_mul-result : goal.overflow_mul-result
overflow_mul-result c = (product c.from.result c.from-2.result c.args.quantity c.args.parts (search rules) (search rules) c.requires.0 c.requires.1).fits

pub returns : goal.returns
returns c =
    let p = product c.from.result c.from-2.result c.args.quantity c.args.parts (search rules) (search rules) c.requires.0 c.requires.1 in
    (p.is, (omega (arith, ints), omega (arith, ints)))
