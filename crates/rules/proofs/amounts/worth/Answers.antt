use Rattle.std.proofs.Common.{◌≡◌, ℕ, ◌*◌, ◌≤◌, ℤ, pos, ◌*ℤ◌, arith, w64, to_z, of_z, rules}
use Rattle.std.proofs.lemmas.Int.{ints}
use Rattle.numbers.specs.Sums.{Within}
use Rattle.numbers.proofs.Products.{Multiplied, multiplied}
use Rattle.rules.proofs.amounts.worth.Goals as goal

once : (u v p : ℤ) (q : ℕ) → u ≡ p → v ≡ pos q → Within 99999 p → q ≤ 9999 → Multiplied (to_z w64 (of_z w64 u)) (to_z w64 (of_z w64 v)) p (pos q) (99999 * q)
once u v p q e f w l = multiplied _ _ _ _ 99999 q (omega (arith, ints)) (omega (arith, ints)) w (omega (arith, ints), omega (arith, ints)) (omega arith)

twice : (u v p y x : ℤ) (q : ℕ) → u ≡ p → v ≡ pos q → y ≡ x → Within 99999 p → q ≤ 9999 → Within 10000 x → Multiplied
    (to_z w64 (of_z w64 (to_z w64 (of_z w64 u) *ℤ to_z w64 (of_z w64 v)))) (to_z w64 (of_z w64 y)) (p *ℤ pos q) x (99999 * q * 10000)
twice u v p y x q e f g w l s = let o = once u v p q e f w l in multiplied _ _ _ _ (99999 * q) 10000 o.is (omega (arith, ints)) o.small s (omega arith)

pub overflow_mul-result : goal.overflow_mul-result
overflow_mul-result c = (once c.from.result c.from-2.result c.args.price c.args.quantity (search rules) (search rules) c.requires.0 c.requires.1).fits

pub overflow_mul-result-2 : goal.overflow_mul-result-2
overflow_mul-result-2 c = (twice c.from.result c.from-2.result c.args.price c.from-3.result c.args.parts c.args.quantity (search rules) (search rules) (search rules) c.requires.0 c.requires.1 c.requires.2).fits

pub returns : goal.returns
returns c =
    let p = twice c.from.result c.from-2.result c.args.price c.from-3.result c.args.parts c.args.quantity (search rules) (search rules) (search rules) c.requires.0 c.requires.1 c.requires.2 in
    (p.is, (omega (arith, ints), omega (arith, ints)))
