-- A loop that sums terms in 64 bits, once for every sum.
use Rattle.std.proofs.Common.{◌≡◌, ℕ, ◌+◌, ◌*◌, ◌^◌, ◌<◌, ◌≤◌, ℤ, pos, ◌+ℤ◌, sym, mul-le-mul_right, add-mul, arith, w64, FitsSigned, to_z, of_z}
use Rattle.std.proofs.lemmas.Int.{ints}
use Rattle.numbers.specs.Sums.{Summed, Term}
use Rattle.numbers.proofs.Sums.{sum_start, sum_more}

pub summed_none : (f : ℕ → ℤ) (size : ℕ) → Summed f size 0 (pos 0)
summed_none f size = record { is = sym (sum_start f); small = (omega (arith, ints), omega (arith, ints)) }

-- at most 1,024 terms, each at most 2^52 in size
pub summed_more : (f : ℕ → ℤ) (size n : ℕ) (z t : ℤ) → n < 1024 → size ≤ 2 ^ 52 → Summed f size n z → Term f size n t
    → Summed f size (n + 1) (to_z w64 (of_z w64 (z +ℤ to_z w64 (of_z w64 t))))
summed_more f size n z t few light s e =
    let a : (n + 1) * size ≡ n * size + size = omega (arith, add-mul n 1 size) in
    let b : n * size ≤ 1024 * size = mul-le-mul_right size (omega arith) in
    let m = sum_more n f in
    let u : to_z w64 (of_z w64 t) ≡ t = omega (arith, ints) in
    let v : to_z w64 (of_z w64 (z +ℤ to_z w64 (of_z w64 t))) ≡ z +ℤ t = omega (arith, ints) in
    record { is = omega (arith, ints); small = (omega (arith, ints), omega (arith, ints)) }

-- a term more, where the sum fits 64 bits
pub summed_step : (f : ℕ → ℤ) (size n : ℕ) (z t : ℤ) → FitsSigned w64 (z +ℤ to_z w64 (of_z w64 t)) → FitsSigned w64 t → Summed f size n z → Term f size n t
    → Summed f size (n + 1) (to_z w64 (of_z w64 (z +ℤ to_z w64 (of_z w64 t))))
summed_step f size n z t fits light s e =
    let a : (n + 1) * size ≡ n * size + size = omega (arith, add-mul n 1 size) in
    let m = sum_more n f in
    let u : to_z w64 (of_z w64 t) ≡ t = omega (arith, ints) in
    let v : to_z w64 (of_z w64 (z +ℤ to_z w64 (of_z w64 t))) ≡ z +ℤ t = omega (arith, ints) in
    record { is = omega (arith, ints); small = (omega (arith, ints), omega (arith, ints)) }

-- a term more fits where all the terms' sizes together do
pub sum_fits : (f : ℕ → ℤ) (size n count : ℕ) (z t : ℤ) → n < count → count * size < 2 ^ 63 → FitsSigned w64 t → Summed f size n z → Term f size n t
    → FitsSigned w64 (z +ℤ to_z w64 (of_z w64 t))
sum_fits f size n count z t few light own s e =
    let a : (n + 1) * size ≡ n * size + size = omega (arith, add-mul n 1 size) in
    let b : (n + 1) * size ≤ count * size = mul-le-mul_right size (omega arith) in
    let u : to_z w64 (of_z w64 t) ≡ t = omega (arith, ints) in
    omega (arith, ints)

-- where all terms are added
pub summed_all : (f : ℕ → ℤ) (size k n : ℕ) (z : ℤ) → k ≡ n → Summed f size k z → Summed f size n z
summed_all f size k n z e s = rw (← e) s
