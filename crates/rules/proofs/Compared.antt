-- What a comparison of signed numbers, as the code makes it, tells of the numbers of the rules.
use Rattle.std.proofs.Common.{◌≡◌, ℕ, ◌<◌, false, ℤ, pos, ◌<ℤ◌, Decides, ◌∙◌, subst, arith, w32, w64, to_z, of_z}
use lib.Signed.{lt_z, mag}
use Rattle.std.proofs.lemmas.Int.{ints}
use Rattle.std.proofs.lemmas.Bool.{false≢true}
use Rattle.numbers.specs.Sums.{Within, Term}

-- a number that fits 32 bits, or 64, as it is handed to a function
abbrev pub cast : ℤ → ℤ
cast x = to_z w32 (of_z w32 x)

abbrev pub cast64 : ℤ → ℤ
cast64 x = to_z w64 (of_z w64 x)

pub casts : (x : ℤ) → Within 99999 x → cast x ≡ x
casts x w = omega (arith, ints)

pub casts_parts : (x : ℤ) → Within 10000 x → cast x ≡ x
casts_parts x w = omega (arith, ints)

pub casts64 : (x : ℤ) → mag x < 9223372036854775808 → cast64 x ≡ x
casts64 x w = omega (arith, ints)

pub refutes : {P : Type 0} → (P → ⊥) → Decides false P
refutes h = ((λ e. absurd (false≢true e)), λ p. absurd (h p))

decides_lt : (a b : ℤ) → Decides (lt_z a b) (a <ℤ b)
decides_lt a b = ((λ t. grind (arith, ints)), λ h. grind (arith, ints))

pub below_zero : (a x : ℤ) → mag a < 9223372036854775808 → a ≡ x → Decides (lt_z (cast64 a) (pos 0)) (x <ℤ pos 0)
below_zero a x p e = subst (λ z. Decides (lt_z (cast64 a) (pos 0)) (z <ℤ pos 0)) (casts64 a p ∙ e) (decides_lt (cast64 a) (pos 0))

-- an order has some parts
pub accepted : (x y : ℤ) → Within 10000 x → x ≡ y → Decides (lt_z (pos 0) (cast x)) (pos 0 <ℤ y)
accepted x y w e = subst (λ z. Decides (lt_z (pos 0) (cast x)) (pos 0 <ℤ z)) (casts_parts x w ∙ e) (decides_lt (pos 0) (cast x))

-- a term that is handed on in 64 bits
pub term_on : (f : ℕ → ℤ) (size k : ℕ) (z : ℤ) → size < 9223372036854775808 → Term f size k z → Term f size k (cast64 z)
term_on f size k z l t =
    let w = t.small in
    let e : cast64 z ≡ z = omega (arith, ints) in
    record { is = e ∙ t.is; small = (omega (arith, ints), omega (arith, ints)) }
