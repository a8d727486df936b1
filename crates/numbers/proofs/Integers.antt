-- Laws of products of whole numbers.
use Rattle.std.proofs.Common.{◌≡◌, ℕ, zero, suc, ◌*◌, ℤ, pos, negsuc, ◌+ℤ◌, ◌*ℤ◌, neg_ℤ, ◌≤ℤ◌, ◌<ℤ◌, sym, refl, ap, ◌∙◌, mul-le-mul_left, arith}
use borrow.Author.Differences.{up, down, sum_is_lem, product_is, le_out}
use lib.IntN.{zero-*ℤ, *ℤ_comm}
use Rattle.std.specs.Int.{int_max}
use Rattle.std.proofs.lemmas.Int.{ints, clamps}

pub mul_assoc : (a b c : ℤ) → (a *ℤ b) *ℤ c ≡ a *ℤ (b *ℤ c)
mul_assoc a b c =
    let left = product_is a b in
    let right = product_is b c in
    omega (
      arith,
      ints,
      ap (λ n. n * up c) left.0,
      ap (λ n. n * down c) left.0,
      ap (λ n. n * up c) left.1,
      ap (λ n. n * down c) left.1,
      ap (λ n. up a * n) right.0,
      ap (λ n. down a * n) right.0,
      ap (λ n. up a * n) right.1,
      ap (λ n. down a * n) right.1,
    )

pub add_mul : (a b c : ℤ) → (a +ℤ b) *ℤ c ≡ (a *ℤ c) +ℤ (b *ℤ c)
add_mul a b c = omega (arith, ints, ap (λ n. n * up c) (sum_is_lem a b), ap (λ n. n * down c) (sum_is_lem a b))

pub mul_add : (a b c : ℤ) → a *ℤ (b +ℤ c) ≡ (a *ℤ b) +ℤ (a *ℤ c)
mul_add a b c = omega (arith, ints, ap (λ n. up a * n) (sum_is_lem b c), ap (λ n. down a * n) (sum_is_lem b c))

pub neg_mul : (a b : ℤ) → neg_ℤ a *ℤ b ≡ neg_ℤ (a *ℤ b)
neg_mul (pos zero) b = zero-*ℤ b ∙ sym (ap neg_ℤ (zero-*ℤ b))
neg_mul (pos (suc a)) (pos b) = refl
neg_mul (pos (suc a)) (negsuc b) = omega (arith, ints)
neg_mul (negsuc a) (pos b) = omega (arith, ints)
neg_mul (negsuc a) (negsuc b) = refl

pub mul_neg : (a b : ℤ) → a *ℤ neg_ℤ b ≡ neg_ℤ (a *ℤ b)
mul_neg a b = *ℤ_comm a (neg_ℤ b) ∙ neg_mul b a ∙ ap neg_ℤ (*ℤ_comm b a)

pub one_mul : (a : ℤ) → pos 1 *ℤ a ≡ a
one_mul a = omega (arith, ints)

-- the sign of a product with a factor above 0
pub sign_in : (x g : ℤ) → pos 0 <ℤ x → pos 0 ≤ℤ g → pos 0 ≤ℤ (x *ℤ g)
sign_in (pos zero) g h k = absurd (omega (arith, ints))
sign_in (pos (suc n)) (pos a) h k = omega (arith, ints)
sign_in (pos (suc n)) (negsuc a) h k = absurd (omega (arith, ints))
sign_in (negsuc n) g h k = absurd (omega (arith, ints))

pub sign_out : (x g : ℤ) → pos 0 <ℤ x → pos 0 ≤ℤ (x *ℤ g) → pos 0 ≤ℤ g
sign_out (pos zero) g h k = absurd (omega (arith, ints))
sign_out (pos (suc n)) (pos a) h k = omega (arith, ints)
sign_out (pos (suc n)) (negsuc a) h k = absurd (omega (arith, ints))
sign_out (negsuc n) g h k = absurd (omega (arith, ints))

-- by a number that is not negative
pub mul_le : (n : ℕ) (a b : ℤ) → a ≤ℤ b → (pos n *ℤ a) ≤ℤ (pos n *ℤ b)
mul_le n a b h = omega (arith, ints, mul-le-mul_left n (le_out a b h))

-- by one that is negative
pub mul_ge : (n : ℕ) (a b : ℤ) → a ≤ℤ b → (negsuc n *ℤ b) ≤ℤ (negsuc n *ℤ a)
mul_ge n a b h = omega (arith, ints, mul-le-mul_left (suc n) (le_out a b h))

pub mul_le_right : (d : ℕ) (a b : ℤ) → a ≤ℤ b → (a *ℤ pos d) ≤ℤ (b *ℤ pos d)
mul_le_right d a b h = omega (arith, ints, mul-le-mul_left d (le_out a b h))

pub le_max_left : (a b : ℤ) → a ≤ℤ int_max a b
le_max_left a b = omega (arith, ints, clamps)

pub le_max_right : (a b : ℤ) → b ≤ℤ int_max a b
le_max_right a b = omega (arith, ints, clamps)

le_chain : (a b c e : ℤ) → a ≤ℤ b → c ≡ b → c ≤ℤ e → a ≤ℤ e
le_chain a b c e h same k = omega (arith, ints)

-- between two limits, each times d, a product is at most the greater of those at the limits
pub mul_max : (r low high x : ℤ) (d : ℕ) → (low *ℤ pos d) ≤ℤ x → x ≤ℤ (high *ℤ pos d) → (r *ℤ x) ≤ℤ (int_max (r *ℤ low) (r *ℤ high) *ℤ pos d)
mul_max (pos n) low high x d from to =
    le_chain _ _ _ _ (mul_le n x (high *ℤ pos d) to) (mul_assoc (pos n) high (pos d))
    (mul_le_right d (pos n *ℤ high) _ (le_max_right (pos n *ℤ low) (pos n *ℤ high)))
mul_max (negsuc n) low high x d from to =
    le_chain _ _ _ _ (mul_ge n (low *ℤ pos d) x from) (mul_assoc (negsuc n) low (pos d))
    (mul_le_right d (negsuc n *ℤ low) _ (le_max_left (negsuc n *ℤ low) (negsuc n *ℤ high)))
