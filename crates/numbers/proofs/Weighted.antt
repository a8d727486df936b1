-- Sums of products: a factor taken out of all of them, two of them added, all negated, and none.
use Rattle.std.proofs.Common.{◌≡◌, ℕ, zero, suc, ℤ, pos, ◌+ℤ◌, ◌*ℤ◌, neg_ℤ, sym, refl, ap, ◌∙◌, arith}
use lib.IntN.{zero-*ℤ}
use Rattle.std.proofs.lemmas.Int.{ints}
use Rattle.numbers.specs.Sums.{sum_to}
use Rattle.numbers.proofs.Integers.{mul_assoc, add_mul, mul_add, neg_mul}
use Rattle.numbers.proofs.Sums.{sum_ext, sum_neg}

pub weighted_mul : (n : ℕ) (a : ℤ) (c x : ℕ → ℤ) → a *ℤ sum_to n (λ v. c v *ℤ x v) ≡ sum_to n (λ v. (a *ℤ c v) *ℤ x v)
unfolding sum_to
weighted_mul zero a c x = omega (arith, ints)
weighted_mul (suc n) a c x =
    mul_add a (sum_to n (λ v. c v *ℤ x v)) (c n *ℤ x n) ∙ ap (λ z. z +ℤ (a *ℤ (c n *ℤ x n))) (weighted_mul n a c x)
    ∙ ap (λ z. sum_to n (λ v. (a *ℤ c v) *ℤ x v) +ℤ z) (sym (mul_assoc a (c n) (x n)))

pub weighted_add : (n : ℕ) (c k x : ℕ → ℤ) → sum_to n (λ v. (c v +ℤ k v) *ℤ x v) ≡ sum_to n (λ v. c v *ℤ x v) +ℤ sum_to n (λ v. k v *ℤ x v)
unfolding sum_to
weighted_add zero c k x = omega (arith, ints)
weighted_add (suc n) c k x = omega (arith, ints, weighted_add n c k x, add_mul (c n) (k n) (x n))

pub weighted_zero : (n : ℕ) (c x : ℕ → ℤ) → ((v : ℕ) → c v ≡ pos 0) → sum_to n (λ v. c v *ℤ x v) ≡ pos 0
unfolding sum_to
weighted_zero zero c x h = refl
weighted_zero (suc n) c x h = omega (arith, ints, weighted_zero n c x h, ap (λ z. z *ℤ x n) (h n), zero-*ℤ (x n))

pub weighted_neg : (n : ℕ) (c x : ℕ → ℤ) → sum_to n (λ v. neg_ℤ (c v) *ℤ x v) ≡ neg_ℤ (sum_to n (λ v. c v *ℤ x v))
weighted_neg n c x = sum_ext n (λ v. neg_ℤ (c v) *ℤ x v) (λ v. neg_ℤ (c v *ℤ x v)) (λ v l. neg_mul (c v) (x v)) ∙ sum_neg n (λ v. c v *ℤ x v)

-- one factor for all terms
pub sum_times : (n : ℕ) (f : ℕ → ℤ) (y : ℤ) → sum_to n (λ i. f i *ℤ y) ≡ sum_to n f *ℤ y
unfolding sum_to
sum_times zero f y = sym (zero-*ℤ y)
sum_times (suc n) f y = ap (λ (z : ℤ). z +ℤ f n *ℤ y) (sum_times n f y) ∙ sym (add_mul (sum_to n f) (f n) y)
