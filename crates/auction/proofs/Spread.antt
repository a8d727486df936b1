-- A sum over all 256 variables, as the sums over buys, baskets, and children and substitutes; and the sums of the few forms that the tables have.
use Rattle.std.proofs.Common.{◌≡◌, ℕ, ◌+◌, ◌-◌, ◌<◌, ◌≤◌, Bool, true, false, cond, ◌&&◌, eqb, ltb, ℤ, pos, ◌+ℤ◌, ◌*ℤ◌, refl, ap, ◌∙◌, ap₂, arith}
use lib.IntN.{zero-*ℤ}
use Rattle.std.proofs.lemmas.Bool.{cond-true, cond-false, lt-ltb, le-ltb, eq-eqb, ne_eqb}
use Rattle.numbers.specs.Sums.{sum_to}
use Rattle.numbers.proofs.Integers.{one_mul}
use Rattle.numbers.proofs.Sums.{sum_ext, sum_zero, sum_split, sum_one, sum_short}
use Rattle.auction.specs.Acceptance.{Numbers, spread, only, one_if}

pub buy_spread : (p : Numbers) (i : ℕ) → i < 64 → spread p i ≡ p.buys i
buy_spread p i l = cond-true (ltb i 64) _ _ (lt-ltb i 64 l)

pub basket_spread : (p : Numbers) (b : ℕ) → b < 96 → spread p (64 + b) ≡ p.baskets b
basket_spread p b l =
    let e : 64 + b - 64 ≡ b = omega arith in
    cond-false (ltb (64 + b) 64) _ _ (le-ltb (64 + b) 64 (omega arith))
    ∙ cond-true (ltb (64 + b) 160) _ _ (lt-ltb (64 + b) 160 (omega arith))
    ∙ ap p.baskets e

pub extra_spread : (p : Numbers) (k : ℕ) → k < 96 → spread p (160 + k) ≡ p.extras k
extra_spread p k l =
    let e : 160 + k - 160 ≡ k = omega arith in
    cond-false (ltb (160 + k) 64) _ _ (le-ltb (160 + k) 64 (omega arith))
    ∙ cond-false (ltb (160 + k) 160) _ _ (le-ltb (160 + k) 160 (omega arith))
    ∙ cond-true (ltb (160 + k) 256) _ _ (lt-ltb (160 + k) 256 (omega arith))
    ∙ ap p.extras e

-- the three sums
unfoldable pub over : Numbers → (ℕ → ℤ) → ℤ
over p X = sum_to 64 (λ i. p.buys i *ℤ X i) +ℤ (sum_to 96 (λ b. p.baskets b *ℤ X (64 + b)) +ℤ sum_to 96 (λ k. p.extras k *ℤ X (160 + k)))

pub spread_sum : (p : Numbers) (X : ℕ → ℤ) → sum_to 256 (λ v. spread p v *ℤ X v) ≡ over p X
unfolding over
spread_sum p X =
    let s = sum_split 64 192 (λ v. spread p v *ℤ X v) in
    let t = sum_split 96 96 (λ v. spread p (64 + v) *ℤ X (64 + v)) in
    let a = sum_ext 64 (λ i. spread p i *ℤ X i) (λ i. p.buys i *ℤ X i) (λ i l. ap (λ (z : ℤ). z *ℤ X i) (buy_spread p i l)) in
    let b = sum_ext 96 (λ i. spread p (64 + i) *ℤ X (64 + i)) (λ i. p.baskets i *ℤ X (64 + i)) (λ i l. ap (λ (z : ℤ). z *ℤ X (64 + i)) (basket_spread p i l)) in
    let c = sum_ext 96 (λ i. spread p (64 + (96 + i)) *ℤ X (64 + (96 + i))) (λ k. p.extras k *ℤ X (160 + k))
    (λ i l. let e : 64 + (96 + i) ≡ 160 + i = omega arith in
    ap (λ (v : ℕ). spread p v *ℤ X v) e ∙ ap (λ (z : ℤ). z *ℤ X (160 + i)) (extra_spread p i l)) in
    s ∙ ap₂ ◌+ℤ◌ a (t ∙ ap₂ ◌+ℤ◌ b c)

-- a column of zeros, with one entry, of tests
pub sum_none : (n : ℕ) (Y : ℕ → ℤ) → sum_to n (λ i. pos 0 *ℤ Y i) ≡ pos 0
sum_none n Y = sum_zero n (λ i. pos 0 *ℤ Y i) (λ i l. zero-*ℤ (Y i))

pub sum_only : (n j : ℕ) (c : ℤ) (Y : ℕ → ℤ) → j < n → sum_to n (λ i. only j c i *ℤ Y i) ≡ c *ℤ Y j
sum_only n j c Y l =
    sum_one n j (λ i. only j c i *ℤ Y i) l (λ i p d. ap (λ (z : ℤ). z *ℤ Y i) (cond-false (eqb i j) c (pos 0) (ne_eqb i j d)) ∙ zero-*ℤ (Y i))
    ∙ ap (λ (z : ℤ). z *ℤ Y j) (cond-true (eqb j j) c (pos 0) (eq-eqb j j refl))

if_times : (t : Bool) (y : ℤ) → one_if t *ℤ y ≡ cond t y (pos 0)
if_times true y = one_mul y
if_times false y = zero-*ℤ y

-- tests on the entered ones alone
pub sum_if : (n k : ℕ) (p : ℕ → Bool) (Y : ℕ → ℤ) → n ≤ k → sum_to k (λ i. one_if (ltb i n && p i) *ℤ Y i) ≡ sum_to n (λ i. cond (p i) (Y i) (pos 0))
sum_if n k p Y l =
    sum_short n k (λ i. one_if (ltb i n && p i) *ℤ Y i) l (λ i h. ap (λ (t : Bool). one_if (t && p i) *ℤ Y i) (le-ltb i n h) ∙ zero-*ℤ (Y i))
    ∙ sum_ext n (λ i. one_if (ltb i n && p i) *ℤ Y i) (λ i. cond (p i) (Y i) (pos 0)) (λ i h. ap (λ (t : Bool). one_if (t && p i) *ℤ Y i) (lt-ltb i n h) ∙ if_times (p i) (Y i))
