-- Laws of sum_to, each proved once for every f.
use Rattle.std.proofs.Common.{◌≡◌, ℕ, zero, suc, ◌+◌, ◌-◌, ◌*◌, ◌<◌, ◌≤◌, ◌⊎◌, ℤ, pos, negsuc, ◌+ℤ◌, neg_ℤ, ◌≤ℤ◌, sym, refl, ap, ◌∙◌, inl, inr, ⊎_elim, add-zero, add-suc, add-one, arith}
use lib.IntN.{+ℤ_idr}
use Rattle.std.proofs.lemmas.Int.{ints}
use Rattle.std.proofs.lemmas.Bool.{cases_eq}
use Rattle.numbers.specs.Sums.{sum_to, Within}

pub sum_ext : (n : ℕ) (f g : ℕ → ℤ) → ((i : ℕ) → i < n → f i ≡ g i) → sum_to n f ≡ sum_to n g
unfolding sum_to
sum_ext zero f g h = refl
sum_ext (suc n) f g h =
    let e = sum_ext n f g (λ i l. h i (omega arith)) in
    let l = h n (omega arith) in
    cc

pub sum_zero : (n : ℕ) (f : ℕ → ℤ) → ((i : ℕ) → i < n → f i ≡ pos 0) → sum_to n f ≡ pos 0
unfolding sum_to
sum_zero zero f h = refl
sum_zero (suc n) f h =
    let e = sum_zero n f (λ i l. h i (omega arith)) in
    let l = h n (omega arith) in
    omega (arith, ints)

pub sum_add : (n : ℕ) (f g : ℕ → ℤ) → sum_to n (λ i. f i +ℤ g i) ≡ sum_to n f +ℤ sum_to n g
unfolding sum_to
sum_add zero f g = refl
sum_add (suc n) f g = let e = sum_add n f g in omega (arith, ints)

pub sum_neg : (n : ℕ) (f : ℕ → ℤ) → sum_to n (λ i. neg_ℤ (f i)) ≡ neg_ℤ (sum_to n f)
unfolding sum_to
sum_neg zero f = refl
sum_neg (suc n) f = let e = sum_neg n f in omega (arith, ints)

pub sum_split : (a b : ℕ) (f : ℕ → ℤ) → sum_to (a + b) f ≡ sum_to a f +ℤ sum_to b (λ i. f (a + i))
unfolding sum_to
sum_split a zero f = rw add-zero (sym (+ℤ_idr (sum_to a f)))
sum_split a (suc b) f = let e = sum_split a b f in rw add-suc (omega (arith, ints))

-- what is added past n is 0
pub sum_trim : (n k : ℕ) (f : ℕ → ℤ) → ((i : ℕ) → n ≤ i → i < n + k → f i ≡ pos 0) → sum_to (n + k) f ≡ sum_to n f
sum_trim n k f h =
    let e = sum_split n k f in
    let z = sum_zero k (λ i. f (n + i)) (λ i l. h (n + i) (omega arith) (omega arith)) in
    omega (arith, ints)

-- a sum whose terms from n on are 0
pub sum_short : (n k : ℕ) (f : ℕ → ℤ) → n ≤ k → ((i : ℕ) → n ≤ i → f i ≡ pos 0) → sum_to k f ≡ sum_to n f
sum_short n k f l h =
    let e : n + (k - n) ≡ k = omega arith in
    ap (λ (j : ℕ). sum_to j f) (sym e) ∙ sum_trim n (k - n) f (λ i p q. h i p)

pub sum_nonneg : (n : ℕ) (f : ℕ → ℤ) → ((i : ℕ) → i < n → pos 0 ≤ℤ f i) → pos 0 ≤ℤ sum_to n f
unfolding sum_to
sum_nonneg zero f h = omega (arith, ints)
sum_nonneg (suc n) f h =
    let e = sum_nonneg n f (λ i l. h i (omega arith)) in
    let l = h n (omega arith) in
    omega (arith, ints)

-- one term alone
pub sum_one : (n j : ℕ) (f : ℕ → ℤ) → j < n → ((i : ℕ) → i < n → (i ≡ j → ⊥) → f i ≡ pos 0) → sum_to n f ≡ f j
unfolding sum_to
sum_one zero j f l h = absurd (omega arith)
sum_one (suc n) j f l h = ⊎_elim
    (λ (e : n ≡ j).
    let z = sum_zero n f (λ i k. h i (omega arith) (omega arith)) in
    let s : f n ≡ f j = ap f e in
    omega (arith, ints))
    (λ (d : n ≡ j → ⊥).
    let e = sum_one n j f (omega arith) (λ i k. h i (omega arith)) in
    let z = h n (omega arith) d in
    omega (arith, ints))
    (cases_eq n j)

-- a term, or two, is at most the sum of terms that are not negative
pub sum_over_one : (n j : ℕ) (f : ℕ → ℤ) → ((i : ℕ) → i < n → pos 0 ≤ℤ f i) → j < n → f j ≤ℤ sum_to n f
unfolding sum_to
sum_over_one zero j f h l = absurd (omega arith)
sum_over_one (suc n) j f h l = ⊎_elim
    (λ (e : n ≡ j).
    let z = sum_nonneg n f (λ i k. h i (omega arith)) in
    let s : f n ≡ f j = ap f e in
    omega (arith, ints))
    (λ (d : n ≡ j → ⊥).
    let e = sum_over_one n j f (λ i k. h i (omega arith)) (omega arith) in
    let z = h n (omega arith) in
    omega (arith, ints))
    (cases_eq n j)

pub sum_over_two : (n j k : ℕ) (f : ℕ → ℤ) → ((i : ℕ) → i < n → pos 0 ≤ℤ f i) → j < n → k < n → (j ≡ k → ⊥) → (f j +ℤ f k) ≤ℤ sum_to n f
unfolding sum_to
sum_over_two zero j k f h l o d = absurd (omega arith)
sum_over_two (suc n) j k f h l o d = ⊎_elim
    (λ (e : n ≡ j).
    let z = sum_over_one n k f (λ i p. h i (omega arith)) (omega arith) in
    let s : f n ≡ f j = ap f e in
    omega (arith, ints))
    (λ (a : n ≡ j → ⊥). ⊎_elim
    (λ (e : n ≡ k).
    let z = sum_over_one n j f (λ i p. h i (omega arith)) (omega arith) in
    let s : f n ≡ f k = ap f e in
    omega (arith, ints))
    (λ (b : n ≡ k → ⊥).
    let e = sum_over_two n j k f (λ i p. h i (omega arith)) (omega arith) (omega arith) d in
    let z = h n (omega arith) in
    omega (arith, ints))
    (cases_eq n k))
    (cases_eq n j)

cases_zero : (z : ℤ) → (z ≡ pos 0) ⊎ (z ≡ pos 0 → ⊥)
cases_zero (pos n) = ⊎_elim (λ (e : n ≡ 0). inl (ap pos e)) (λ (d : n ≡ 0 → ⊥). inr (λ e. omega (arith, ints))) (cases_eq n 0)
cases_zero (negsuc n) = inr (λ e. omega (arith, ints))

-- of any two terms one is 0: the sum is no more than a bound of each
pub sum_lone : (n : ℕ) (f : ℕ → ℤ) (d : ℤ) → pos 0 ≤ℤ d → ((i : ℕ) → i < n → f i ≤ℤ d)
    → ((i j : ℕ) → i < n → j < n → (i ≡ j → ⊥) → (f i ≡ pos 0) ⊎ (f j ≡ pos 0)) → sum_to n f ≤ℤ d
unfolding sum_to
sum_lone zero f d p b h = p
sum_lone (suc n) f d p b h = ⊎_elim
    (λ (e : f n ≡ pos 0).
    let s = sum_lone n f d p (λ i l. b i (omega arith)) (λ i j l k. h i j (omega arith) (omega arith)) in
    omega (arith, ints))
    (λ (e : f n ≡ pos 0 → ⊥).
    let z = sum_zero n f (λ i l. ⊎_elim (λ (u : f i ≡ pos 0). u) (λ (u : f n ≡ pos 0). absurd (e u)) (h i n (omega arith) (omega arith) (omega arith))) in
    let l = b n (omega arith) in
    omega (arith, ints))
    (cases_zero (f n))

-- the start and the step of a loop that sums
pub sum_start : (f : ℕ → ℤ) → sum_to 0 f ≡ pos 0
unfolding sum_to
sum_start f = refl

pub sum_more : (i : ℕ) (f : ℕ → ℤ) → sum_to (i + 1) f ≡ sum_to i f +ℤ f i
unfolding sum_to
sum_more i f = rw add-one refl

-- terms of a known size
pub sum_within : (n size : ℕ) (f : ℕ → ℤ) → ((i : ℕ) → i < n → Within size (f i)) → Within (n * size) (sum_to n f)
unfolding sum_to
sum_within zero size f h = (omega (arith, ints), omega (arith, ints))
sum_within (suc n) size f h =
    let e = sum_within n size f (λ i l. h i (omega arith)) in
    let l = h n (omega arith) in
    let m : suc n * size ≡ n * size + size = omega arith in
    (omega (arith, ints), omega (arith, ints))
