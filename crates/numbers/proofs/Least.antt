-- Laws of the least number that passes a test.
use Rattle.std.proofs.Common.{◌≡◌, ℕ, zero, suc, ◌+◌, ◌<◌, ◌≤◌, Bool, true, false, cond, ltb, sym, refl, ap, ◌∙◌, ⊎_elim, add-one, arith}
use Rattle.std.proofs.lemmas.Bool.{cases_lt, cond-true, cond-false, cond_both, lt-ltb, le-ltb, ltb-true}
use Rattle.numbers.specs.Searches.{least}

pub least_le : (p : ℕ → Bool) (n i : ℕ) → i < n → p i ≡ true → least p n ≤ i
unfolding least
least_le p zero i h t = absurd (omega arith)
least_le p (suc n) i h t = ⊎_elim
    (λ (e : i < n).
    let r = least_le p n i e t in
    let s : least p (suc n) ≡ least p n = cond-true (ltb (least p n) n) _ _ (lt-ltb (least p n) n (omega arith)) in
    omega arith)
    (λ (e : n ≤ i).
    let q : i ≡ n = omega arith in
    cond_both (ltb (least p n) n) _ _ (λ x. x ≤ i) (λ u. let u1 = ltb-true (least p n) n u in omega arith)
    (λ u. let s : cond (p n) n (suc n) ≡ n = cond-true (p n) n (suc n) (ap p (sym q) ∙ t) in omega arith))
    (cases_lt i n)

pub least_passes : (p : ℕ → Bool) (n : ℕ) → least p n < n → p (least p n) ≡ true
unfolding least
least_passes p zero = λ h. absurd (omega arith)
least_passes p (suc n) = cond_both (ltb (least p n) n) _ _ (λ x. x < suc n → p x ≡ true)
    (λ u h. least_passes p n (ltb-true (least p n) n u))
    (λ u. cond_both (p n) _ _ (λ x. x < suc n → p x ≡ true) (λ t h. t) (λ t h. absurd (omega arith)))

-- a search for the least: its start, a step past a number that does not pass, its end
pub least_start : (p : ℕ → Bool) → least p 0 ≡ 0
unfolding least
least_start p = refl

pub least_skip : (p : ℕ → Bool) (i : ℕ) → least p i ≡ i → p i ≡ false → least p (i + 1) ≡ i + 1
unfolding least
least_skip p i e t = rw add-one (cond-false (ltb (least p i) i) _ _ (le-ltb (least p i) i (omega arith)) ∙ cond-false (p i) i (suc i) t)

pub least_found : (p : ℕ → Bool) (n i : ℕ) → i < n → least p i ≡ i → p i ≡ true → least p n ≡ i
unfolding least
least_found p zero i h e t = absurd (omega arith)
least_found p (suc n) i h e t = ⊎_elim
    (λ (l : i < n).
    let r = least_found p n i l e t in
    cond-true (ltb (least p n) n) _ _ (lt-ltb (least p n) n (omega arith)) ∙ r)
    (λ (l : n ≤ i).
    let q : i ≡ n = omega arith in
    let r : least p n ≡ n = ap (least p) (sym q) ∙ e ∙ q in
    cond-false (ltb (least p n) n) _ _ (le-ltb (least p n) n (omega arith)) ∙ cond-true (p n) n (suc n) (ap p (sym q) ∙ t) ∙ sym q)
    (cases_lt i n)
