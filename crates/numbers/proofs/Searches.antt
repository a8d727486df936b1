-- A search among the numbers below n.
use Rattle.std.proofs.Common.{◌≡◌, ℕ, zero, suc, ◌+◌, ◌<◌, Bool, true, false, ◌||◌, Decides, sym, refl, ap, ◌∙◌, ⊎_elim, add-one, arith}
use Rattle.std.proofs.lemmas.Bool.{or_left, or_right, or_from, or_parts, or_cases, cases_eq}
use Rattle.std.proofs.lemmas.Bool.Decides.{Decides-below_or}
use Rattle.numbers.specs.Searches.{any_to}

pub any_none : (f : ℕ → Bool) → any_to 0 f ≡ false
unfolding any_to
any_none f = refl

pub any_some : (n i : ℕ) (f : ℕ → Bool) → i < n → f i ≡ true → any_to n f ≡ true
unfolding any_to
any_some zero i f h e = absurd (omega arith)
any_some (suc n) i f h e =
    ⊎_elim
    (λ (s : i ≡ n). or_left (f n) (any_to n f) (ap f (sym s) ∙ e))
    (λ (s : i ≡ n → ⊥). or_right (f n) (any_to n f) (any_some n i f (omega arith) e))
    (cases_eq i n)

pub any_more : (i : ℕ) (f : ℕ → Bool) → any_to i f ≡ false → f i ≡ false → any_to (i + 1) f ≡ false
unfolding any_to
any_more i f h e = ap (λ n. any_to n f) (add-one i) ∙ or_from (f i) (any_to i f) e h

pub any_decides : (n : ℕ) (f : ℕ → Bool) (P : ℕ → Type 0) → ((k : ℕ) → Decides (f k) (P k)) → Decides (any_to n f) ((k : ℕ) × (k < n) × P k)
unfolding any_to
any_decides n f P each = Decides-below_or f P (λ k. any_to k f) each refl (λ _. refl) n

pub any_not : (n i : ℕ) (f : ℕ → Bool) → any_to n f ≡ false → i < n → f i ≡ false
unfolding any_to
any_not zero i f e h = absurd (omega arith)
any_not (suc n) i f e h =
    let p = or_parts (f n) (any_to n f) e in
    ⊎_elim
    (λ (s : i ≡ n). ap f s ∙ p.0)
    (λ (s : i ≡ n → ⊥). any_not n i f p.1 (omega arith))
    (cases_eq i n)

-- two tests that agree below n
pub any_same : (n : ℕ) (f g : ℕ → Bool) → ((k : ℕ) → k < n → f k ≡ g k) → any_to n f ≡ any_to n g
unfolding any_to
any_same zero f g h = refl
any_same (suc n) f g h = ap (λ b. b || any_to n f) (h n (omega arith)) ∙ ap (λ b. g n || b) (any_same n f g (λ k l. h k (omega arith)))

pub any_decides_below : (n : ℕ) (f : ℕ → Bool) (P : ℕ → Type 0) → ((k : ℕ) → k < n → Decides (f k) (P k)) → Decides (any_to n f) ((k : ℕ) × (k < n) × P k)
unfolding any_to
any_decides_below zero f P each = ((λ h. grind arith), (λ x. absurd (omega (arith, x.1))))
any_decides_below (suc n) f P each =
    let before = any_decides_below n f P (λ k l. each k (omega arith)) in (
      (λ h. ⊎_elim (λ t. (n, omega arith, (each n (omega arith)).0 t)) (λ t. let x = before.0 t in (x.0, omega (arith, x.1), x.2)) (or_cases (f n) (any_to n f) h)),
      (λ x. any_some (suc n) x.0 f x.1 ((each x.0 x.1).1 x.2)),
    )
