-- Results that were accepted.
use Rattle.std.proofs.Common.{◌≡◌, ℕ, Bool, true, false, cond, IfOk, Ok, Err, Result, refl, arith}
use Rattle.bound.specs.declared.faults.Fault.{Fault}
use Rattle.bound.specs.declared.faults.Refusal.{Refusal}
use Rattle.bound.specs.Steps.{refuse, and_then}

pub never : {A : Type 0} (e : Refusal) (x : A) → ◌≡◌ {A = Result A Refusal} (Err e) (Ok x) → ⊥
never e x h = let z : ◌≡◌ {A = ℕ} 0 1 = cc in omega arith

pub inside : {A : Type 0} (x y : A) → ◌≡◌ {A = Result A Refusal} (Ok x) (Ok y) → x ≡ y
inside x y h = cc

-- what holds in any case holds where something was made
pub made_always : {A : Type 0} {P : Type 0} (r : Result A Refusal) → P → IfOk r (λ _. P)
made_always (Ok x) p = p
made_always (Err e) p = tt

-- where both parts were accepted
pub then_ok : {A B : Type 0} (r : Result A Refusal) (f : A → Result B Refusal) (y : B) → and_then r f ≡ Ok y → (x : A) × (r ≡ Ok x) × (f x ≡ Ok y)
then_ok (Ok x) f y h = (x, refl, h)
then_ok (Err e) f y h = absurd (never e y h)

-- a test that refuses did not, and one that must pass did
pub not_refused : {A : Type 0} (b : Bool) (f : Fault) (p : ℕ) (r : Result A Refusal) (x : A) → cond b (refuse f p) r ≡ Ok x → (b ≡ false) × (r ≡ Ok x)
not_refused true f p r x h = absurd (never _ x h)
not_refused false f p r x h = (refl, h)

pub was_passed : {A : Type 0} (b : Bool) (f : Fault) (p : ℕ) (r : Result A Refusal) (x : A) → cond b r (refuse f p) ≡ Ok x → (b ≡ true) × (r ≡ Ok x)
was_passed true f p r x h = (refl, h)
was_passed false f p r x h = absurd (never _ x h)
