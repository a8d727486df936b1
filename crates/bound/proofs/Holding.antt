-- The search among the held variables.
use Rattle.std.proofs.Common.{◌≡◌, ℕ, suc, ◌+◌, ◌<◌, ◌≤◌, Bool, true, false, cond, eqb, ltb, List, [], ◌∷◌, ◌++◌, length, set, ℤ, Some, None, Option, Ok, sym, refl, ap, ◌∙◌, arith, le-ltb, lt-ltb, le-leb}
use Rattle.std.specs.Option.{option_map}
use Rattle.std.specs.List.{find, position, position_or_len}
use Rattle.std.proofs.lemmas.Bool.{cond-true, cond-false, ltb-true, ltb-false}
use Rattle.std.proofs.lemmas.List.Recursion.{is_position_or_len}
use Rattle.bound.specs.declared.faults.Fault.TheVariants.{TooDeep}
use Rattle.bound.specs.Tables.{Small}
use Rattle.bound.specs.declared.fixing.Held.{Held}
use Rattle.bound.specs.Layers.{held_or, held_at, place, with_held, barred, hold_answer}

-- a variable that is held, and one that is not
some_at : (c : Bool) (a : Held) (y rest : ℤ) (o : Option Held) → Some y ≡ option_map (λ h. h.value) (cond c (Some a) o) → (Some y ≡ option_map (λ h. h.value) o → rest ≡ y) → cond c a.value rest ≡ y
some_at true a y rest o e later = cc
some_at false a y rest o e later = later e

none_at : (c : Bool) (a : Held) (z rest : ℤ) (o : Option Held) → None ≡ option_map (λ h. h.value) (cond c (Some a) o) → (None ≡ option_map (λ h. h.value) o → rest ≡ z) → cond c a.value rest ≡ z
none_at true a z rest o e later = cc
none_at false a z rest o e later = later e

pub held_some : (v : ℕ) (z y : ℤ) (hs : List Held) → Some y ≡ held_at v hs → held_or v z hs ≡ y
held_some v z y [] e = cc
held_some v z y (h ∷ hs) e = some_at (eqb h.variable v) h y _ (find (λ h. eqb h.variable v) hs) e (held_some v z y hs)

pub held_none : (v : ℕ) (z : ℤ) (hs : List Held) → None ≡ held_at v hs → held_or v z hs ≡ z
held_none v z [] e = refl
held_none v z (h ∷ hs) e = none_at (eqb h.variable v) h z _ (find (λ h. eqb h.variable v) hs) e (held_none v z hs)

-- a limit of a fixing: the value of a held variable, and else the limit below
pub limit_held : (v n : ℕ) (z y x : ℤ) (hs : List Held) → x ≡ y → Some y ≡ held_at v hs → v < n → x ≡ cond (ltb v n) (held_or v z hs) z
limit_held v n z y x hs same held known = same ∙ sym (cond-true _ _ _ (lt-ltb v n known) ∙ held_some v z y hs held)

pub limit_past : (v n : ℕ) (z x : ℤ) (hs : List Held) → x ≡ z → n ≤ v → x ≡ cond (ltb v n) (held_or v z hs) z
limit_past v n z x hs same past = same ∙ sym (cond-false _ _ _ (le-ltb v n past))

same_both : (c : Bool) (y z : ℤ) → y ≡ z → cond c y z ≡ z
same_both true y z e = e
same_both false y z e = refl

pub limit_other : (v n : ℕ) (z x : ℤ) (hs : List Held) → x ≡ z → None ≡ held_at v hs → x ≡ cond (ltb v n) (held_or v z hs) z
limit_other v n z x hs same other = same ∙ sym (same_both (ltb v n) (held_or v z hs) z (held_none v z hs other))

pub place_le : (v : ℕ) (hs : List Held) → place v hs ≤ length hs
place_le v [] = omega arith
place_le v (h ∷ hs) =
    let rest = place_le v hs in
    elim (eqb h.variable v) as (λ b. cond b 0 (1 + place v hs) ≤ suc (length hs)) [ true ↦ omega arith | false ↦ omega arith ]

never_some : (n : ℕ) → ◌≡◌ {A = Option ℕ} (Some n) None → ⊥
never_some n e = let z : ◌≡◌ {A = ℕ} 0 1 = cc in omega arith

found_at : (n m at : ℕ) (c : Bool) → c ≡ ltb n m → Some at ≡ cond c (Some n) None → (n ≡ at) × (at < m)
found_at n m at true is e = let same : n ≡ at = cc in (same, omega (arith, ltb-true n m (sym is)))
found_at n m at false is e = absurd (never_some at e)

none_found : (n m : ℕ) (c : Bool) → c ≡ ltb n m → None ≡ cond c (Some n) None → m ≤ n
none_found n m true is e = absurd (never_some n (sym e))
none_found n m false is e = ltb-false n m (sym is)

-- where a variable is held, and where it would be put
module _ (v : ℕ) (hs : List Held) where
  first : place v hs ≡ position_or_len (λ h. eqb h.variable v) hs
  first = is_position_or_len (place v) (λ h. eqb h.variable v) refl (λ x xs. refl) hs

  pub place_some : (at : ℕ) → Some at ≡ position (λ h. eqb h.variable v) hs → (place v hs ≡ at) × (at < length hs)
  place_some at e = let h = found_at _ (length hs) at _ refl e in (first ∙ h.0, h.1)

  pub place_none : None ≡ position (λ h. eqb h.variable v) hs → place v hs ≡ length hs
  place_none e = let h = none_found _ (length hs) _ refl e in omega (arith, first, place_le v hs)

-- h in its place, and h where its variable is not held
pub put_again : (hs : List Held) (h : Held) (at : ℕ) → place h.variable hs ≡ at → at < length hs → set hs at h ≡ with_held hs h
put_again hs h at is within = ap (λ i. set hs i h) (sym is) ∙ sym (cond-true _ _ _ (lt-ltb (place h.variable hs) (length hs) (omega arith)))

pub put_last : (hs : List Held) (h : Held) → place h.variable hs ≡ length hs → hs ++ h ∷ [] ≡ with_held hs h
put_last hs h free = sym (cond-false _ _ _ (le-ltb (place h.variable hs) (length hs) (omega arith)))

-- nothing stands in the way
pub may_hold : (n : ℕ) (hs : List Held) (h : Held) → Small h.value → h.variable < n → place h.variable hs < 64 → Ok tt ≡ hold_answer n hs h
may_hold n hs h small known free = sym (simp (le-leb _ _ small, lt-ltb _ _ known, lt-ltb _ _ free))

pub no_room : (n : ℕ) (hs : List Held) (h : Held) → Small h.value → h.variable < n → 64 ≤ place h.variable hs → barred TooDeep h ≡ hold_answer n hs h
no_room n hs h small known full = sym (simp (le-leb _ _ small, lt-ltb _ _ known, le-ltb _ _ full))
