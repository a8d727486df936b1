-- One call more: what is best, and what is least, after it; and that a past has one best and one least.
use Rattle.std.proofs.Common.{◌≡◌, ℕ, zero, suc, ◌<◌, ◌≤◌, Bool, true, false, cond, ◌⊎◌, List, [], ◌∷◌, ◌++◌, length, get_or, ℤ, ◌≤ℤ◌, Some, None, Option, sym, refl, ap, ◌∙◌, subst, inl, inr, ⊎_elim, arith}
use lib.Signed.{lt_z}
use Rattle.std.proofs.lemmas.Int.{ints}
use Rattle.std.proofs.lemmas.List.{get_or_push, get_or_append_left, length_push}
use Rattle.std.proofs.lemmas.Bool.{cases_lt, cases_order, cases_Bool, cond-true, cond-false}
use Rattle.console.specs.Best.{OfferAt, Best, Given, Least, Ranks}
use Rattle.console.specs.Steps.{lower}

pub some_not_none : {x : ℤ} {o : Option ℤ} → o ≡ Some x → o ≡ None → ⊥
some_not_none p q = cc

pub some_is : {x y : ℤ} → ◌≡◌ {A = Option ℤ} (Some x) (Some y) → x ≡ y
some_is e = cc

same_le : (a b : ℤ) → ◌≡◌ {A = Option ℤ} (Some a) (Some b) → a ≤ℤ b
same_le a b e = let i : a ≡ b = cc in omega (arith, ints)

under_left : (x a b y : ℤ) → cond (lt_z x a) x a ≡ b → a ≤ℤ y → b ≤ℤ y
under_left x a b y e h = grind (arith, ints)

under_right : (x a b y : ℤ) → cond (lt_z x a) x a ≡ b → x ≡ y → b ≤ℤ y
under_right x a b y e h = grind (arith, ints)

clash : {b : Bool} → b ≡ true → b ≡ false → ⊥
clash p q = cc

both_le : (x y : ℤ) → x ≤ℤ y → y ≤ℤ x → x ≡ y
both_le x y h k = omega (arith, ints)

module _ {C H : Type 0} (none : C) (start : H) (offers : C → H → Type 0) (better : H → H → Bool) where
  -- a call of the past is where it was, and the new one stands last
  was : (past : List C) (c : C) (j : ℕ) → j < length past → get_or (past ++ c ∷ []) j none ≡ get_or past j none
  was past c j h = get_or_append_left past (c ∷ []) none j h

  here : (past : List C) (c : C) → get_or (past ++ c ∷ []) (length past) none ≡ c
  here past c = get_or_push past c none (length past) refl

  offer_was : (past : List C) (c : C) (j : ℕ) (h : H) → j ≤ length past → OfferAt none start offers past j h → OfferAt none start offers (past ++ c ∷ []) j h
  offer_was past c zero h l o = o
  offer_was past c (suc j) h l o = subst (λ (x : C). offers x h) (sym (was past c j (omega arith))) o

  offer_back : (past : List C) (c : C) (j : ℕ) (h : H) → j ≤ length past → OfferAt none start offers (past ++ c ∷ []) j h → OfferAt none start offers past j h
  offer_back past c zero h l o = o
  offer_back past c (suc j) h l o = subst (λ (x : C). offers x h) (was past c j (omega arith)) o

  offer_here : (past : List C) (c : C) (h : H) → offers c h → OfferAt none start offers (past ++ c ∷ []) (suc (length past)) h
  offer_here past c h o = subst (λ (x : C). offers x h) (sym (here past c)) o

  offer_last : (past : List C) (c : C) (j : ℕ) (h : H) → j ≡ suc (length past) → OfferAt none start offers (past ++ c ∷ []) j h → offers c h
  offer_last past c j h e o =
      let p : OfferAt none start offers (past ++ c ∷ []) (suc (length past)) h = subst (λ (n : ℕ). OfferAt none start offers (past ++ c ∷ []) n h) e o in
      subst (λ (x : C). offers x h) (here past c) p

  pub best_none : Best none start offers better [] start 0
  best_none = record {
    made = omega arith;
    offered = refl;
    first = λ j g m o. absurd (omega arith);
    best = λ j g m w o. absurd (omega arith);
  }

  -- the best one stays, if the call offers nothing better
  pub best_stays : (past : List C) (c : C) (h : H) (k : ℕ) → Best none start offers better past h k → ((g : H) → offers c g → better g h ≡ false) → Best none start offers better (past ++ c ∷ []) h k
  best_stays past c h k p n =
      let l = length_push past c in
      record {
        made = omega (arith, p.made);
        offered = offer_was past c k h p.made p.offered;
        first = λ j g b e. p.first j g b (offer_back past c j g (omega (arith, p.made)) e);
        best = λ j g b w e.
            ⊎_elim
            (λ (m : j < suc (length past)). p.best j g b (omega arith) (offer_back past c j g (omega arith) e))
            (λ (m : suc (length past) ≤ j). n g (offer_last past c j g (omega arith) e))
            (cases_lt j (suc (length past)));
      }

  -- a moment has one offer
  pub offer_one : ((c : C) (g h : H) → offers c g → offers c h → g ≡ h) → (past : List C) (k : ℕ) (g h : H) → OfferAt none start offers past k g → OfferAt none start offers past k h → g ≡ h
  offer_one one past zero g h o q = o ∙ sym q
  offer_one one past (suc k) g h o q = one (get_or past k none) g h o q

  -- who beats the best one beats every one that was on offer
  beats : Ranks better → ((c : C) (g h : H) → offers c g → offers c h → g ≡ h) → (past : List C) (h : H) (k : ℕ) → Best none start offers better past h k
      → (g : H) → better g h ≡ true → (j : ℕ) (f : H) → j ≤ length past → OfferAt none start offers past j f → better g f ≡ true
  beats r one past h k p g b j f m e =
      ⊎_elim
      (λ (z : j ≡ k).
      let q : OfferAt none start offers past k f = subst (λ (n : ℕ). OfferAt none start offers past n f) z e in
      subst (λ (x : H). better g x ≡ true) (offer_one one past k h f p.offered q) b)
      (⊎_elim
      (λ (z : j < k). r.over g h f b (p.first j f z e))
      (λ (z : k < j). r.through g h f b (p.best j f z m e)))
      (cases_order j k)

  -- a better one is the best from this call on
  pub best_new : Ranks better → ((c : C) (g h : H) → offers c g → offers c h → g ≡ h) → (past : List C) (c : C) (h : H) (k : ℕ) → Best none start offers better past h k
      → (g : H) → offers c g → better g h ≡ true → Best none start offers better (past ++ c ∷ []) g (suc (length past))
  best_new r one past c h k p g o b =
      let l = length_push past c in
      record {
        made = omega arith;
        offered = offer_here past c g o;
        first = λ j f m e. beats r one past h k p g b j f (omega arith) (offer_back past c j f (omega arith) e);
        best = λ j f m w e. absurd (omega arith);
      }

  pub best_one : ((c : C) (g h : H) → offers c g → offers c h → g ≡ h) → (past : List C) (h g : H) (k j : ℕ) → Best none start offers better past h k → Best none start offers better past g j → (k ≡ j) × (h ≡ g)
  best_one one past h g k j p q =
      ⊎_elim
      (λ (z : k ≡ j).
      let o : OfferAt none start offers past j h = subst (λ (n : ℕ). OfferAt none start offers past n h) z p.offered in
      (z, offer_one one past j h g o q.offered))
      (⊎_elim
      (λ (z : k < j). absurd (clash (q.first k h z p.offered) (p.best j g z q.made q.offered)))
      (λ (z : j < k). absurd (clash (p.first j g z q.offered) (q.best k h z p.made p.offered))))
      (cases_order k j)

module _ {C : Type 0} (none : C) (f : C → Option ℤ) where
  given_was : (past : List C) (c : C) (k : ℕ) (x : ℤ) → Given none f past k x → Given none f (past ++ c ∷ []) k x
  given_was past c k x g =
      let l = length_push past c in
      record { place = g.place; since = g.since; within = omega (arith, g.within); put = ap f (get_or_append_left past (c ∷ []) none g.place g.within) ∙ g.put }

  -- what is put forward is put forward by the past, or by the last call
  given_cases : (past : List C) (c : C) (k : ℕ) (x : ℤ) → Given none f (past ++ c ∷ []) k x → Given none f past k x ⊎ (f c ≡ Some x)
  given_cases past c k x g =
      let l = length_push past c in
      ⊎_elim
      (λ (m : g.place < length past). inl (record { place = g.place; since = g.since; within = m; put = sym (ap f (get_or_append_left past (c ∷ []) none g.place m)) ∙ g.put }))
      (λ (m : length past ≤ g.place).
      let e : g.place ≡ length past = omega (arith, g.within) in
      inr (sym (ap f (get_or_push past c none g.place (sym e))) ∙ g.put))
      (cases_lt g.place (length past))

  given_here : (past : List C) (c : C) (k : ℕ) (x : ℤ) → k ≤ length past → f c ≡ Some x → Given none f (past ++ c ∷ []) k x
  given_here past c k x m e =
      let l = length_push past c in
      record { place = length past; since = m; within = omega arith; put = ap f (get_or_push past c none (length past) refl) ∙ e }

  pub least_none : (past : List C) (k : ℕ) → length past ≤ k → Least none f past k None
  least_none past k m = record {
    nothing = λ e x g. omega (arith, g.since, g.within);
    some = λ b e. absurd (some_not_none e refl);
    least = λ b e. absurd (some_not_none e refl);
  }

  -- the call puts nothing forward
  pub least_stays : (past : List C) (c : C) (k : ℕ) (o : Option ℤ) → Least none f past k o → f c ≡ None → Least none f (past ++ c ∷ []) k o
  least_stays past c k o p n = record {
    nothing = λ e x g. ⊎_elim (p.nothing e x) (λ (m : f c ≡ Some x). some_not_none m n) (given_cases past c k x g);
    some = λ b e. given_was past c k b (p.some b e);
    least = λ b e x g. ⊎_elim (p.least b e x) (λ (m : f c ≡ Some x). absurd (some_not_none m n)) (given_cases past c k x g);
  }

  -- the call puts x forward
  pub least_more : (past : List C) (c : C) (k : ℕ) (o : Option ℤ) → Least none f past k o → k ≤ length past → (x : ℤ) → f c ≡ Some x → Least none f (past ++ c ∷ []) k (lower o x)
  least_more past c k None p m x n = record {
    nothing = λ e y g. some_not_none {x = x} refl e;
    some = λ b e. given_here past c k b m (n ∙ e);
    least = λ b e y g. ⊎_elim (λ (q : Given none f past k y). absurd (p.nothing refl y q)) (λ (q : f c ≡ Some y). same_le b y (sym e ∙ sym n ∙ q)) (given_cases past c k y g);
  }
  least_more past c k (Some a) p m x n = record {
    nothing = λ e y g. some_not_none {x = cond (lt_z x a) x a} refl e;
    some = λ b e.
        ⊎_elim
        (λ (t : lt_z x a ≡ true). given_here past c k b m (n ∙ (sym (ap Some (cond-true (lt_z x a) x a t)) ∙ e)))
        (λ (t : lt_z x a ≡ false). given_was past c k b (p.some b (sym (ap Some (cond-false (lt_z x a) x a t)) ∙ e)))
        (cases_Bool (lt_z x a));
    least = λ b e y g.
        ⊎_elim
        (λ (q : Given none f past k y). under_left x a b y (some_is e) (p.least a refl y q))
        (λ (q : f c ≡ Some y). under_right x a b y (some_is e) (some_is (sym n ∙ q)))
        (given_cases past c k y g);
  }

  pub least_one : (past : List C) (k : ℕ) (o p : Option ℤ) → Least none f past k o → Least none f past k p → o ≡ p
  least_one past k None None a b = refl
  least_one past k None (Some y) a b = absurd (a.nothing refl y (b.some y refl))
  least_one past k (Some x) None a b = absurd (b.nothing refl x (a.some x refl))
  least_one past k (Some x) (Some y) a b = ap Some (both_le x y (a.least x refl y (b.some y refl)) (b.least y refl x (a.some x refl)))
