-- What stands after one more call; that a past leads to one standing; and the two laws, from the past.
use Rattle.std.proofs.Common.{◌≡◌, ℕ, suc, ◌≤◌, true, false, ◌⊎◌, List, [], ◌∷◌, ◌++◌, length, ℤ, Some, None, Option, sym, refl, ap, ◌∙◌, subst, ⊎_elim, arith}
use Rattle.std.proofs.lemmas.Int.{ints}
use Rattle.std.proofs.lemmas.List.{length_push}
use Rattle.std.proofs.lemmas.Bool.{cond_both}
use Rattle.market.specs.Market.{Market}
use Rattle.console.specs.declared.call.Call.{Call}
use Rattle.console.specs.declared.call.Call.TheVariants.{Clearing, Tree, Price, Panel}
use Rattle.console.specs.declared.held.Held.{Held}
use Rattle.console.specs.Best.{Least, Ranks}
use Rattle.console.specs.Clears.{Clears}
use Rattle.console.specs.Past.{Offers, limit, price_limit, no_call, Came}
use Rattle.console.specs.Standing.{Standing, idle, better}
use Rattle.console.specs.Steps.{lowered, taken, bounded, priced}
use Rattle.console.proofs.Best.{best_none, best_stays, best_new, best_one, least_none, least_stays, least_more, least_one}

pub ranks : Ranks better
ranks = record { over = λ g h f p q. grind (arith, ints); through = λ g h f p q. grind (arith, ints) }

-- one call: what stood before it, and what stands after it
abbrev pub Steps : Standing → Call → Standing → Type 0
Steps s (Clearing file room) t = ((h : Held) × Clears s.market file.now room h × (t ≡ taken s h)) ⊎ (((h : Held) → Clears s.market file.now room h → ⊥) × (t ≡ s))
Steps s (Tree file) t = t ≡ bounded s (limit s.market (Tree file))
Steps s (Price file) t = t ≡ priced s (price_limit s.market s.held (Price file))
Steps s (Panel room) t = t ≡ s

least_lowered : (f : Call → Option ℤ) (past : List Call) (c : Call) (k : ℕ) (o : Option ℤ) → Least no_call f past k o → k ≤ length past → (x : Option ℤ) → f c ≡ x → Least no_call f (past ++ c ∷ []) k (lowered o x)
least_lowered f past c k o p m None e = least_stays no_call f past c k o p e
least_lowered f past c k o p m (Some x) e = least_more no_call f past c k o p m x e

module _ (m : Market) (one : (c : Call) (g h : Held) → Offers m c g → Offers m c h → g ≡ h) where
  -- a call that leaves the standing as it is, where it offers nothing better and puts nothing forward
  stays : (past : List Call) (s : Standing) (c : Call) → Came m past s → ((g : Held) → Offers m c g → better g s.held ≡ false)
      → limit m c ≡ None → price_limit m s.held c ≡ None → Came m (past ++ c ∷ []) s
  stays past s c p n l q = record {
    market = p.market;
    since = p.since;
    holds = best_stays no_call idle (Offers m) better past c s.held p.since p.holds n;
    bound = least_stays no_call (limit m) past c 0 s.bound p.bound l;
    price = least_stays no_call (price_limit m s.held) past c p.since s.price p.price q;
  }

  replaced : (past : List Call) (s : Standing) (c : Call) → Came m past s → (h : Held) → Offers m c h → better h s.held ≡ true → limit m c ≡ None
      → Came m (past ++ c ∷ []) (record { market = s.market; held = h; bound = s.bound; price = None })
  replaced past s c p h o b l =
      let n = length_push past c in
      record {
        market = p.market;
        since = suc (length past);
        holds = best_new no_call idle (Offers m) better ranks one past c s.held p.since p.holds h o b;
        bound = least_stays no_call (limit m) past c 0 s.bound p.bound l;
        price = least_none no_call (price_limit m h) (past ++ c ∷ []) (suc (length past)) (omega arith);
      }

  took : (past : List Call) (s : Standing) (c : Call) → Came m past s → (h : Held) → Offers m c h → limit m c ≡ None → price_limit m s.held c ≡ None → Came m (past ++ c ∷ []) (taken s h)
  took past s c p h o l q =
      cond_both (better h s.held) _ _ (λ (t : Standing). Came m (past ++ c ∷ []) t)
      (λ b. replaced past s c p h o b l)
      (λ b. stays past s c p (λ g w. subst (λ (x : Held). better x s.held ≡ false) (one c h g o w) b) l q)

  step_here : (past : List Call) (s t : Standing) (c : Call) → s.market ≡ m → Came m past s → Steps s c t → Came m (past ++ c ∷ []) t
  step_here past s t (Clearing file room) e p =
      ⊎_elim
      (λ (x : (h : Held) × Clears s.market file.now room h × (t ≡ taken s h)).
      subst (λ (u : Standing). Came m (past ++ Clearing file room ∷ []) u) (sym x.2)
      (took past s (Clearing file room) p x.0 (subst (λ (u : Market). Clears u file.now room x.0) e x.1) refl refl))
      (λ (x : ((h : Held) → Clears s.market file.now room h → ⊥) × (t ≡ s)).
      subst (λ (u : Standing). Came m (past ++ Clearing file room ∷ []) u) (sym x.1)
      (stays past s (Clearing file room) p (λ g w. absurd (x.0 g (subst (λ (u : Market). Clears u file.now room g) (sym e) w))) refl refl))
  step_here past s t (Tree file) e p = λ x.
      subst (λ (u : Standing). Came m (past ++ Tree file ∷ []) u) (sym x)
      (record {
        market = p.market;
        since = p.since;
        holds = best_stays no_call idle (Offers m) better past (Tree file) s.held p.since p.holds (λ g w. absurd w);
        bound = least_lowered (limit m) past (Tree file) 0 s.bound p.bound (omega arith) (limit s.market (Tree file)) (ap (λ (u : Market). limit u (Tree file)) (sym e));
        price = least_stays no_call (price_limit m s.held) past (Tree file) p.since s.price p.price refl;
      })
  step_here past s t (Price file) e p = λ x.
      subst (λ (u : Standing). Came m (past ++ Price file ∷ []) u) (sym x)
      (record {
        market = p.market;
        since = p.since;
        holds = best_stays no_call idle (Offers m) better past (Price file) s.held p.since p.holds (λ g w. absurd w);
        bound = least_stays no_call (limit m) past (Price file) 0 s.bound p.bound refl;
        price = least_lowered (price_limit m s.held) past (Price file) p.since s.price p.price p.holds.made (price_limit s.market s.held (Price file)) (ap (λ (u : Market). price_limit u s.held (Price file)) (sym e));
      })
  step_here past s t (Panel room) e p = λ x. subst (λ (u : Standing). Came m (past ++ Panel room ∷ []) u) (sym x) (stays past s (Panel room) p (λ g w. absurd w) refl refl)

  pub came_next : (past : List Call) (s t : Standing) (c : Call) → Came m past s → Steps s c t → Came m (past ++ c ∷ []) t
  came_next past s t c p x = step_here past s t c p.market p x

  pub came_none : Came m [] (record { market = m; held = idle; bound = None; price = None })
  came_none = record {
    market = refl;
    since = 0;
    holds = best_none no_call idle (Offers m) better;
    bound = least_none no_call (limit m) [] 0 (omega arith);
    price = least_none no_call (price_limit m idle) [] 0 (omega arith);
  }

  -- a past leads to one standing alone
  pub came_one : (past : List Call) (s t : Standing) → Came m past s → Came m past t → s ≡ t
  came_one past s t p q =
      let h = best_one no_call idle (Offers m) better one past s.held t.held p.since q.since p.holds q.holds in
      let b = least_one no_call (limit m) past 0 s.bound t.bound p.bound q.bound in
      let w : Least no_call (price_limit m s.held) past p.since t.price =
      subst (λ (g : Held). Least no_call (price_limit m g) past p.since t.price) (sym h.1)
      (subst (λ (k : ℕ). Least no_call (price_limit m t.held) past k t.price) (sym h.0) q.price) in
      let r = least_one no_call (price_limit m s.held) past p.since s.price t.price p.price w in
      same_standing s t (p.market ∙ sym q.market) h.1 b r
    where
      same_standing : (s t : Standing) → s.market ≡ t.market → s.held ≡ t.held → s.bound ≡ t.bound → s.price ≡ t.price → s ≡ t
      same_standing s t a b c d =
          ap (λ (u : Market). record { market = u; held = s.held; bound = s.bound; price = s.price }) a
          ∙ (ap (λ (u : Held). record { market = t.market; held = u; bound = s.bound; price = s.price }) b
          ∙ (ap (λ (u : Option ℤ). record { market = t.market; held = t.held; bound = u; price = s.price }) c
          ∙ ap (λ (u : Option ℤ). record { market = t.market; held = t.held; bound = t.bound; price = u }) d))
