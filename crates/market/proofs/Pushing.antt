-- What stays true of the entries when one is added.
use Rattle.std.proofs.Common.{◌≡◌, ℕ, ◌+◌, ◌<◌, ◌≤◌, Bool, true, false, List, [], ◌∷◌, ◌++◌, length, get_or, None, Option, refl, ap, ◌∙◌, ⊎_elim, arith}
use Rattle.std.proofs.lemmas.List.{get_or_append_left, get_or_push, length_push}
use Rattle.std.proofs.lemmas.Bool.{cases_lt, or_parts, or_from, leb-false, lt-leb}
use Rattle.market.specs.declared.entries.Window.{Window}
use Rattle.market.specs.declared.entries.Buy.{Buy}
use Rattle.market.specs.declared.entries.Basket.{Basket}
use Rattle.market.specs.declared.entries.Extra.{Extra}
use Rattle.market.specs.declared.entries.Entry.{Entry}
use Rattle.market.specs.declared.faults.Fault.{Fault}
use Rattle.market.specs.Market.{Market, window_in, basket_in, no_window, no_basket}
use Rattle.market.specs.Tests.{breaks, buy_absent, basket_absent, extra_absent, absent, full, overlapping, breaking, fault, first}
use Rattle.market.specs.Lines.{Each, Looped, Placed}
use Rattle.numbers.specs.Searches.{any_to}
use Rattle.numbers.proofs.Searches.{any_same}

-- one more of a list
module _ {X : Type 0} (d x : X) (xs more : List X) (is : more ≡ xs ++ x ∷ []) where
  old : (k : ℕ) → k < length xs → get_or more k d ≡ get_or xs k d
  old k h = ap (λ l. get_or l k d) is ∙ get_or_append_left xs (x ∷ []) d k h

  new : (k : ℕ) → length xs ≤ k → k < length more → get_or more k d ≡ x
  new k h l = ap (λ l. get_or l k d) is ∙ get_or_push xs x d k (omega (arith, ap length is, length_push xs x))

  pub each_push : (f : X → Bool) (b : Bool) → Each d xs f b → f x ≡ b → Each d more f b
  each_push f b all one k h =
      ⊎_elim
      (λ (l : k < length xs). ap f (old k l) ∙ all k l)
      (λ (l : length xs ≤ k). ap f (new k l h) ∙ one)
      (cases_lt k (length xs))

  pub pairs_push : (r : X → X → Bool) → ((k : ℕ) → k < length xs → any_to k (λ j. r (get_or xs j d) (get_or xs k d)) ≡ false) → any_to (length xs) (λ j. r (get_or xs j d) x) ≡ false → (k : ℕ) → k < length more → any_to k (λ j. r (get_or more j d) (get_or more k d)) ≡ false
  pairs_push r all one k h =
      ⊎_elim
      (λ (l : k < length xs). any_same k (λ j. r (get_or more j d) (get_or more k d)) (λ j. r (get_or xs j d) (get_or xs k d)) (λ j m. ap (λ y. r y (get_or more k d)) (old j (omega arith)) ∙ ap (r (get_or xs j d)) (old k l)) ∙ all k l)
      (λ (l : length xs ≤ k).
      let e : k ≡ length xs = omega (arith, ap length is, length_push xs x) in
      any_same k (λ j. r (get_or more j d) (get_or more k d)) (λ j. r (get_or xs j d) x) (λ j m. ap (λ y. r y (get_or more k d)) (old j (omega arith)) ∙ ap (r (get_or xs j d)) (new k l h))
      ∙ ap (λ n. any_to n (λ j. r (get_or xs j d) x)) e ∙ one)
      (cases_lt k (length xs))

pub each_weaker : {X : Type 0} (d : X) (xs : List X) (f g : X → Bool) (b : Bool) → ((x : X) → f x ≡ b → g x ≡ b) → Each d xs f b → Each d xs g b
each_weaker d xs f g b h all k l = h (get_or xs k d) (all k l)

-- what names a window is as it was after one more window
module _ (ws more : List Window) (w : Window) (is : more ≡ ws ++ w ∷ []) where
  longer : length more ≡ length ws + 1
  longer = ap length is ∙ length_push ws w

  same : (i : ℕ) → i < length ws → window_in more i ≡ window_in ws i
  same i h = old no_window w ws more is i h

  pub buy_stays : (e : Buy) → buy_absent ws e ≡ false → buy_absent more e ≡ false
  buy_stays e h =
      let p = or_parts _ _ h in
      let l = leb-false (length ws) e.window p.0 in
      or_from _ _ (lt-leb (length more) e.window (omega (arith, longer))) (rw (same e.window l) p.1)

  pub basket_stays : (b : Basket) → basket_absent ws b ≡ false → basket_absent more b ≡ false
  basket_stays b h =
      let p = or_parts _ _ h in
      let l = leb-false (length ws) b.window p.0 in
      or_from _ _ (lt-leb (length more) b.window (omega (arith, longer))) (rw (same b.window l) p.1)

  pub extra_stays : (bs : List Basket) → Placed ws bs → (e : Extra) → extra_absent ws bs e ≡ false → extra_absent more bs e ≡ false
  extra_stays bs placed e h =
      let p = or_parts _ _ h in
      let l = leb-false (length bs) e.basket p.0 in
      let q = or_parts _ _ (placed e.basket l) in
      or_from _ _ p.0 (rw (same (basket_in bs e.basket).window (leb-false _ _ q.0)) p.1)

  pub looped_stays : (bs : List Basket) → Placed ws bs → Looped ws bs → Looped more bs
  looped_stays bs placed all k h =
      let at : (j : ℕ) → j < length bs → (basket_in bs j).window < length ws = λ j l. leb-false _ _ (or_parts _ _ (placed j l)).0 in
      any_same k (λ j. breaks more (basket_in bs j) (basket_in bs k)) (λ j. breaks ws (basket_in bs j) (basket_in bs k))
      (λ j m. rw (same (basket_in bs j).window (at j (omega arith)), same (basket_in bs k).window (at k h)))
      ∙ all k h

-- what names a basket is as it was after one more basket
pub extra_stays_basket : (ws : List Window) (bs more : List Basket) (b : Basket) → more ≡ bs ++ b ∷ [] → (e : Extra) → extra_absent ws bs e ≡ false → extra_absent ws more e ≡ false
extra_stays_basket ws bs more b is e h =
    let p = or_parts _ _ h in
    let l = leb-false (length bs) e.basket p.0 in
    or_from _ _ (lt-leb (length more) e.basket (omega (arith, ap length is, length_push bs b))) (rw (old no_basket b bs more is e.basket l) p.1)

-- none of the faults applies
first_none : (b : Bool) (f : Fault) (rest : Option Fault) → first b f rest ≡ None → (b ≡ false) × (rest ≡ None)
first_none true f rest h = grind arith
first_none false f rest h = (refl, h)

pub record Admitted (m : Market) (e : Entry) : Type 0 where
  pub there : absent m e ≡ false
  pub room : full m e ≡ false
  pub apart : overlapping m e ≡ false
  pub keeps : breaking m e ≡ false

pub admitted : (m : Market) (e : Entry) → fault m e ≡ None → Admitted m e
admitted m e h =
    let p = first_none _ _ _ h in
    let q = first_none _ _ _ p.1 in
    let r = first_none _ _ _ q.1 in
    let s = first_none _ _ _ r.1 in
    record { there = p.0; room = q.0; apart = r.0; keeps = s.0 }
