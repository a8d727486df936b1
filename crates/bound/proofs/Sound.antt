-- An accepted file is a tree that sits in the table, with the bound that was answered.
use Rattle.std.proofs.Common.{◌≡◌, ℕ, zero, suc, ◌+◌, ◌<◌, ◌≤◌, Bool, true, false, cond, ltb, leb, List, [], ◌∷◌, ◌++◌, length, ℤ, pos, negsuc, Some, None, Ok, Err, Option, Result, sym, refl, ap, ◌∙◌, subst, append_assoc, append-nil, arith, length-append}
use Rattle.std.proofs.lemmas.Bool.{ltb-true, ltb-false, le-ltb, leb-true, le-leb, cond-true, cond-false}
use Rattle.std.proofs.lemmas.List.Sums.{fold_push}
use Rattle.std.specs.Int.{int_max}
use Rattle.std.specs.List.{AllByRecursion}
use Rattle.bound.specs.declared.faults.Fault.TheVariants.{Record, SplitBarred, TooDeep, NotOneTree}
use Rattle.records.specs.declared.Fault.TheVariants.{TooLong}
use Rattle.bound.specs.declared.faults.Refusal.{Refusal}
use Rattle.bound.specs.declared.tree.Found.{Found}
use Rattle.bound.specs.declared.tree.Found.TheVariants.{Branch, Leaf}
use Rattle.bound.specs.declared.reader.Step.{Step}
use Rattle.bound.specs.declared.reader.Step.TheVariants.{Split, Row, Close}
use Rattle.bound.specs.declared.leaf.Weight.{Weight}
use Rattle.bound.specs.Tables.{Table}
use Rattle.bound.specs.Leaves.{after, leaf_bound}
use Rattle.bound.specs.Steps.{refuse, and_then, step_at}
use Rattle.bound.specs.Checks.{branching, opened, judged, closing, next_row, leaf_step, leaf_at, found_at, allowed, sides, node_step, node_at, finished, checked}
use Rattle.bound.specs.Layers.{holding}
use Rattle.bound.specs.Trees.{Tree, leaf, split, Weighs, Rising, Sits, tree_bound}
use Rattle.bound.proofs.Spelling.{SpellsLeaf, Spells}
use Rattle.bound.proofs.Outcomes.{never, inside, then_ok, not_refused, was_passed}
use Rattle.bound.proofs.Walks.{accepted}
use Rattle.bound.proofs.Descent.{allowed_is}

-- what an opened node says of the file from p up to q, after the weights ws
abbrev pub Says : Table → List ℕ → List Weight → ℕ → Found → ℕ → Type 0
Says t file ws p (Branch v) q = (length ws ≡ 0) × (v < t.variables) × (step_at file p ≡ Ok (Split (pos v), q))
Says t file ws p (Leaf b) q = (more : List Weight) × AllByRecursion (Weighs t) more × Rising (next_row ws) more × SpellsLeaf file p more q × (leaf_bound t (ws ++ more) ≡ Some b)

-- a split that was accepted
branch_at : (variables count p k : ℕ) (f : Found) (b : Bool) → b ≡ ltb k variables → branching count p (cond b (Some k) None) ≡ Ok f → (count ≡ 0) × (k < variables) × (f ≡ Branch k)
branch_at variables count p k f true is e =
    let a = not_refused (ltb 0 count) SplitBarred p _ f e in
    let none : count ≤ 0 = ltb-false 0 count a.0 in
    (omega (arith, none), ltb-true k variables (sym is), sym (inside _ f a.1))
branch_at variables count p k f false is e = absurd (never _ f e)

branch_is : (variables count p : ℕ) (z : ℤ) (f : Found) → opened variables count z p ≡ Ok f → (v : ℕ) × (z ≡ pos v) × (count ≡ 0) × (v < variables) × (f ≡ Branch v)
branch_is variables count p (pos k) f e = let h = branch_at variables count p k f (ltb k variables) refl e in (k, refl, h.0, h.1, h.2)
branch_is variables count p (negsuc k) f e = absurd (never _ f e)

closed_is : (o : Option ℤ) (p : ℕ) (f : Found) → closing o p ≡ Ok f → (b : ℤ) × (o ≡ Some b) × (f ≡ Leaf b)
closed_is (Some b) p f e = (b, refl, sym (inside _ f e))
closed_is None p f e = absurd (never _ f e)

module _ (t : Table) (file : List ℕ) where
  -- a row before what was found
  says_more : (ws : List Weight) (p m q : ℕ) (w : Weight) (f : Found) → step_at file p ≡ Ok (Row (pos w.row) w.weight, m) → Weighs t w → next_row ws ≤ w.row → Says t file (ws ++ w ∷ []) m f q → Says t file ws p f q
  says_more ws p m q w (Branch v) is good rises says =
      let long = length-append ws (w ∷ []) in absurd (omega (arith, long, says.0))
  says_more ws p m q w (Leaf b) is good rises says =
      let next : next_row (ws ++ w ∷ []) ≡ w.row + 1 = fold_push (λ n w. w.row + 1) 0 ws w in
      (w ∷ says.0, (good, says.1), (rises, subst (λ n. Rising n says.0) next says.2), (m, is, says.3), ap (leaf_bound t) (sym (append_assoc ws (w ∷ []) says.0)) ∙ says.4)

  pub first_rises : (ws : List Weight) (row : ℕ) → (1 ≤ length ws → next_row ws ≤ row) → next_row ws ≤ row
  first_rises [] row h = omega arith
  first_rises (w ∷ ws) row h = h (omega arith)

  step_says : (ws : List Weight) (p q : ℕ) (f : Found) (more : List Weight → ℕ → Result (Found × ℕ) Refusal) (s : Step) (m : ℕ) → step_at file p ≡ Ok (s, m) → leaf_step t p more ws s m ≡ Ok (f, q)
      → ((w : Weight) → more (ws ++ w ∷ []) m ≡ Ok (f, q) → Says t file (ws ++ w ∷ []) m f q) → Says t file ws p f q
  step_says ws p q f more (Split z) m is h rest =
      let a = then_ok (opened t.variables (length ws) z p) (λ f. Ok (f, m)) (f, q) h in
      let b = branch_is t.variables (length ws) p z a.0 a.1 in
      let c = inside (a.0, m) (f, q) a.2 in
      subst (λ x. Says t file ws p x.0 x.1) c (subst (λ g. Says t file ws p g m) (sym b.4) (b.2, b.3, is ∙ ap (λ z. Ok (Split z, m)) b.1))
  step_says ws p q f more (Row r w) m is h rest =
      let a = then_ok (judged (length ws) (next_row ws) t.rows r w p) (λ x. more (ws ++ x ∷ []) m) (f, q) h in
      let good = accepted (length ws) (next_row ws) t.rows r w p a.0 a.1 in
      says_more ws p m q a.0 f (is ∙ (λ i. Ok (Row (good.row_is i) (good.weight_is i), m)))
      (record { there = good.there; least = good.least; greatest = good.greatest })
      (first_rises ws a.0.row good.rises) (rest a.0 a.2)
  step_says ws p q f more Close m is h rest =
      let a = then_ok (closing (leaf_bound t ws) p) (λ f. Ok (f, m)) (f, q) h in
      let b = closed_is (leaf_bound t ws) p a.0 a.1 in
      let c = inside (a.0, m) (f, q) a.2 in
      subst (λ x. Says t file ws p x.0 x.1) c
      (subst (λ g. Says t file ws p g m) (sym b.2) ([], tt, tt, is, ap (leaf_bound t) (append-nil ws) ∙ b.1))

  pub leaf_says : (n : ℕ) (ws : List Weight) (p q : ℕ) (f : Found) → leaf_at n t file ws p ≡ Ok (f, q) → Says t file ws p f q
  unfolding leaf_at
  leaf_says zero ws p q f h = absurd (never _ (f, q) h)
  leaf_says (suc n) ws p q f h =
      let k = then_ok (step_at file p) (λ s. leaf_step t p (leaf_at n t file) ws s.0 s.1) (f, q) h in
      step_says ws p q f (leaf_at n t file) k.0.0 k.0.1 k.1 k.2 (λ w e. leaf_says n (ws ++ w ∷ []) k.0.1 q f e)

  pub found_known : (p v q : ℕ) → found_at t file p ≡ Ok (Branch v, q) → v < t.variables
  found_known p v q h = (leaf_says (length file) [] p q (Branch v) h).1

-- from p up to q stands a tree that sits in the table, and its bound is b
abbrev pub Proved : ℕ → Table → List ℕ → ℕ → ℤ × ℕ → Type 0
Proved n t file p b = (tree : Tree) × Spells file p tree b.1 × Sits n t tree × (tree_bound t tree ≡ Some b.0)

leaf_proved : (n : ℕ) (t : Table) (file : List ℕ) (p q : ℕ) (b : ℤ) → Says t file [] p (Leaf b) q → Proved n t file p (b, q)
leaf_proved zero t file p q b says = (leaf says.0, says.3, (says.1, says.2), says.4)
leaf_proved (suc n) t file p q b says = (leaf says.0, says.3, (says.1, says.2), says.4)

split_proved : (n : ℕ) (t : Table) (file : List ℕ) (p v m : ℕ) (x y : ℤ × ℕ) → Says t file [] p (Branch v) m → allowed t v ≡ true
    → Proved n (holding t v (pos 0)) file m x → Proved n (holding t v (pos 1)) file x.1 y → Proved (suc n) t file p (int_max x.0 y.0, y.1)
split_proved n t file p v m x y says may off on =
    let is = allowed_is t v may in (
      split v off.0 on.0,
      (m, x.1, says.2, off.1, on.1),
      (says.1, is.0, is.1, is.2, off.2, on.2),
      ap (λ o. after o (λ x. after (tree_bound (holding t v (pos 1)) on.0) (λ y. Some (int_max x y)))) off.3 ∙ ap (λ o. after o (λ z. Some (int_max x.0 z))) on.3,
    )

node_step_lem : (n : ℕ) (t : Table) (file : List ℕ) (p : ℕ) (b : ℤ × ℕ) (below : ℕ → ℕ → Result (ℤ × ℕ) Refusal) (f : Found) (m : ℕ) → found_at t file p ≡ Ok (f, m)
    → ((v : ℕ) → Says t file [] p (Branch v) m → allowed t v ≡ true → below v m ≡ Ok b → Proved n t file p b)
    → node_step t p below f m ≡ Ok b → Proved n t file p b
node_step_lem n t file p b below (Branch v) m is deeper h =
    let a = was_passed (allowed t v) SplitBarred p (below v m) b h in
    deeper v (leaf_says t file (length file) [] p m (Branch v) is) a.0 a.1
node_step_lem n t file p b below (Leaf x) m is deeper h =
    subst (Proved n t file p) (inside (x, m) b h) (leaf_proved n t file p m x (leaf_says t file (length file) [] p m (Leaf x) is))

pub node_proved : (n : ℕ) (t : Table) (file : List ℕ) (p : ℕ) (b : ℤ × ℕ) → node_at n t file p ≡ Ok b → Proved n t file p b
unfolding node_at
node_proved zero t file p b h =
    let k = then_ok (found_at t file p) (λ f. node_step t p (λ v q. refuse TooDeep p) f.0 f.1) b h in
    node_step_lem zero t file p b (λ v q. refuse TooDeep p) k.0.0 k.0.1 k.1 (λ v says may e. absurd (never _ b e)) k.2
node_proved (suc n) t file p b h =
    let below : ℕ → ℕ → Result (ℤ × ℕ) Refusal = λ v. sides (node_at n (holding t v (pos 0)) file) (node_at n (holding t v (pos 1)) file) in
    let k = then_ok (found_at t file p) (λ f. node_step t p below f.0 f.1) b h in
    let m = k.0.1 in
    node_step_lem (suc n) t file p b below k.0.0 m k.1
    (λ v says may e.
    let x = then_ok (node_at n (holding t v (pos 0)) file m) (λ a. and_then (node_at n (holding t v (pos 1)) file a.1) (λ b. Ok (int_max a.0 b.0, b.1))) b e in
    let y = then_ok (node_at n (holding t v (pos 1)) file x.0.1) (λ b. Ok (int_max x.0.0 b.0, b.1)) b x.2 in
    let off = node_proved n (holding t v (pos 0)) file m x.0 x.1 in
    let on = node_proved n (holding t v (pos 1)) file x.0.1 y.0 y.1 in
    subst (Proved (suc n) t file p) (inside _ b y.2) (split_proved n t file p v m x.0 y.0 says may off on))
    k.2

-- a whole file
module _ (t : Table) (file : List ℕ) where
  abbrev ending : ℤ × ℕ → Result ℤ Refusal
  ending b = finished file b.0 b.1

  module _ (short : length file ≤ 65535) where
    open_checked : checked t file ≡ and_then (node_at 64 t file 0) ending
    open_checked = cond-false _ _ _ (le-ltb 65535 (length file) short)

    pub refused_checked : (e : Refusal) → node_at 64 t file 0 ≡ Err e → checked t file ≡ Err e
    refused_checked e node = open_checked ∙ ap (λ r. and_then r ending) node

    pub finished_checked : (b : ℤ) (q : ℕ) → node_at 64 t file 0 ≡ Ok (b, q) → checked t file ≡ finished file b q
    finished_checked b q node = open_checked ∙ ap (λ r. and_then r ending) node

    pub whole_checked : (b : ℤ) (q : ℕ) → node_at 64 t file 0 ≡ Ok (b, q) → length file ≤ q → checked t file ≡ Ok b
    whole_checked b q node ended = finished_checked b q node ∙ cond-true _ _ _ (le-leb (length file) q ended)

-- a whole file that was accepted
pub checked_is : (t : Table) (file : List ℕ) (b : ℤ) → checked t file ≡ Ok b → (q : ℕ) × (length file ≤ q) × (node_at 64 t file 0 ≡ Ok (b, q))
checked_is t file b h =
    let a = not_refused (ltb 65535 (length file)) (Record TooLong) 0 _ b h in
    let k = then_ok (node_at 64 t file 0) (ending t file) b a.1 in
    let q = k.0.1 in
    let e = was_passed (leb (length file) q) NotOneTree q (Ok k.0.0) b k.2 in
    (q, leb-true (length file) q e.0, k.1 ∙ ap (λ x. Ok (x, q)) (inside k.0.0 b e.1))

-- a bound that is answered is that of a tree which fits the table, whatever the bytes
pub checked_fits : (t : Table) (file : List ℕ) (b : ℤ) → checked t file ≡ Ok b → (tree : Tree) × Sits 64 t tree × (tree_bound t tree ≡ Some b)
checked_fits t file b h =
    let c = checked_is t file b h in
    let k = node_proved 64 t file 0 (b, c.0) c.2 in
    (k.0, k.2, k.3)
