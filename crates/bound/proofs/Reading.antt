-- What a step of the file is, and what it leaves to read.
use Rattle.std.proofs.Common.{◌≡◌, ℕ, zero, suc, ◌+◌, ◌-◌, ◌<◌, ◌≤◌, true, false, List, length, get_or, drop, ℤ, pos, Ok, Err, Result, sym, refl, ap, ◌∙◌, arith}
use Rattle.std.proofs.lemmas.Bool.{eq-eqb, ne_eqb, le-leb, lt-leb, cond-true, cond-false}
use Rattle.std.specs.Int.{int_max}
use Rattle.records.specs.Read.{Content, read}
use Rattle.bound.specs.declared.faults.Fault.TheVariants.{Record, NotOneTree, TooDeep, SplitBarred}
use Rattle.records.specs.declared.Refusal.{Refusal as RecordRefusal}
use Rattle.bound.specs.declared.faults.Refusal.{Refusal}
use Rattle.bound.specs.Faults.{from_records}
use Rattle.bound.specs.declared.reader.Step.{Step}
use Rattle.bound.specs.declared.reader.Step.TheVariants.{Split, Row, Close}
use Rattle.bound.specs.declared.tree.Found.{Found}
use Rattle.bound.specs.declared.tree.Found.TheVariants.{Branch, Leaf}
use Rattle.bound.specs.declared.leaf.Weight.{Weight}
use Rattle.bound.specs.Tables.{Table}
use Rattle.bound.specs.Checks.{leaf_step, leaf_at, found_at, allowed, sides, node_step, node_at, Gives}
use Rattle.bound.specs.Layers.{holding}
use Rattle.bound.specs.Steps.{tree_kinds, refuse, and_then, step_of, stepped, step_at}

pub step_split : (e : Content) (v : ℤ) → e.kind ≡ 8 → v ≡ get_or e.fields 0 (pos 0) → step_of e ≡ Split v
step_split e v k is = cond-true _ _ _ (eq-eqb 8 e.kind (sym k)) ∙ ap Split (sym is)

pub step_row : (e : Content) (v w : ℤ) → e.kind ≡ 9 → v ≡ get_or e.fields 0 (pos 0) → w ≡ get_or e.fields 1 (pos 0) → step_of e ≡ Row v w
step_row e v w k is js = cond-false _ _ _ (ne_eqb 8 e.kind (λ z. omega arith)) ∙ cond-true _ _ _ (eq-eqb 9 e.kind (sym k)) ∙ (λ i. Row (sym is i) (sym js i))

pub step_close : (e : Content) → (e.kind ≡ 8 → ⊥) → (e.kind ≡ 9 → ⊥) → step_of e ≡ Close
step_close e a b = cond-false _ _ _ (ne_eqb 8 e.kind (λ z. a (sym z))) ∙ cond-false _ _ _ (ne_eqb 9 e.kind (λ z. b (sym z)))

module _ (file : List ℕ) (p : ℕ) where
  pub step_end : length file ≤ p → step_at file p ≡ refuse NotOneTree (length file)
  unfolding step_at
  step_end h = cond-true _ _ _ (le-leb (length file) p h)

  pub step_ok : (e : Content) (s : Step) (q : ℕ) → p < length file → read tree_kinds (drop p file) ≡ Ok e → step_of e ≡ s → q ≡ p + e.size → step_at file p ≡ Ok (s, q)
  unfolding step_at
  step_ok e s q h r k a = cond-false _ _ _ (lt-leb (length file) p h) ∙ ap (stepped p) r ∙ (λ i. Ok (k i, sym a i))

  pub step_err : (e : RecordRefusal) → p < length file → read tree_kinds (drop p file) ≡ Err e.fault → e.place ≡ p → step_at file p ≡ Err (from_records e)
  unfolding step_at
  step_err e h r a = cond-false _ _ _ (lt-leb (length file) p h) ∙ ap (stepped p) r ∙ ap (refuse (Record e.fault)) (sym a)

leaf_open : (n : ℕ) (t : Table) (file : List ℕ) (ws : List Weight) (p : ℕ) → length file ≤ n + p → leaf_at n t file ws p ≡ and_then (step_at file p) (λ s. leaf_step t p (leaf_at (n - 1) t file) ws s.0 s.1)
unfolding leaf_at
leaf_open zero t file ws p h = sym (ap (λ s. and_then s (λ s. leaf_step t p (leaf_at (0 - 1) t file) ws s.0 s.1)) (step_end file p (omega arith)))
leaf_open (suc n) t file ws p h = ap (λ m. and_then (step_at file p) (λ s. leaf_step t p (leaf_at m t file) ws s.0 s.1)) (omega arith)

-- a result that is passed on
pub gives_then : {A : Type 0} (s : Result (A × ℕ) Refusal) (r : Result A Refusal) (q : ℕ) → s ≡ and_then r (λ f. Ok (f, q)) → Gives s r q
gives_then s (Ok f) q h = h
gives_then s (Err e) q h = h

-- enough is left for one step more
module _ (n : ℕ) (t : Table) (file : List ℕ) (ws : List Weight) (p : ℕ) (enough : length file ≤ n + p) where
  pub leaf_err : (e : Refusal) → step_at file p ≡ Err e → leaf_at n t file ws p ≡ Err e
  leaf_err e is = leaf_open n t file ws p enough ∙ ap (λ r. and_then r (λ s. leaf_step t p (leaf_at (n - 1) t file) ws s.0 s.1)) is

  pub leaf_ok : (s : Step) (q : ℕ) → step_at file p ≡ Ok (s, q) → leaf_at n t file ws p ≡ leaf_step t p (leaf_at (n - 1) t file) ws s q
  leaf_ok s q is = leaf_open n t file ws p enough ∙ ap (λ r. and_then r (λ s. leaf_step t p (leaf_at (n - 1) t file) ws s.0 s.1)) is

-- a node by what opens it
module _ (t : Table) (file : List ℕ) (p : ℕ) where
  abbrev after : (ℕ → ℕ → Result (ℤ × ℕ) Refusal) → Result (Found × ℕ) Refusal → Result (ℤ × ℕ) Refusal
  after below r = and_then r (λ f. node_step t p below f.0 f.1)

  abbrev below : ℕ → ℕ → ℕ → Result (ℤ × ℕ) Refusal
  below zero v q = refuse TooDeep p
  below (suc n) v q = sides (node_at n (holding t v (pos 0)) file) (node_at n (holding t v (pos 1)) file) q

  node_open : (n : ℕ) → node_at n t file p ≡ after (below n) (found_at t file p)
  unfolding node_at
  node_open zero = refl
  node_open (suc n) = refl

  pub node_err : (n : ℕ) (e : Refusal) → found_at t file p ≡ Err e → node_at n t file p ≡ Err e
  node_err n e is = node_open n ∙ ap (after (below n)) is

  pub node_leaf : (n : ℕ) (b : ℤ) (q : ℕ) → found_at t file p ≡ Ok (Leaf b, q) → node_at n t file p ≡ Ok (b, q)
  node_leaf n b q is = node_open n ∙ ap (after (below n)) is

  pub node_barred : (n v q : ℕ) → allowed t v ≡ false → found_at t file p ≡ Ok (Branch v, q) → node_at n t file p ≡ refuse SplitBarred p
  node_barred n v q mayNot is = node_open n ∙ ap (after (below n)) is ∙ cond-false _ _ _ mayNot

  pub node_deep : (n v q : ℕ) → n ≡ 0 → allowed t v ≡ true → found_at t file p ≡ Ok (Branch v, q) → node_at n t file p ≡ refuse TooDeep p
  node_deep n v q none may is = node_open n ∙ ap (after (below n)) is ∙ cond-true _ _ _ may ∙ ap (λ k. below k v q) none

  -- a split: its 0 side is refused, its 1 side is refused, or neither
  module _ (n m v q : ℕ) (more : n ≡ suc m) (may : allowed t v ≡ true) (is : found_at t file p ≡ Ok (Branch v, q)) where
    node_split : node_at n t file p ≡ below (suc m) v q
    node_split = node_open n ∙ ap (after (below n)) is ∙ cond-true _ _ _ may ∙ ap (λ k. below k v q) more

    abbrev second : ℤ → Result (ℤ × ℕ) Refusal → Result (ℤ × ℕ) Refusal
    second a r = and_then r (λ b. Ok (int_max a b.0, b.1))

    abbrev first : Result (ℤ × ℕ) Refusal → Result (ℤ × ℕ) Refusal
    first r = and_then r (λ a. second a.0 (node_at m (holding t v (pos 1)) file a.1))

    pub node_off : (e : Refusal) → node_at m (holding t v (pos 0)) file q ≡ Err e → node_at n t file p ≡ Err e
    node_off e off = node_split ∙ ap first off

    pub node_on : (a : ℤ) (k : ℕ) (e : Refusal) → node_at m (holding t v (pos 0)) file q ≡ Ok (a, k) → node_at m (holding t v (pos 1)) file k ≡ Err e → node_at n t file p ≡ Err e
    node_on a k e off on = node_split ∙ ap first off ∙ ap (second a) on

    pub node_both : (a : ℤ) (k : ℕ) (b : ℤ) (l : ℕ) → node_at m (holding t v (pos 0)) file q ≡ Ok (a, k) → node_at m (holding t v (pos 1)) file k ≡ Ok (b, l) → node_at n t file p ≡ Ok (int_max a b, l)
    node_both a k b l off on = node_split ∙ ap first off ∙ ap (second a) on
