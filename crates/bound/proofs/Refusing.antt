-- A file that is refused begins with a path that fits the table, and is wrong after it.
use Rattle.std.proofs.Common.{◌≡◌, ℕ, zero, suc, ◌+◌, ◌<◌, ◌≤◌, Bool, true, false, cond, ◌&&◌, ltb, leb, ◌⊎◌, List, [], ◌∷◌, ◌++◌, length, drop, ℤ, pos, negsuc, ◌≤ℤ◌, Some, None, Ok, Err, Option, Result, sym, refl, ap, ◌∙◌, subst, inl, inr, append_assoc, append-nil, arith, length-append, length-drop}
use lib.Signed.{lt_z, le_z}
use Rattle.std.proofs.lemmas.List.{drop_all}
use Rattle.std.proofs.lemmas.Int.{ints}
use Rattle.std.proofs.lemmas.List.Sums.{fold_push}
use Rattle.std.proofs.lemmas.Bool.{leb-true, leb-false, ltb-true, ltb-false, lt-ltb, and_parts, cases_Bool}
use Rattle.std.specs.Int.{int_max}
use Rattle.std.specs.List.{AllByRecursion}
use Rattle.records.specs.Read.{Content, read}
use Rattle.records.specs.Write.{Byte, encode}
use Rattle.records.specs.declared.Fault.{Fault as RecordFault}
use Rattle.records.specs.declared.Fault.TheVariants.{TooLong}
use Rattle.records.proofs.Bodies.{read_fits}
use Rattle.bound.specs.declared.faults.Fault.{Fault}
use Rattle.bound.specs.declared.faults.Fault.TheVariants.{Record, OutsideLimits, Absent, NotRising, SplitBarred, TooDeep, NotOneTree, TooLarge}
use Rattle.bound.specs.declared.faults.Refusal.{Refusal}
use Rattle.bound.specs.declared.leaf.Weight.{Weight}
use Rattle.bound.specs.declared.tree.Found.{Found}
use Rattle.bound.specs.declared.tree.Found.TheVariants.{Branch, Leaf}
use Rattle.bound.specs.declared.reader.Step.{Step}
use Rattle.bound.specs.declared.reader.Step.TheVariants.{Split, Row, Close}
use Rattle.bound.specs.Tables.{Table, most}
use Rattle.bound.specs.Leaves.{leaf_bound}
use Rattle.bound.specs.Layers.{holding}
use Rattle.bound.specs.Steps.{tree_kinds, refuse, and_then, stepped, step_at}
use Rattle.bound.specs.Checks.{numbered, placed, judged, branching, opened, closing, next_row, leaf_step, leaf_at, found_at, allowed, sides, node_step, node_at, finished, checked}
use Rattle.bound.specs.Trees.{Tree, leaf, split, Weighs, Rising, Sits, tree_bytes}
use Rattle.bound.specs.Refusals.{Path, within, off, on, rows_bytes, path_bytes, Beyond, MaySplit, Late, InRange, WrongStep, WrongRecord, Wrong, Stops, Refused, refused_by}
use Rattle.bound.proofs.Accepting.{allowed_yes}
use Rattle.bound.proofs.Bytes.{step_read, split_bytes, row_bytes, tree_bytes_lem}
use Rattle.bound.proofs.Descent.{allowed_is}
use Rattle.bound.proofs.Sound.{first_rises, leaf_says, node_proved}
use Rattle.bound.proofs.Spelling.{SpellsLeaf, Spells}
use Rattle.bound.proofs.Walks.{accepted}

-- ---- results that were refused

never_err : {A : Type 0} (x : A) (e : Refusal) → ◌≡◌ {A = Result A Refusal} (Ok x) (Err e) → ⊥
never_err x e h = let z : ◌≡◌ {A = ℕ} 0 1 = cc in omega arith

same : {A : Type 0} (d e : Refusal) → ◌≡◌ {A = Result A Refusal} (Err d) (Err e) → d ≡ e
same d e h = cc

then_err : {A B : Type 0} (r : Result A Refusal) (f : A → Result B Refusal) (e : Refusal) → and_then r f ≡ Err e → (r ≡ Err e) ⊎ ((x : A) × (r ≡ Ok x) × (f x ≡ Err e))
then_err (Ok x) f e h = inr (x, refl, h)
then_err (Err d) f e h = inl (ap Err (same d e h))

-- e is the fault f at the place p
abbrev Is : Refusal → Fault → ℕ → Type 0
Is e f p = (f ≡ e.fault) × (p ≡ e.place)

refused_is : {A : Type 0} (f : Fault) (p : ℕ) (e : Refusal) → refuse {A = A} f p ≡ Err e → Is e f p
refused_is f p e h = let s = same _ e h in (ap (λ d. d.fault) s, ap (λ d. d.place) s)

-- ---- one step

pos_is : (a b : ℕ) → pos a ≡ pos b → a ≡ b
pos_is a b e = cc

not_negative : (k j : ℕ) → negsuc k ≡ pos j → ⊥
not_negative k j e = let z : ◌≡◌ {A = ℕ} 0 1 = cc in omega arith

and_no : (a b : Bool) → (a && b) ≡ false → a ≡ true → b ≡ false
and_no true b e h = e
and_no false b e h = let z : ◌≡◌ {A = ℕ} 0 1 = cc in absurd (omega arith)

lt_no : (a b : ℤ) → lt_z a b ≡ false → b ≤ℤ a
lt_no a b e = grind (arith, ints)

lt_yes : (a b : ℤ) → lt_z a b ≡ true → b ≤ℤ a → ⊥
lt_yes a b e h = grind (arith, ints)

le_is : (a b : ℤ) → a ≤ℤ b → le_z a b ≡ true
le_is a b h = grind (arith, ints)

le_yes : (a b : ℤ) → le_z a b ≡ true → a ≤ℤ b
le_yes a b e = grind (arith, ints)

le_no : (a b : ℤ) → le_z a b ≡ false → a ≤ℤ b → ⊥
le_no a b e h = grind (arith, ints)

module _ (n : ℕ) (t : Table) (ws : List Weight) where
  split_wrong : (v : ℤ) (p : ℕ) (e : Refusal) → opened t.variables (length ws) v p ≡ Err e → (p ≡ e.place) × WrongStep n t ws (Split v) e.fault
  split_wrong (negsuc k) p e h = let i = refused_is Absent p e h in (i.1, inl ((λ j s. absurd (not_negative k j s)), sym i.0))
  split_wrong (pos k) p e h =
      elim (cases_Bool (ltb k t.variables)) [
        | inl known ↦
            let h' = sym (ap (λ b. branching (length ws) p (cond b (Some k) None)) known) ∙ h in
            elim (cases_Bool (ltb 0 (length ws))) [
              | inl some ↦
                  let i = refused_is SplitBarred p e (sym (ap (λ b. cond b (refuse SplitBarred p) (Ok (Branch k))) some) ∙ h') in
                  (i.1, inr (inl (k, refl, ltb-true k t.variables known, inl (ltb-true 0 (length ws) some), sym i.0)))
              | inr none ↦ absurd (never_err (Branch k) e (sym (ap (λ b. cond b (refuse SplitBarred p) (Ok (Branch k))) none) ∙ h'))
            ]
        | inr beyond ↦
            let i = refused_is Absent p e (sym (ap (λ b. branching (length ws) p (cond b (Some k) None)) beyond) ∙ h) in
            let past = ltb-false k t.variables beyond in
            (i.1, inl ((λ j s. omega (arith, past, pos_is k j s)), sym i.0))
      ]

  not_late : (r : ℤ) → (ltb 0 (length ws) && lt_z r (pos (next_row ws))) ≡ false → Late ws r → ⊥
  not_late r e late = late.1 (lt_no r (pos (next_row ws)) (and_no _ _ e (lt-ltb 0 (length ws) late.0)))

  is_late : (r : ℤ) → (ltb 0 (length ws) && lt_z r (pos (next_row ws))) ≡ true → Late ws r
  is_late r e = let a = and_parts _ _ e in (ltb-true 0 (length ws) a.0, lt_yes r (pos (next_row ws)) a.1)

  in_range : (w : ℤ) → (le_z (pos 1) w && le_z w (pos most)) ≡ true → InRange w
  in_range w e = let a = and_parts _ _ e in (le_yes (pos 1) w a.0, le_yes w (pos most) a.1)

  not_in_range : (w : ℤ) → (le_z (pos 1) w && le_z w (pos most)) ≡ false → InRange w → ⊥
  not_in_range w e h = le_no w (pos most) (and_no _ _ e (le_is (pos 1) w h.0)) h.1

  row_absent : (r w : ℤ) (p : ℕ) (e : Refusal) → placed w p (numbered t.rows r) ≡ Err e → (p ≡ e.place) × Beyond t.rows r × (e.fault ≡ Absent)
  row_absent (negsuc k) w p e h = let i = refused_is Absent p e h in (i.1, (λ j s. absurd (not_negative k j s)), sym i.0)
  row_absent (pos k) w p e h =
      elim (cases_Bool (ltb k t.rows)) [
        | inl known ↦ absurd (never_err _ e (sym (ap (λ b. placed w p (cond b (Some k) None)) known) ∙ h))
        | inr beyond ↦
            let i = refused_is Absent p e (sym (ap (λ b. placed w p (cond b (Some k) None)) beyond) ∙ h) in
            let past = ltb-false k t.rows beyond in
            (i.1, (λ j s. omega (arith, past, pos_is k j s)), sym i.0)
      ]

  row_wrong : (r w : ℤ) (p : ℕ) (e : Refusal) → judged (length ws) (next_row ws) t.rows r w p ≡ Err e → (p ≡ e.place) × WrongStep n t ws (Row r w) e.fault
  row_wrong r w p e h =
      let late = ltb 0 (length ws) && lt_z r (pos (next_row ws)) in
      let fine = le_z (pos 1) w && le_z w (pos most) in
      let last = placed w p (numbered t.rows r) in
      elim (cases_Bool late) [
        | inl went ↦
            let i = refused_is NotRising p e (sym (ap (λ b. cond b (refuse NotRising p) (cond fine last (refuse OutsideLimits p))) went) ∙ h) in
            (i.1, inl (is_late r went, sym i.0))
        | inr halt ↦
            let h' = sym (ap (λ b. cond b (refuse NotRising p) (cond fine last (refuse OutsideLimits p))) halt) ∙ h in
            elim (cases_Bool fine) [
              | inl good ↦
                  let a = row_absent r w p e (sym (ap (λ b. cond b last (refuse OutsideLimits p)) good) ∙ h') in
                  (a.0, inr (inr (not_late r halt, in_range w good, a.1, a.2)))
              | inr bad ↦
                  let i = refused_is OutsideLimits p e (sym (ap (λ b. cond b last (refuse OutsideLimits p)) bad) ∙ h') in
                  (i.1, inr (inl (not_late r halt, not_in_range w bad, sym i.0)))
            ]
      ]

  close_wrong : (o : Option ℤ) (p : ℕ) (e : Refusal) → closing o p ≡ Err e → (p ≡ e.place) × (o ≡ None) × (e.fault ≡ TooLarge)
  close_wrong (Some b) p e h = absurd (never_err (Leaf b) e h)
  close_wrong None p e h = let i = refused_is TooLarge p e h in (i.1, refl, sym i.0)

-- ---- the bytes at a place

some_wrong : (n : ℕ) (t : Table) (ws : List Weight) (bs : List ℕ) (f : Fault) → 1 ≤ length bs → WrongRecord n t ws (read tree_kinds bs) f → Wrong n t ws bs f
some_wrong n t ws [] f some h = absurd (omega arith)
some_wrong n t ws (b ∷ bs) f some h = h

differ : ◌≡◌ {A = Bool} false true → ⊥
differ h = let z : ◌≡◌ {A = ℕ} 0 1 = cc in omega arith

module _ (file : List ℕ) (bytes : AllByRecursion Byte file) where
  left_over : (p q : ℕ) (xs : List ℕ) → p ≤ length file → q ≤ length file → drop p file ≡ xs ++ drop q file → q ≡ p + length xs
  left_over p q xs a b e = omega (arith, ap length e, length-append xs (drop q file), length-drop p file, length-drop q file)

  goes_on : (p q : ℕ) (s : Step) → p ≤ length file → step_at file p ≡ Ok (s, q) → (p < length file) × (p < q) × (q ≤ length file)
  goes_on p q s a h =
      let k = step_read file p q s h in
      let fits = read_fits tree_kinds (drop p file) k.0 k.1 in
      (omega (arith, fits, length-drop p file), omega (arith, fits, k.3), omega (arith, fits, k.3, length-drop p file))

  -- no byte is left, or they begin with no record
  none_wrong : (n : ℕ) (t : Table) (ws : List Weight) (p : ℕ) → length file ≤ p → Wrong n t ws (drop p file) NotOneTree
  none_wrong n t ws p past = subst (λ l. Wrong n t ws l NotOneTree) (sym (drop_all p file past)) refl

  stepped_wrong : (p : ℕ) (e : Refusal) (r : Result Content RecordFault) → stepped p r ≡ Err e → (p ≡ e.place) × ((n : ℕ) (t : Table) (ws : List Weight) → WrongRecord n t ws r e.fault)
  stepped_wrong p e (Ok c) h = absurd (never_err _ e h)
  stepped_wrong p e (Err g) h = let i = refused_is (Record g) p e h in (i.1, λ n t ws. sym i.0)

  unread : (n : ℕ) (t : Table) (ws : List Weight) (p : ℕ) (e : Refusal) → p ≤ length file → step_at file p ≡ Err e → (p ≡ e.place) × Wrong n t ws (drop p file) e.fault
  unfolding step_at
  unread n t ws p e a h =
      elim (cases_Bool (leb (length file) p)) [
        | inl ended ↦
            let past = leb-true (length file) p ended in
            let i = refused_is NotOneTree (length file) e (sym (ap (λ b. cond b (refuse NotOneTree (length file)) (stepped p (read tree_kinds (drop p file)))) ended) ∙ h) in
            (omega (arith, past, i.1), subst (Wrong n t ws (drop p file)) i.0 (none_wrong n t ws p past))
        | inr more ↦
            let left = leb-false (length file) p more in
            let s = stepped_wrong p e (read tree_kinds (drop p file)) (sym (ap (λ b. cond b (refuse NotOneTree (length file)) (stepped p (read tree_kinds (drop p file)))) more) ∙ h) in
            (s.0, some_wrong n t ws (drop p file) e.fault (omega (arith, left, length-drop p file)) (s.1 n t ws))
      ]

  -- a record that may not stand there
  misplaced : (n : ℕ) (t : Table) (ws : List Weight) (p q : ℕ) (s : Step) (f : Fault) → p ≤ length file → step_at file p ≡ Ok (s, q) → WrongStep n t ws s f → Wrong n t ws (drop p file) f
  misplaced n t ws p q s f a h wrong =
      let k = step_read file p q s h in
      let left = (goes_on p q s a h).0 in
      some_wrong n t ws (drop p file) f (omega (arith, left, length-drop p file))
      (subst (λ r. WrongRecord n t ws r f) (sym k.1) (subst (λ s. WrongStep n t ws s f) (sym k.2) wrong))

  -- ---- a leaf

  abbrev LeafStops : ℕ → Table → List Weight → ℕ → Refusal → Type 0
  LeafStops n t ws p e =
      (more : List Weight) × (rest : List ℕ) × (drop p file ≡ rows_bytes more ++ rest) × (e.place ≡ p + length (rows_bytes more)) × AllByRecursion (Weighs t) more × Rising (next_row ws) more × Wrong n t (ws ++ more) rest e.fault

  -- it is wrong at once
  at_once : (n : ℕ) (t : Table) (ws : List Weight) (p : ℕ) (e : Refusal) → p ≡ e.place → Wrong n t ws (drop p file) e.fault → LeafStops n t ws p e
  at_once n t ws p e here wrong = ([], drop p file, refl, omega (arith, here), tt, tt, subst (λ l. Wrong n t l (drop p file) e.fault) (sym (append-nil ws)) wrong)

  -- a weight before it
  weight_first : (n : ℕ) (t : Table) (ws : List Weight) (p q : ℕ) (w : Weight) (e : Refusal) → p ≤ length file → step_at file p ≡ Ok (Row (pos w.row) w.weight, q) → Weighs t w → next_row ws ≤ w.row
      → LeafStops n t (ws ++ w ∷ []) q e → LeafStops n t ws p e
  weight_first n t ws p q w e a is good rises s =
      let one = encode 9 (pos w.row ∷ w.weight ∷ []) in
      let more = s.0 in
      let rest = s.1 in
      let spelled = row_bytes file bytes p q (pos w.row) w.weight is in
      let next : next_row (ws ++ w ∷ []) ≡ w.row + 1 = fold_push (λ n w. w.row + 1) 0 ws w in
      let size : q ≡ p + length one = left_over p q one a (goes_on p q _ a is).2 spelled in (
        w ∷ more,
        rest,
        spelled ∙ ap (λ l. one ++ l) s.2 ∙ sym (append_assoc one (rows_bytes more) rest),
        omega (arith, s.3, size, length-append one (rows_bytes more)),
        (good, s.4),
        (rises, subst (λ n. Rising n more) next s.5),
        subst (λ l. Wrong n t l rest e.fault) (append_assoc ws (w ∷ []) more) s.6,
      )

  step_stops : (n : ℕ) (t : Table) (ws : List Weight) (p : ℕ) (e : Refusal) (q : ℕ) (more : List Weight → ℕ → Result (Found × ℕ) Refusal) (s : Step) → p ≤ length file → step_at file p ≡ Ok (s, q) → leaf_step t p more ws s q ≡ Err e
      → ((w : Weight) → more (ws ++ w ∷ []) q ≡ Err e → LeafStops n t (ws ++ w ∷ []) q e) → LeafStops n t ws p e
  step_stops n t ws p e q more (Split v) a is h further =
      elim (then_err (opened t.variables (length ws) v p) (λ f. Ok (f, q)) e h) [
        | inl halt ↦ let w = split_wrong n t ws v p e halt in at_once n t ws p e w.0 (misplaced n t ws p q (Split v) e.fault a is w.1)
        | inr went ↦ absurd (never_err _ e went.2)
      ]
  step_stops n t ws p e q more (Row r w) a is h further =
      elim (then_err (judged (length ws) (next_row ws) t.rows r w p) (λ x. more (ws ++ x ∷ []) q) e h) [
        | inl halt ↦ let b = row_wrong n t ws r w p e halt in at_once n t ws p e b.0 (misplaced n t ws p q (Row r w) e.fault a is b.1)
        | inr went ↦
            let x = went.0 in
            let good = accepted (length ws) (next_row ws) t.rows r w p x went.1 in
            weight_first n t ws p q x e a (is ∙ (λ i. Ok (Row (good.row_is i) (good.weight_is i), q)))
            (record { there = good.there; least = good.least; greatest = good.greatest })
            (first_rises t file ws x.row good.rises) (further x went.2)
      ]
  step_stops n t ws p e q more Close a is h further =
      elim (then_err (closing (leaf_bound t ws) p) (λ f. Ok (f, q)) e h) [
        | inl halt ↦ let w = close_wrong n t ws (leaf_bound t ws) p e halt in at_once n t ws p e w.0 (misplaced n t ws p q Close e.fault a is (w.1, w.2))
        | inr went ↦ absurd (never_err _ e went.2)
      ]

  leaf_stops : (n : ℕ) (t : Table) (k : ℕ) (ws : List Weight) (p : ℕ) (e : Refusal) → length file ≤ k + p → p ≤ length file → leaf_at k t file ws p ≡ Err e → LeafStops n t ws p e
  unfolding leaf_at
  leaf_stops n t zero ws p e enough a h =
      let i = refused_is NotOneTree (length file) e h in
      let past : length file ≤ p = omega arith in
      at_once n t ws p e (omega (arith, i.1)) (subst (Wrong n t ws (drop p file)) i.0 (none_wrong n t ws p past))
  leaf_stops n t (suc k) ws p e enough a h =
      elim (then_err (step_at file p) (λ s. leaf_step t p (leaf_at k t file) ws s.0 s.1) e h) [
        | inl halt ↦ let u = unread n t ws p e a halt in at_once n t ws p e u.0 u.1
        | inr went ↦
            let q = went.0.1 in
            let go = goes_on p q went.0.0 a went.1 in
            step_stops n t ws p e q (leaf_at k t file) went.0.0 a went.1 went.2
            (λ w i. leaf_stops n t k (ws ++ w ∷ []) q e (omega (arith, enough, go.1)) go.2 i)
      ]

  -- ---- a node

  abbrev Halts : ℕ → Table → ℕ → Refusal → Type 0
  Halts n t p e = (path : Path) × (rest : List ℕ) × (drop p file ≡ path_bytes path ++ rest) × (e.place ≡ p + length (path_bytes path)) × Stops n t path rest e.fault

  leaf_halts : (n : ℕ) (t : Table) (p : ℕ) (e : Refusal) → LeafStops n t [] p e → Halts n t p e
  leaf_halts zero t p e s = (within s.0, s.1, s.2, s.3, (s.4, s.5, s.6))
  leaf_halts (suc n) t p e s = (within s.0, s.1, s.2, s.3, (s.4, s.5, s.6))

  split_stops : (n : ℕ) (t : Table) (p q v : ℕ) (e : Refusal) → p ≤ length file → step_at file p ≡ Ok (Split (pos v), q) → p ≡ e.place → WrongStep n t [] (Split (pos v)) e.fault → Halts n t p e
  split_stops n t p q v e a is here wrong = leaf_halts n t p e (at_once n t [] p e here (misplaced n t [] p q (Split (pos v)) e.fault a is wrong))

  off_halts : (n : ℕ) (t : Table) (p q v : ℕ) (e : Refusal) → p ≤ length file → step_at file p ≡ Ok (Split (pos v), q) → MaySplit t v → Halts n (holding t v (pos 0)) q e → Halts (suc n) t p e
  off_halts n t p q v e a is may s =
      let one = encode 8 (pos v ∷ []) in
      let spelled = split_bytes file bytes p q (pos v) is in
      let size : q ≡ p + length one = left_over p q one a (goes_on p q _ a is).2 spelled in (
        off v s.0,
        s.1,
        spelled ∙ ap (λ l. one ++ l) s.2 ∙ sym (append_assoc one (path_bytes s.0) s.1),
        omega (arith, s.3, size, length-append one (path_bytes s.0)),
        (may, s.4),
      )

  on_halts : (n : ℕ) (t : Table) (p q m v : ℕ) (tree : Tree) (e : Refusal) → p ≤ length file → m ≤ length file → step_at file p ≡ Ok (Split (pos v), q) → MaySplit t v
      → Spells file q tree m → Sits n (holding t v (pos 0)) tree → Halts n (holding t v (pos 1)) m e → Halts (suc n) t p e
  on_halts n t p q m v tree e a b is may spells sits s =
      let one = encode 8 (pos v ∷ []) in
      let two = tree_bytes tree in
      let three = path_bytes s.0 in
      let first = split_bytes file bytes p q (pos v) is in
      let second = tree_bytes_lem file bytes tree q m spells in
      let within-q = (goes_on p q _ a is).2 in
      let size : q ≡ p + length one = left_over p q one a within-q first in
      let size' : m ≡ q + length two = left_over q m two within-q b second in (
        on v tree s.0,
        s.1,
        first ∙ ap (λ l. one ++ l) (second ∙ ap (λ l. two ++ l) s.2 ∙ sym (append_assoc two three s.1)) ∙ sym (append_assoc one (two ++ three) s.1),
        omega (arith, s.3, size, size', length-append one (two ++ three), length-append two three),
        (may, sits, s.4),
      )

  -- a whole tree ends within the file
  leaf_within : (ws : List Weight) (p q : ℕ) → p ≤ length file → SpellsLeaf file p ws q → q ≤ length file
  leaf_within [] p q a h = (goes_on p q Close a h).2
  leaf_within (w ∷ ws) p q a h = leaf_within ws h.0 q (goes_on p h.0 _ a h.1).2 h.2

  tree_within : (tree : Tree) (p q : ℕ) → p ≤ length file → Spells file p tree q → q ≤ length file
  tree_within (leaf ws) p q a h = leaf_within ws p q a h
  tree_within (split v x y) p q a h = tree_within y h.1 q (tree_within x h.0 h.1 (goes_on p h.0 _ a h.2).2 h.3) h.4

  found_stops : (n : ℕ) (t : Table) (p : ℕ) (e : Refusal) (below : ℕ → ℕ → Result (ℤ × ℕ) Refusal) (f : Found) (q : ℕ) → p ≤ length file → found_at t file p ≡ Ok (f, q) → node_step t p below f q ≡ Err e
      → ((v : ℕ) → step_at file p ≡ Ok (Split (pos v), q) → MaySplit t v → below v q ≡ Err e → Halts n t p e) → Halts n t p e
  found_stops n t p e below (Branch v) q a is h deeper =
      let says = leaf_says t file (length file) [] p q (Branch v) is in
      elim (cases_Bool (allowed t v)) [
        | inl may ↦
            let m = allowed_is t v may in
            deeper v says.2 (says.1, m.0, m.1, m.2) (sym (ap (λ b. cond b (below v q) (refuse SplitBarred p)) may) ∙ h)
        | inr halt ↦
            let i = refused_is SplitBarred p e (sym (ap (λ b. cond b (below v q) (refuse SplitBarred p)) halt) ∙ h) in
            split_stops n t p q v e a says.2 i.1 (inr (inl (v, refl, says.1, inr (λ m. differ (sym halt ∙ allowed_yes t v m.1 m.2 m.3)), sym i.0)))
      ]
  found_stops n t p e below (Leaf b) q a is h deeper = absurd (never_err _ e h)

  node_stops : (n : ℕ) (t : Table) (p : ℕ) (e : Refusal) → p ≤ length file → node_at n t file p ≡ Err e → Halts n t p e
  unfolding node_at
  node_stops zero t p e a h =
      elim (then_err (found_at t file p) (λ f. node_step t p (λ v q. refuse TooDeep p) f.0 f.1) e h) [
        | inl halt ↦ leaf_halts zero t p e (leaf_stops zero t (length file) [] p e (omega arith) a halt)
        | inr went ↦
            found_stops zero t p e (λ v q. refuse TooDeep p) went.0.0 went.0.1 a went.1 went.2
            (λ v is may deep.
            let i = refused_is TooDeep p e deep in
            split_stops zero t p went.0.1 v e a is i.1 (inr (inr (v, refl, may, refl, refl, sym i.0))))
      ]
  node_stops (suc n) t p e a h =
      let below : ℕ → ℕ → Result (ℤ × ℕ) Refusal = λ v. sides (node_at n (holding t v (pos 0)) file) (node_at n (holding t v (pos 1)) file) in
      elim (then_err (found_at t file p) (λ f. node_step t p below f.0 f.1) e h) [
        | inl halt ↦ leaf_halts (suc n) t p e (leaf_stops (suc n) t (length file) [] p e (omega arith) a halt)
        | inr went ↦
            let q = went.0.1 in
            found_stops (suc n) t p e below went.0.0 q a went.1 went.2
            (λ v is may deep.
            let within-q = (goes_on p q _ a is).2 in
            elim (then_err (node_at n (holding t v (pos 0)) file q) (λ a. and_then (node_at n (holding t v (pos 1)) file a.1) (λ b. Ok (int_max a.0 b.0, b.1))) e deep) [
              | inl halt ↦ off_halts n t p q v e a is may (node_stops n (holding t v (pos 0)) q e within-q halt)
              | inr first ↦
                  let x = first.0 in
                  let done = node_proved n (holding t v (pos 0)) file q x first.1 in
                  let within-m = tree_within done.0 q x.1 within-q done.1 in
                  elim (then_err (node_at n (holding t v (pos 1)) file x.1) (λ b. Ok (int_max x.0 b.0, b.1)) e first.2) [
                    | inl halt ↦ on_halts n t p q x.1 v done.0 e a within-m is may done.1 done.2 (node_stops n (holding t v (pos 1)) x.1 e within-m halt)
                    | inr second ↦ absurd (never_err _ e second.2)
                  ]
            ])
      ]

  -- ---- a file

  pub refuses : (t : Table) (e : Refusal) → checked t file ≡ Err e → Refused t file e
  refuses t e h =
      let ending : ℤ × ℕ → Result ℤ Refusal = λ b. finished file b.0 b.1 in
      elim (cases_Bool (ltb 65535 (length file))) [
        | inl long ↦
            let i = refused_is (Record TooLong) 0 e (sym (ap (λ b. cond b (refuse (Record TooLong) 0) (and_then (node_at 64 t file 0) ending)) long) ∙ h) in
            inl (ltb-true 65535 (length file) long, sym i.0, sym i.1)
        | inr short ↦
            elim (then_err (node_at 64 t file 0) ending e (sym (ap (λ b. cond b (refuse (Record TooLong) 0) (and_then (node_at 64 t file 0) ending)) short) ∙ h)) [
              | inl halt ↦ let s = node_stops 64 t 0 e (omega arith) halt in inr (inl (s.0, s.1, s.2, omega (arith, s.3), s.4))
              | inr went ↦
                  let q = went.0.1 in
                  let done = node_proved 64 t file 0 went.0 went.1 in
                  let ends = tree_within done.0 0 q (omega arith) done.1 in
                  let spelled = tree_bytes_lem file bytes done.0 0 q done.1 in
                  elim (cases_Bool (leb (length file) q)) [
                    | inl ended ↦ absurd (never_err _ e (sym (ap (λ b. cond b (Ok went.0.0) (refuse NotOneTree q)) ended) ∙ went.2))
                    | inr more ↦
                        let i = refused_is NotOneTree q e (sym (ap (λ b. cond b (Ok went.0.0) (refuse NotOneTree q)) more) ∙ went.2) in
                        let left = leb-false (length file) q more in
                        let size = left_over 0 q (tree_bytes done.0) (omega arith) ends spelled in
                        inr (inr (done.0, drop q file, went.0.0, spelled, omega (arith, left, length-drop q file), done.2, done.3, sym i.0, omega (arith, i.1, size)))
                  ]
            ]
      ]

  pub all_refuses : (t : Table) (r : Result ℤ Refusal) → r ≡ checked t file → refused_by r (λ e. Refused t file e)
  all_refuses t (Ok b) is = tt
  all_refuses t (Err e) is = refuses t e (sym is)
