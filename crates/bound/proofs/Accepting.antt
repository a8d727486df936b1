-- The bytes of a tree that sits in the table are accepted.
use Rattle.std.proofs.Common.{◌≡◌, ℕ, zero, suc, ◌+◌, ◌-◌, ◌<◌, ◌≤◌, true, ltb, List, [], ◌∷◌, ◌++◌, length, drop, ℤ, pos, ◌≤ℤ◌, Some, Ok, sym, refl, ap, ◌∙◌, subst, append_assoc, append-nil, arith, length-append, length-drop, w64, SFits}
use lib.Signed.{le_z}
use Rattle.std.proofs.lemmas.List.{drop-drop, drop_at}
use Rattle.std.proofs.lemmas.Int.{ints}
use Rattle.std.proofs.lemmas.List.Sums.{fold_push}
use Rattle.std.proofs.lemmas.Bool.{and_from, and_right, cond-true, cond-false, lt-ltb, le-ltb}
use Rattle.std.specs.Int.{int_max}
use Rattle.std.specs.List.{AllByRecursion}
use Rattle.records.specs.Read.{read}
use Rattle.records.specs.Write.{encode, padded, written, Writable}
use Rattle.records.proofs.Writing.{reads_back}
use Rattle.bound.specs.declared.tree.Found.TheVariants.{Branch, Leaf}
use Rattle.bound.specs.declared.reader.Step.{Step}
use Rattle.bound.specs.declared.reader.Step.TheVariants.{Split, Row, Close}
use Rattle.bound.specs.declared.leaf.Weight.{Weight}
use Rattle.bound.specs.Tables.{Table, Lawful, most}
use Rattle.bound.specs.Leaves.{after, leaf_bound}
use Rattle.bound.specs.Steps.{tree_kinds, and_then, step_of, step_at}
use Rattle.bound.specs.Checks.{placed, branching, judged, closing, next_row, leaf_at, found_at, is_nat, allowed, node_at, checked}
use Rattle.bound.specs.Layers.{holding}
use Rattle.bound.specs.Trees.{Tree, leaf, split, Weighs, Rising, Sits, tree_bound, leaf_bytes, tree_bytes}
use Rattle.bound.proofs.Duality.{after_is, some_is}
use Rattle.bound.proofs.Reading.{step_ok, leaf_ok, node_leaf, node_both}
use Rattle.bound.proofs.Sound.{whole_checked}

-- what a row's test asks
least_is : (a b : ℤ) → a ≤ℤ b → le_z a b ≡ true
least_is a b h = grind (arith, ints)

judged_ok : (count next rows p : ℕ) (w : Weight) → next ≤ w.row → w.row < rows → pos 1 ≤ℤ w.weight → w.weight ≤ℤ pos most → judged count next rows (pos w.row) w.weight p ≡ Ok w
judged_ok count next rows p w rises there least greatest =
    cond-false _ _ _ (and_right (ltb 0 count) (ltb w.row next) (le-ltb w.row next rises))
    ∙ cond-true _ _ _ (and_from _ _ (least_is (pos 1) w.weight least) (least_is w.weight (pos most) greatest))
    ∙ ap (placed w.weight p) (cond-true _ _ _ (lt-ltb w.row rows there))

pub allowed_yes : (t : Table) (v : ℕ) → t.whole v ≡ true → t.low v ≡ pos 0 → t.high v ≡ pos 1 → allowed t v ≡ true
allowed_yes t v marked low high = and_from _ _ marked (and_from _ _ (ap (λ z. is_nat z 0) low) (ap (λ z. is_nat z 1) high))

small_fits : (n : ℕ) → n < 1024 → SFits w64 (pos n)
small_fits n h = omega (arith, ints)

weight_fits : (z : ℤ) → pos 1 ≤ℤ z → z ≤ℤ pos most → SFits w64 z
weight_fits z h k = omega (arith, ints)

module _ (file : List ℕ) where
  -- what is written at p, and what comes after it
  record At (p : ℕ) (here rest : List ℕ) : Type 0 where
    stands : drop p file ≡ here ++ rest
    within : p ≤ length file

  past : (p : ℕ) (here rest : List ℕ) → At p here rest → length file ≡ (p + length here) + length rest
  past p here rest at = let long = sym (length-drop p file) ∙ ap length at.stands ∙ length-append here rest in omega (arith, at.within)

  next : (p : ℕ) (here rest more : List ℕ) → At p here (rest ++ more) → At (p + length here) rest more
  next p here rest more at =
      let long = past p here (rest ++ more) at in
      record {
        stands = sym (drop-drop (length here) p file) ∙ ap (drop (length here)) at.stands ∙ drop_at here (rest ++ more) (length here) refl;
        within = omega (arith, long);
      }

  regroup : (p : ℕ) (a b rest : List ℕ) → At p (a ++ b) rest → At p a (b ++ rest)
  regroup p a b rest at = record { stands = at.stands ∙ append_assoc a b rest; within = at.within }

  reads : (p kind : ℕ) (zs : List ℤ) (rest : List ℕ) (s : Step) → At p (encode kind zs) rest → Writable tree_kinds kind zs → step_of (written kind zs) ≡ s → step_at file p ≡ Ok (s, p + length (encode kind zs))
  reads p kind zs rest s at fits is =
      let long = past p (encode kind zs) rest at in
      let more : p < length file = omega (arith, long) in
      step_ok file p _ s _ more (ap (read tree_kinds) at.stands ∙ reads_back tree_kinds kind zs rest fits) is refl

  reads_split : (p v : ℕ) (rest : List ℕ) → v < 1024 → At p (encode 8 (pos v ∷ [])) rest → step_at file p ≡ Ok (Split (pos v), p + length (encode 8 (pos v ∷ [])))
  unfolding padded
  reads_split p v rest small at = reads p 8 (pos v ∷ []) rest (Split (pos v)) at (record { count = 1; counted = refl; few = omega arith; mapped = omega arith; fit = (small_fits v small, tt) }) refl

  reads_row : (p : ℕ) (w : Weight) (rest : List ℕ) → w.row < 1024 → pos 1 ≤ℤ w.weight → w.weight ≤ℤ pos most → At p (encode 9 (pos w.row ∷ w.weight ∷ [])) rest
      → step_at file p ≡ Ok (Row (pos w.row) w.weight, p + length (encode 9 (pos w.row ∷ w.weight ∷ [])))
  unfolding padded
  reads_row p w rest small least greatest at =
      reads p 9 (pos w.row ∷ w.weight ∷ []) rest (Row (pos w.row) w.weight) at
      (record { count = 2; counted = refl; few = omega arith; mapped = omega arith; fit = (small_fits w.row small, (weight_fits w.weight least greatest, tt)) }) refl

  reads_close : (p : ℕ) (rest : List ℕ) → At p (encode 10 []) rest → step_at file p ≡ Ok (Close, p + length (encode 10 []))
  reads_close p rest at = reads p 10 [] rest Close at (record { count = 0; counted = refl; few = omega arith; mapped = omega arith; fit = tt }) refl

  leaf_reads : (t : Table) (b : ℤ) → t.rows ≤ 1024 → (more : List Weight) (n : ℕ) (ws : List Weight) (p : ℕ) (rest : List ℕ) → length file ≤ n + p → At p (leaf_bytes more) rest
      → AllByRecursion (Weighs t) more → Rising (next_row ws) more → leaf_bound t (ws ++ more) ≡ Some b → leaf_at n t file ws p ≡ Ok (Leaf b, p + length (leaf_bytes more))
  leaf_reads t b few [] n ws p rest enough at all rising is =
      leaf_ok n t file ws p enough Close _ (reads_close p rest at)
      ∙ ap (λ o. and_then (closing o p) (λ f. Ok (f, p + length (encode 10 [])))) (ap (leaf_bound t) (sym (append-nil ws)) ∙ is)
  leaf_reads t b few (w ∷ more) n ws p rest enough at all rising is =
      let here = encode 9 (pos w.row ∷ w.weight ∷ []) in
      let good = all.0 in
      let at' = regroup p here (leaf_bytes more) rest at in
      let q = p + length here in
      let small : w.row < 1024 = omega (arith, good.there) in
      let step = reads_row p w (leaf_bytes more ++ rest) small good.least good.greatest at' in
      let fuel : length file ≤ (n - 1) + q = omega (arith, enough) in
      let size : q + length (leaf_bytes more) ≡ p + length (here ++ leaf_bytes more) = omega (arith, length-append here (leaf_bytes more)) in
      let up : Rising (next_row (ws ++ w ∷ [])) more = subst (λ k. Rising k more) (sym (fold_push (λ n w. w.row + 1) 0 ws w)) rising.1 in
      leaf_ok n t file ws p enough (Row (pos w.row) w.weight) q step
      ∙ ap (λ r. and_then r (λ x. leaf_at (n - 1) t file (ws ++ x ∷ []) q)) (judged_ok (length ws) (next_row ws) t.rows p w rising.0 good.there good.least good.greatest)
      ∙ leaf_reads t b few more (n - 1) (ws ++ w ∷ []) q rest fuel (next p here (leaf_bytes more) rest at') all.1 up (ap (leaf_bound t) (append_assoc ws (w ∷ []) more) ∙ is)
      ∙ ap (λ k. Ok (Leaf b, k)) size

  branch_reads : (t : Table) (v p : ℕ) (rest : List ℕ) → t.variables ≤ 256 → v < t.variables → At p (encode 8 (pos v ∷ [])) rest → found_at t file p ≡ Ok (Branch v, p + length (encode 8 (pos v ∷ [])))
  branch_reads t v p rest few known at =
      let q = p + length (encode 8 (pos v ∷ [])) in
      leaf_ok (length file) t file [] p (omega arith) (Split (pos v)) q (reads_split p v rest (omega arith) at)
      ∙ ap (λ o. and_then (branching 0 p o) (λ f. Ok (f, q))) (cond-true _ _ _ (lt-ltb v t.variables known))

  tree_reads : (n : ℕ) (t : Table) (tree : Tree) (b : ℤ) (p : ℕ) (rest : List ℕ) → t.variables ≤ 256 → t.rows ≤ 1024 → At p (tree_bytes tree) rest → Sits n t tree → tree_bound t tree ≡ Some b
      → node_at n t file p ≡ Ok (b, p + length (tree_bytes tree))
  tree_reads zero t (leaf ws) b p rest vars rows at sits is =
      node_leaf t file p zero b _ (leaf_reads t b rows ws (length file) [] p rest (omega arith) at sits.0 sits.1 is)
  tree_reads (suc n) t (leaf ws) b p rest vars rows at sits is =
      node_leaf t file p (suc n) b _ (leaf_reads t b rows ws (length file) [] p rest (omega arith) at sits.0 sits.1 is)
  tree_reads zero t (split v a c) b p rest vars rows at sits is = absurd sits
  tree_reads (suc n) t (split v a c) b p rest vars rows at sits is =
      let here = encode 8 (pos v ∷ []) in
      let at₀ = regroup p here (tree_bytes a ++ tree_bytes c) rest at in
      let at₁ = regroup (p + length here) (tree_bytes a) (tree_bytes c) rest (next p here (tree_bytes a ++ tree_bytes c) rest at₀) in
      let at₂ = next (p + length here) (tree_bytes a) (tree_bytes c) rest at₁ in
      let q = p + length here in
      let m = q + length (tree_bytes a) in
      let x = after_is (tree_bound (holding t v (pos 0)) a) (λ x. after (tree_bound (holding t v (pos 1)) c) (λ y. Some (int_max x y))) b is in
      let y = after_is (tree_bound (holding t v (pos 1)) c) (λ y. Some (int_max x.0 y)) b x.2 in
      let found = branch_reads t v p ((tree_bytes a ++ tree_bytes c) ++ rest) vars sits.0 at₀ in
      let off = tree_reads n (holding t v (pos 0)) a x.0 q (tree_bytes c ++ rest) vars rows at₁ sits.4 x.1 in
      let on = tree_reads n (holding t v (pos 1)) c y.0 m rest vars rows at₂ sits.5 y.1 in
      let size : m + length (tree_bytes c) ≡ p + length (here ++ (tree_bytes a ++ tree_bytes c)) =
      omega (arith, length-append here (tree_bytes a ++ tree_bytes c), length-append (tree_bytes a) (tree_bytes c)) in
      node_both t file p (suc n) n v q refl (allowed_yes t v sits.1 sits.2 sits.3) found x.0 m y.0 _ off on
      ∙ (λ i. Ok (some_is (int_max x.0 y.0) b y.2 i, size i))

pub accepts : (t : Table) (file : List ℕ) (tree : Tree) (b : ℤ) → Lawful t → file ≡ tree_bytes tree → length file ≤ 65535 → Sits 64 t tree → tree_bound t tree ≡ Some b → checked t file ≡ Ok b
accepts t file tree b lawful is short sits bound =
    let at : At file 0 (tree_bytes tree) [] = record { stands = is ∙ sym (append-nil (tree_bytes tree)); within = omega arith } in
    let ended : length file ≤ 0 + length (tree_bytes tree) = omega (arith, ap length is) in
    whole_checked t file short b _ (tree_reads file 64 t tree b 0 [] lawful.few_variables lawful.few_rows at sits bound) ended
