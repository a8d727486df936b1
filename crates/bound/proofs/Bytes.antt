-- The steps of a tree are its bytes.
use Rattle.std.proofs.Common.{◌≡◌, ℕ, ◌+◌, ◌-◌, ◌≤◌, Bool, true, false, cond, eqb, leb, List, [], ◌∷◌, ◌++◌, length, get_or, take, drop, ℤ, pos, Some, None, Ok, Err, Option, Result, sym, refl, ap, ◌∙◌, append_assoc, append-nil, arith}
use Rattle.std.proofs.ByRecursion.{All-drop}
use Rattle.std.proofs.lemmas.List.{drop-drop, drop_all}
use Rattle.std.proofs.lemmas.Bool.{eqb-true, cond-false}
use Rattle.std.specs.List.{AllByRecursion}
use Rattle.records.specs.Read.{Content, read, field_count}
use Rattle.records.specs.Write.{Byte, encode}
use Rattle.records.specs.declared.Fault.{Fault as RecordFault}
use Rattle.records.proofs.Rewriting.{writes_back}
use Rattle.records.proofs.Spelling.{Own, read_own}
use Rattle.records.proofs.Tails.{encode_more}
use Rattle.bound.specs.declared.faults.Fault.TheVariants.{NotOneTree}
use Rattle.bound.specs.declared.leaf.Weight.{Weight}
use Rattle.bound.specs.declared.reader.Step.{Step}
use Rattle.bound.specs.declared.reader.Step.TheVariants.{Split, Row, Close}
use Rattle.bound.specs.Steps.{tree_kinds, step_of, stepped, step_at}
use Rattle.bound.specs.Trees.{Tree, leaf, split, leaf_bytes, tree_bytes}
use Rattle.bound.proofs.Outcomes.{never, inside, not_refused}
use Rattle.bound.proofs.Spelling.{SpellsLeaf, Spells}

-- a step was read as a record
stepped_is : (p q : ℕ) (s : Step) (r : Result Content RecordFault) → stepped p r ≡ Ok (s, q) → (e : Content) × (r ≡ Ok e) × (step_of e ≡ s) × (p + e.size ≡ q)
stepped_is p q s (Ok e) h = let same = inside (step_of e, p + e.size) (s, q) h in (e, refl, ap (λ x. x.0) same, ap (λ x. x.1) same)
stepped_is p q s (Err f) h = absurd (never _ (s, q) h)

pub step_read : (file : List ℕ) (p q : ℕ) (s : Step) → step_at file p ≡ Ok (s, q) → (e : Content) × (read tree_kinds (drop p file) ≡ Ok e) × (step_of e ≡ s) × (p + e.size ≡ q)
unfolding step_at
step_read file p q s h = stepped_is p q s (read tree_kinds (drop p file)) (not_refused (leb (length file) p) NotOneTree (length file) _ (s, q) h).1

split_at : (a b : Bool) (x y w z : ℤ) → cond a (Split x) (cond b (Row y w) Close) ≡ Split z → (a ≡ true) × (x ≡ z)
split_at true b x y w z e = (refl, cc)
split_at false true x y w z e = let z : ◌≡◌ {A = ℕ} 0 1 = cc in absurd (omega arith)
split_at false false x y w z e = let z : ◌≡◌ {A = ℕ} 0 1 = cc in absurd (omega arith)

row_at : (a b : Bool) (x y w r z : ℤ) → cond a (Split x) (cond b (Row y w) Close) ≡ Row r z → (b ≡ true) × (y ≡ r) × (w ≡ z)
row_at true b x y w r z e = let z : ◌≡◌ {A = ℕ} 0 1 = cc in absurd (omega arith)
row_at false true x y w r z e = (refl, (cc), (cc))
row_at false false x y w r z e = let z : ◌≡◌ {A = ℕ} 0 1 = cc in absurd (omega arith)

close_at : (a b : Bool) (x y w : ℤ) → cond a (Split x) (cond b (Row y w) Close) ≡ Close → (a ≡ false) × (b ≡ false)
close_at true b x y w e = let z : ◌≡◌ {A = ℕ} 0 1 = cc in absurd (omega arith)
close_at false true x y w e = let z : ◌≡◌ {A = ℕ} 0 1 = cc in absurd (omega arith)
close_at false false x y w e = (refl, refl)

ten_at : (a b c : Bool) (count : ℕ) → a ≡ false → b ≡ false → cond a (Some 1) (cond b (Some 2) (cond c (Some 0) None)) ≡ Some count → (c ≡ true) × (count ≡ 0)
ten_at a b true count x y e = let same : ◌≡◌ {A = Option ℕ} (Some 0) (Some count) = sym (cond-false _ _ _ x ∙ cond-false _ _ _ y) ∙ e in let z : 0 ≡ count = cc in (refl, sym z)
ten_at a b false count x y e = let same : ◌≡◌ {A = Option ℕ} None (Some count) = sym (cond-false _ _ _ x ∙ cond-false _ _ _ y) ∙ e in let z : ◌≡◌ {A = ℕ} 0 1 = cc in absurd (omega arith)

counts : (kind count n : ℕ) (k : ℕ) → kind ≡ k → field_count tree_kinds k ≡ Some n → field_count tree_kinds kind ≡ Some count → count ≡ n
counts kind count n k same is e = let z : ◌≡◌ {A = Option ℕ} (Some count) (Some n) = sym e ∙ ap (field_count tree_kinds) same ∙ is in cc

take_one : (zs : List ℤ) → 1 ≤ length zs → take 1 zs ≡ get_or zs 0 (pos 0) ∷ []
take_one [] h = absurd (omega arith)
take_one (z ∷ zs) h = refl

take_two : (zs : List ℤ) → 2 ≤ length zs → take 2 zs ≡ get_or zs 0 (pos 0) ∷ get_or zs 1 (pos 0) ∷ []
take_two [] h = absurd (omega arith)
take_two (y ∷ []) h = absurd (omega arith)
take_two (y ∷ z ∷ zs) h = refl

-- each step is the bytes of its record
module _ (file : List ℕ) (bytes : AllByRecursion Byte file) (p q : ℕ) where
  record_bytes : (c : Content) (own : Own tree_kinds c) → read tree_kinds (drop p file) ≡ Ok c → p + c.size ≡ q → drop p file ≡ encode c.kind (take own.count c.fields) ++ drop q file
  record_bytes c own is past =
      let few = take own.count c.fields in
      writes_back tree_kinds (drop p file) c (All-drop Byte p file bytes) is
      ∙ ap (λ l. l ++ drop c.size (drop p file)) (ap (encode c.kind) own.parts ∙ encode_more c.kind few (16 - own.count))
      ∙ ap (λ l. encode c.kind few ++ l) (drop-drop c.size p file ∙ ap (λ n. drop n file) past)

  pub split_bytes : (z : ℤ) → step_at file p ≡ Ok (Split z, q) → drop p file ≡ encode 8 (z ∷ []) ++ drop q file
  split_bytes z h =
      let k = step_read file p q (Split z) h in
      let e = k.0 in
      let own = read_own tree_kinds (drop p file) e k.1 in
      let at = split_at (eqb 8 e.kind) (eqb 9 e.kind) _ _ _ z k.2 in
      let eight = sym (eqb-true 8 e.kind at.0) in
      let one = counts e.kind own.count 1 8 eight refl own.counted in
      record_bytes e own k.1 k.3
      ∙ (λ i. encode (eight i) (take (one i) e.fields) ++ drop q file)
      ∙ ap (λ l. encode 8 l ++ drop q file) (take_one e.fields (omega (arith, own.long)) ∙ ap (λ x. x ∷ []) at.1)

  pub row_bytes : (r w : ℤ) → step_at file p ≡ Ok (Row r w, q) → drop p file ≡ encode 9 (r ∷ w ∷ []) ++ drop q file
  row_bytes r w h =
      let k = step_read file p q (Row r w) h in
      let e = k.0 in
      let own = read_own tree_kinds (drop p file) e k.1 in
      let at = row_at (eqb 8 e.kind) (eqb 9 e.kind) _ _ _ r w k.2 in
      let nine = sym (eqb-true 9 e.kind at.0) in
      let two = counts e.kind own.count 2 9 nine refl own.counted in
      record_bytes e own k.1 k.3
      ∙ (λ i. encode (nine i) (take (two i) e.fields) ++ drop q file)
      ∙ ap (λ l. encode 9 l ++ drop q file) (take_two e.fields (omega (arith, own.long)) ∙ (λ i. at.1 i ∷ at.2 i ∷ []))

  close_bytes : step_at file p ≡ Ok (Close, q) → drop p file ≡ encode 10 [] ++ drop q file
  close_bytes h =
      let k = step_read file p q Close h in
      let e = k.0 in
      let own = read_own tree_kinds (drop p file) e k.1 in
      let at = close_at (eqb 8 e.kind) (eqb 9 e.kind) _ _ _ k.2 in
      let none = ten_at (eqb 8 e.kind) (eqb 9 e.kind) (eqb 10 e.kind) own.count at.0 at.1 own.counted in
      let ten = sym (eqb-true 10 e.kind none.0) in
      record_bytes e own k.1 k.3 ∙ (λ i. encode (ten i) (take (none.1 i) e.fields) ++ drop q file)

module _ (file : List ℕ) (bytes : AllByRecursion Byte file) where
  leaf_bytes_lem : (ws : List Weight) (p q : ℕ) → SpellsLeaf file p ws q → drop p file ≡ leaf_bytes ws ++ drop q file
  leaf_bytes_lem [] p q h = close_bytes file bytes p q h
  leaf_bytes_lem (w ∷ ws) p q h =
      let here = encode 9 (pos w.row ∷ w.weight ∷ []) in
      row_bytes file bytes p h.0 (pos w.row) w.weight h.1 ∙ ap (λ l. here ++ l) (leaf_bytes_lem ws h.0 q h.2) ∙ sym (append_assoc here (leaf_bytes ws) (drop q file))

  pub tree_bytes_lem : (tree : Tree) (p q : ℕ) → Spells file p tree q → drop p file ≡ tree_bytes tree ++ drop q file
  tree_bytes_lem (leaf ws) p q h = leaf_bytes_lem ws p q h
  tree_bytes_lem (split v a b) p q h =
      let here = encode 8 (pos v ∷ []) in
      split_bytes file bytes p h.0 (pos v) h.2 ∙ ap (λ l. here ++ l) (tree_bytes_lem a h.0 h.1 h.3)
      ∙ ap (λ l. here ++ (tree_bytes a ++ l)) (tree_bytes_lem b h.1 q h.4)
      ∙ ap (λ l. here ++ l) (sym (append_assoc (tree_bytes a) (tree_bytes b) (drop q file)))
      ∙ sym (append_assoc here (tree_bytes a ++ tree_bytes b) (drop q file))

  -- a tree that fills the file
  pub file_bytes : (tree : Tree) (q : ℕ) → length file ≤ q → Spells file 0 tree q → file ≡ tree_bytes tree
  file_bytes tree q ended h = tree_bytes_lem tree 0 q h ∙ ap (λ l. tree_bytes tree ++ l) (drop_all q file ended) ∙ append-nil (tree_bytes tree)
