-- A tree of splits, where it may stand, the bound that it proves, and its bytes.
use Rattle.std.specs.Prelude.{◌≡◌, ℕ, zero, suc, ◌+◌, ◌<◌, ◌≤◌, true, List, [], ◌∷◌, ◌++◌, length, ℤ, pos, ◌≤ℤ◌, Some, Ok, Option, Result}
use Rattle.std.specs.Int.{int_max}
use Rattle.std.specs.List.{AllByRecursion}
use Rattle.records.specs.Write.{encode}
use Rattle.bound.specs.declared.faults.Refusal.{Refusal}
use Rattle.bound.specs.declared.leaf.Weight.{Weight}
use Rattle.bound.specs.Tables.{Table, most}
use Rattle.bound.specs.Leaves.{after, leaf_bound}
use Rattle.bound.specs.Layers.{holding}

-- a leaf has weights; a split has a variable, a 0 side and a 1 side
pub data Tree : Type 0 where
  leaf : List Weight → Tree
  split : ℕ → Tree → Tree → Tree

-- a weight of a row of the table
pub record Weighs (t : Table) (w : Weight) : Type 0 where
  pub there : w.row < t.rows
  pub least : pos 1 ≤ℤ w.weight
  pub greatest : w.weight ≤ℤ pos most

-- each row is at least `next`, and above the one before it
abbrev pub Rising : ℕ → List Weight → Type 0
Rising next [] = Unit
Rising next (w ∷ ws) = (next ≤ w.row) × Rising (w.row + 1) ws

-- the tree fits the table: at most n splits are on a path; each is on a whole variable whose limits there are 0 and 1, which its
-- sides hold at 0 and at 1; a leaf weighs rising rows
abbrev pub Sits : ℕ → Table → Tree → Type 0
Sits n t (leaf ws) = AllByRecursion (Weighs t) ws × Rising 0 ws
Sits zero t (split v a b) = ⊥
Sits (suc n) t (split v a b) =
    (v < t.variables) × (t.whole v ≡ true) × (t.low v ≡ pos 0) × (t.high v ≡ pos 1)
    × Sits n (holding t v (pos 0)) a × Sits n (holding t v (pos 1)) b

-- the greatest bound of a leaf, each over the table with the variables of its path held
abbrev pub tree_bound : Table → Tree → Option ℤ
tree_bound t (leaf ws) = leaf_bound t ws
tree_bound t (split v a b) = after (tree_bound (holding t v (pos 0)) a) (λ x. after (tree_bound (holding t v (pos 1)) b) (λ y. Some (int_max x y)))

-- a leaf as bytes: a record of kind 9 for each weight, and one of kind 10
abbrev pub leaf_bytes : List Weight → List ℕ
leaf_bytes [] = encode 10 []
leaf_bytes (w ∷ ws) = encode 9 (pos w.row ∷ w.weight ∷ []) ++ leaf_bytes ws

-- a tree as bytes: a split is a record of kind 8, then its 0 side, then its 1 side
abbrev pub tree_bytes : Tree → List ℕ
tree_bytes (leaf ws) = leaf_bytes ws
tree_bytes (split v a b) = encode 8 (pos v ∷ []) ++ (tree_bytes a ++ tree_bytes b)

-- the file is a tree that sits in the table, and b is the tree's bound
abbrev pub Proves : Table → List ℕ → ℤ → Type 0
Proves t file b = (tree : Tree) × (file ≡ tree_bytes tree) × Sits 64 t tree × (tree_bound t tree ≡ Some b)

-- a tree that sits in the table, whose bound has no number past the limit and whose bytes are not too many, is answered by its bound
abbrev pub Accepts : Table → List ℕ → Result ℤ Refusal → Type 0
Accepts t file r = (tree : Tree) (b : ℤ) → file ≡ tree_bytes tree → length file ≤ 65535 → Sits 64 t tree → tree_bound t tree ≡ Some b → r ≡ Ok b
