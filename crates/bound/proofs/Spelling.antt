-- The steps of a tree, in the order of its file.
use Rattle.std.proofs.Common.{◌≡◌, ℕ, List, [], ◌∷◌, pos, Ok}
use Rattle.bound.specs.declared.leaf.Weight.{Weight}
use Rattle.bound.specs.declared.reader.Step.TheVariants.{Split, Row, Close}
use Rattle.bound.specs.Steps.{step_at}
use Rattle.bound.specs.Trees.{Tree, leaf, split}

-- from p up to q the steps are these weights, and the close of their leaf
abbrev pub SpellsLeaf : List ℕ → ℕ → List Weight → ℕ → Type 0
SpellsLeaf file p [] q = step_at file p ≡ Ok (Close, q)
SpellsLeaf file p (w ∷ ws) q = (m : ℕ) × (step_at file p ≡ Ok (Row (pos w.row) w.weight, m)) × SpellsLeaf file m ws q

-- from p up to q the steps are those of the tree
abbrev pub Spells : List ℕ → ℕ → Tree → ℕ → Type 0
Spells file p (leaf ws) q = SpellsLeaf file p ws q
Spells file p (split v a b) q = (m : ℕ) × (n : ℕ) × (step_at file p ≡ Ok (Split (pos v), m)) × Spells file m a n × Spells file n b q
