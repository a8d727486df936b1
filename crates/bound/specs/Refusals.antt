-- Why a file is refused: up to the place of the refusal its bytes begin a tree that fits the table, and what stands there is wrong.
use Rattle.std.specs.Prelude.{◌≡◌, ℕ, zero, suc, ◌<◌, ◌≤◌, true, ◌⊎◌, List, [], ◌∷◌, ◌++◌, length, ℤ, pos, ◌≤ℤ◌, Some, None, Ok, Err, Result}
use Rattle.std.specs.List.{AllByRecursion}
use Rattle.records.specs.Read.{Content, read}
use Rattle.records.specs.Write.{encode}
use Rattle.records.specs.declared.Fault.{Fault as RecordFault}
use Rattle.records.specs.declared.Fault.TheVariants.{TooLong}
use Rattle.bound.specs.declared.faults.Fault.{Fault}
use Rattle.bound.specs.declared.faults.Fault.TheVariants.{Record, OutsideLimits, Absent, NotRising, SplitBarred, TooDeep, NotOneTree, TooLarge}
use Rattle.bound.specs.declared.faults.Refusal.{Refusal}
use Rattle.bound.specs.declared.leaf.Weight.{Weight}
use Rattle.bound.specs.declared.reader.Step.{Step}
use Rattle.bound.specs.declared.reader.Step.TheVariants.{Split, Row, Close}
use Rattle.bound.specs.Tables.{Table, most}
use Rattle.bound.specs.Leaves.{leaf_bound}
use Rattle.bound.specs.Layers.{holding}
use Rattle.bound.specs.Steps.{tree_kinds, step_of}
use Rattle.bound.specs.Checks.{next_row}
use Rattle.bound.specs.Trees.{Tree, Weighs, Rising, Sits, tree_bound, tree_bytes}

-- how far a tree has been read: into a leaf, after some weights; into the 0 side of a split; or into its 1 side, after its whole 0 side
pub data Path : Type 0 where
  within : List Weight → Path
  off : ℕ → Path → Path
  on : ℕ → Tree → Path → Path

-- its bytes: those of the weights, of the splits and of the whole 0 sides
abbrev pub rows_bytes : List Weight → List ℕ
rows_bytes [] = []
rows_bytes (w ∷ ws) = encode 9 (pos w.row ∷ w.weight ∷ []) ++ rows_bytes ws

abbrev pub path_bytes : Path → List ℕ
path_bytes (within ws) = rows_bytes ws
path_bytes (off v p) = encode 8 (pos v ∷ []) ++ path_bytes p
path_bytes (on v a p) = encode 8 (pos v ∷ []) ++ (tree_bytes a ++ path_bytes p)

-- z is none of the first n numbers
abbrev pub Beyond : ℕ → ℤ → Type 0
Beyond n z = (k : ℕ) → z ≡ pos k → n ≤ k

-- a split may be on v
abbrev pub MaySplit : Table → ℕ → Type 0
MaySplit t v = (v < t.variables) × (t.whole v ≡ true) × (t.low v ≡ pos 0) × (t.high v ≡ pos 1)

-- the row r is not above the last of the leaf
abbrev pub Late : List Weight → ℤ → Type 0
Late ws r = (1 ≤ length ws) × (pos (next_row ws) ≤ℤ r → ⊥)

-- w is a weight
abbrev pub InRange : ℤ → Type 0
InRange w = (pos 1 ≤ℤ w) × (w ≤ℤ pos most)

-- what is wrong with a step after the weights ws of a leaf, where n more splits are allowed
abbrev pub WrongStep : ℕ → Table → List Weight → Step → Fault → Type 0
WrongStep n t ws (Split v) f =
    (Beyond t.variables v × (f ≡ Absent))
    ⊎ (((k : ℕ) × (v ≡ pos k) × (k < t.variables) × ((1 ≤ length ws) ⊎ (MaySplit t k → ⊥)) × (f ≡ SplitBarred))
    ⊎ ((k : ℕ) × (v ≡ pos k) × MaySplit t k × (length ws ≡ 0) × (n ≡ 0) × (f ≡ TooDeep)))
WrongStep n t ws (Row r w) f =
    (Late ws r × (f ≡ NotRising))
    ⊎ (((Late ws r → ⊥) × (InRange w → ⊥) × (f ≡ OutsideLimits))
    ⊎ ((Late ws r → ⊥) × InRange w × Beyond t.rows r × (f ≡ Absent)))
WrongStep n t ws Close f = (leaf_bound t ws ≡ None) × (f ≡ TooLarge)

-- what is wrong with what was read there
abbrev pub WrongRecord : ℕ → Table → List Weight → Result Content RecordFault → Fault → Type 0
WrongRecord n t ws (Ok c) f = WrongStep n t ws (step_of c) f
WrongRecord n t ws (Err g) f = f ≡ Record g

-- what is wrong with the bytes there: none is left, they begin with no record, or with one that may not stand there
abbrev pub Wrong : ℕ → Table → List Weight → List ℕ → Fault → Type 0
Wrong n t ws [] f = f ≡ NotOneTree
Wrong n t ws (b ∷ bs) f = WrongRecord n t ws (read tree_kinds (b ∷ bs)) f

-- the path fits the table, where at most n splits are allowed, and the bytes after it are wrong there
abbrev pub Stops : ℕ → Table → Path → List ℕ → Fault → Type 0
Stops n t (within ws) rest f = AllByRecursion (Weighs t) ws × Rising 0 ws × Wrong n t ws rest f
Stops zero t (off v p) rest f = ⊥
Stops (suc n) t (off v p) rest f = MaySplit t v × Stops n (holding t v (pos 0)) p rest f
Stops zero t (on v a p) rest f = ⊥
Stops (suc n) t (on v a p) rest f = MaySplit t v × Sits n (holding t v (pos 0)) a × Stops n (holding t v (pos 1)) p rest f

-- the file is too long; or it begins with a path and is wrong after it; or bytes stand after a whole tree
abbrev pub Refused : Table → List ℕ → Refusal → Type 0
Refused t file e =
    ((65535 < length file) × (e.fault ≡ Record TooLong) × (e.place ≡ 0))
    ⊎ (((path : Path) × (rest : List ℕ) × (file ≡ path_bytes path ++ rest) × (e.place ≡ length (path_bytes path)) × Stops 64 t path rest e.fault)
    ⊎ ((tree : Tree) × (rest : List ℕ) × (b : ℤ) × (file ≡ tree_bytes tree ++ rest) × (1 ≤ length rest) × Sits 64 t tree × (tree_bound t tree ≡ Some b) × (e.fault ≡ NotOneTree) × (e.place ≡ length (tree_bytes tree))))

-- what holds of a refusal
abbrev pub refused_by : {A : Type 0} → Result A Refusal → (Refusal → Type 0) → Type 0
refused_by (Ok x) P = Unit
refused_by (Err e) P = P e
