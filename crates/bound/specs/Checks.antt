-- What the check of a file answers, step by step.
use Rattle.std.specs.Prelude.{◌≡◌, ℕ, zero, suc, ◌+◌, ◌≤◌, Bool, false, cond, ◌&&◌, List, [], ◌∷◌, ◌++◌, length, ℤ, pos, negsuc, Some, None, Ok, Err, fold, Option, Result, ◌==◌, int_le, int_lt, nat_le, nat_lt}
use Rattle.std.specs.Int.{int_max}
use Rattle.records.specs.declared.Fault.TheVariants.{TooLong}
use Rattle.records.specs.declared.Reader.{Reader}
use Rattle.records.specs.Readers.{file_of, kinds_of, place_of}
use Rattle.bound.specs.declared.faults.Fault.TheVariants.{Record, OutsideLimits, Absent, NotRising, SplitBarred, TooDeep, NotOneTree, TooLarge}
use Rattle.bound.specs.declared.faults.Refusal.{Refusal}
use Rattle.bound.specs.declared.leaf.Weight.{Weight}
use Rattle.bound.specs.declared.tree.Found.{Found}
use Rattle.bound.specs.declared.tree.Found.TheVariants.{Branch, Leaf}
use Rattle.bound.specs.declared.reader.Step.{Step}
use Rattle.bound.specs.declared.reader.Step.TheVariants.{Split, Row, Close}
use Rattle.bound.specs.Tables.{Table, most}
use Rattle.bound.specs.Leaves.{leaf_bound}
use Rattle.bound.specs.Layers.{holding}
use Rattle.bound.specs.Steps.{tree_kinds, refuse, and_then, step_at}

-- z, where it is one of the first n numbers
abbrev pub numbered : ℕ → ℤ → Option ℕ
numbered n (pos k) = cond (nat_lt k n) (Some k) None
numbered n (negsuc k) = None

-- the weight of a row that was found; one that is beyond the count is absent
abbrev pub placed : ℤ → ℕ → Option ℕ → Result Weight Refusal
placed weight p (Some row) = Ok (record { row = row; weight = weight })
placed weight p None = refuse Absent p

-- a weight at the place p, after `count` others whose rows are below `next`: rows rise, the weight is in its range, and the row is there
abbrev pub judged : ℕ → ℕ → ℕ → ℤ → ℤ → ℕ → Result Weight Refusal
judged count next rows row weight p =
    cond (nat_lt 0 count && int_lt row (pos next)) (refuse NotRising p)
    (cond (int_le (pos 1) weight && int_le weight (pos most)) (placed weight p (numbered rows row)) (refuse OutsideLimits p))

-- a split on a variable that was found, which may not follow a weight
abbrev pub branching : ℕ → ℕ → Option ℕ → Result Found Refusal
branching count p (Some v) = cond (nat_lt 0 count) (refuse SplitBarred p) (Ok (Branch v))
branching count p None = refuse Absent p

-- a split at the place p, after `count` weights of an open leaf
abbrev pub opened : ℕ → ℕ → ℤ → ℕ → Result Found Refusal
opened variables count v p = branching count p (numbered variables v)

-- a leaf that closes at the place p
abbrev pub closing : Option ℤ → ℕ → Result Found Refusal
closing (Some b) p = Ok (Leaf b)
closing None p = refuse TooLarge p

-- the row after the last that is weighed
abbrev pub next_row : List Weight → ℕ
next_row ws = fold (λ n w. w.row + 1) 0 ws

-- a step at the place p, after the weights ws
abbrev pub leaf_step : Table → ℕ → (List Weight → ℕ → Result (Found × ℕ) Refusal) → List Weight → Step → ℕ → Result (Found × ℕ) Refusal
leaf_step t p more ws (Split v) q = and_then (opened t.variables (length ws) v p) (λ f. Ok (f, q))
leaf_step t p more ws (Row r w) q = and_then (judged (length ws) (next_row ws) t.rows r w p) (λ x. more (ws ++ x ∷ []) q)
leaf_step t p more ws Close q = and_then (closing (leaf_bound t ws) p) (λ f. Ok (f, q))

-- what stands at p, after the weights ws; every step takes a byte or more, so n bytes are enough for n steps
unfoldable pub leaf_at : ℕ → Table → List ℕ → List Weight → ℕ → Result (Found × ℕ) Refusal
leaf_at zero t file ws p = refuse NotOneTree (length file)
leaf_at (suc n) t file ws p = and_then (step_at file p) (λ s. leaf_step t p (leaf_at n t file) ws s.0 s.1)

-- what opens the node at p: a split, or a whole leaf with its bound
abbrev pub found_at : Table → List ℕ → ℕ → Result (Found × ℕ) Refusal
found_at t file p = leaf_at (length file) t file [] p

-- whether z is n
abbrev pub is_nat : ℤ → ℕ → Bool
is_nat (pos a) n = a == n
is_nat (negsuc a) n = false

-- a split may be on a whole variable whose limits are 0 and 1
abbrev pub allowed : Table → ℕ → Bool
allowed t v = t.whole v && (is_nat (t.low v) 0 && is_nat (t.high v) 1)

-- the two sides of a split, and the greater of their bounds
abbrev pub sides : (ℕ → Result (ℤ × ℕ) Refusal) → (ℕ → Result (ℤ × ℕ) Refusal) → ℕ → Result (ℤ × ℕ) Refusal
sides off on p = and_then (off p) (λ a. and_then (on a.1) (λ b. Ok (int_max a.0 b.0, b.1)))

-- a node at the place p, by what opens it
abbrev pub node_step : Table → ℕ → (ℕ → ℕ → Result (ℤ × ℕ) Refusal) → Found → ℕ → Result (ℤ × ℕ) Refusal
node_step t p below (Branch v) q = cond (allowed t v) (below v q) (refuse SplitBarred p)
node_step t p below (Leaf b) q = Ok (b, q)

-- the bound of the node at p, and the place after it, where at most n more splits are allowed
unfoldable pub node_at : ℕ → Table → List ℕ → ℕ → Result (ℤ × ℕ) Refusal
node_at zero t file p = and_then (found_at t file p) (λ f. node_step t p (λ v q. refuse TooDeep p) f.0 f.1)
node_at (suc n) t file p =
    and_then (found_at t file p) (λ f. node_step t p (λ v. sides (node_at n (holding t v (pos 0)) file) (node_at n (holding t v (pos 1)) file)) f.0 f.1)

-- the tree's bound, unless bytes are left at the place q after it
abbrev pub finished : List ℕ → ℤ → ℕ → Result ℤ Refusal
finished file b q = cond (nat_le (length file) q) (Ok b) (refuse NotOneTree q)

-- a whole file: it is not too long, and nothing stands after the tree
abbrev pub checked : Table → List ℕ → Result ℤ Refusal
checked t file =
    cond (nat_lt 65535 (length file)) (refuse (Record TooLong) 0)
    (and_then (node_at 64 t file 0) (λ b. finished file b.0 b.1))

-- what a call returns, with the place that it leaves
abbrev pub Gives : {A : Type 0} → Result (A × ℕ) Refusal → Result A Refusal → ℕ → Type 0
Gives s (Ok x) q = s ≡ Ok (x, q)
Gives s (Err e) q = s ≡ Err e

-- a reader of the records of a tree, within its file
abbrev pub OverTree : Reader → Type 0
OverTree r = (kinds_of r ≡ tree_kinds) × (place_of r ≤ length (file_of r))
