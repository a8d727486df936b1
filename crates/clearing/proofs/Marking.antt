-- One more mark of a file, and the numbers that it leaves.
use Rattle.std.proofs.Common.{◌≡◌, ℕ, ◌+◌, List, [], ◌∷◌, ◌++◌, length, drop, set, ℤ, Some, None, Ok, Option, fold, sym, refl, ap, ◌∙◌, length-set}
use Rattle.std.proofs.lemmas.List.Sums.{fold_push}
use Rattle.records.specs.Read.{Content, read}
use Rattle.market.specs.Market.{Market}
use Rattle.clearing.specs.declared.marks.Mark.{Mark}
use Rattle.clearing.specs.Files.{kinds, fault_of, Run}
use Rattle.clearing.specs.Marks.{mark_of, place_of, amount_of, marked, zeros}

pub run_more : (m : Market) (file : List ℕ) (p : ℕ) (last : Option Mark) (xs : List Mark) (q : ℕ) (end : Option Mark) (c : Content)
    → Run m file p last xs q end → read kinds (drop q file) ≡ Ok c → fault_of m end (mark_of c) ≡ None
    → Run m file p last (xs ++ mark_of c ∷ []) (q + c.size) (Some (mark_of c))
run_more m file p last [] q end c run is ok =
    (c, ap (λ k. read kinds (drop k file)) (sym run.0) ∙ is, refl, ap (λ e. fault_of m e (mark_of c)) (sym run.1) ∙ ok, (ap (λ k. k + c.size) run.0, refl))
run_more m file p last (x ∷ xs) q end c run is ok = (run.0, run.1, run.2, run.3, run_more m file (p + run.0.size) (Some x) xs q end c run.4 is ok)

pub marked_more : (xs : List Mark) (x : Mark) → marked (xs ++ x ∷ []) ≡ set (marked xs) (place_of x) (amount_of x)
marked_more xs x = fold_push _ _ xs x

-- there are always 448 numbers
pub length-marked : (xs : List Mark) → length (marked xs) ≡ 448
length-marked xs = kept xs zeros
  where
    kept : (xs : List Mark) (ns : List ℤ) → length (fold (λ numbers x. set numbers (place_of x) (amount_of x)) ns xs) ≡ length ns
    kept [] ns = refl
    kept (x ∷ xs) ns = kept xs (set ns (place_of x) (amount_of x)) ∙ length-set ns (place_of x) (amount_of x)
