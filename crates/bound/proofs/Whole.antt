-- All that is promised of a check, from what it answers.
use Rattle.std.proofs.Common.{◌≡◌, ℕ, List, ℤ, IfOk, Ok, Err, Result, sym, ◌∙◌}
use Rattle.std.specs.List.{AllByRecursion}
use Rattle.records.specs.Write.{Byte}
use Rattle.bound.specs.declared.faults.Refusal.{Refusal}
use Rattle.bound.specs.Tables.{Table, Lawful}
use Rattle.bound.specs.Points.{Bounds}
use Rattle.bound.specs.Checks.{checked}
use Rattle.bound.specs.Trees.{Proves, Accepts}
use Rattle.bound.specs.Layers.{fixed_lawful}
use Rattle.bound.specs.Piles.{Pile, base, fixing, sheet, table_of, Stands, EveryPileIsBounded}
use Rattle.bound.proofs.Accepting.{accepts}
use Rattle.bound.proofs.Bounding.{tree_bounds}
use Rattle.bound.proofs.Bytes.{file_bytes}
use Rattle.bound.proofs.Sound.{node_proved, checked_is, checked_fits}

pub checked_bounds : (t : Table) (file : List ℕ) (b : ℤ) → Lawful t → checked t file ≡ Ok b → Bounds t b
checked_bounds t file b lawful is = let p = checked_fits t file b is in tree_bounds 64 t p.0 b lawful p.1 p.2

checked_proves : (t : Table) (file : List ℕ) (b : ℤ) → AllByRecursion Byte file → checked t file ≡ Ok b → Proves t file b
checked_proves t file b bytes h =
    let c = checked_is t file b h in
    let k = node_proved 64 t file 0 (b, c.0) c.2 in
    (k.0, file_bytes file bytes k.0 c.0 c.1 k.1, k.2, k.3)

module _ (t : Table) (lawful : Lawful t) (file : List ℕ) where
  pub all_proves : (r : Result ℤ Refusal) → AllByRecursion Byte file → r ≡ checked t file → IfOk r (λ b. Proves t file b)
  all_proves (Ok b) bytes is = checked_proves t file b bytes (sym is)
  all_proves (Err e) bytes is = tt

  pub all_sound : (r : Result ℤ Refusal) → r ≡ checked t file → IfOk r (λ b. Bounds t b)
  all_sound (Ok b) is = checked_bounds t file b lawful (sym is)
  all_sound (Err e) is = tt

  pub all_accepts : (r : Result ℤ Refusal) → r ≡ checked t file → Accepts t file r
  all_accepts r is tree b same short sits bound = is ∙ accepts t file tree b lawful same short sits bound

-- a pile that stands is a lawful table
pile_lawful : (p : Pile) → Stands p → Lawful (table_of p)
pile_lawful (base t) stands = stands
pile_lawful (fixing hs p) stands = fixed_lawful (table_of p) hs (pile_lawful p stands.2) stands.1
pile_lawful (sheet p) stands = pile_lawful p stands

pub every_pile : EveryPileIsBounded
every_pile p stands file b is = checked_bounds (table_of p) file b (pile_lawful p stands) is
