-- The last row of a leaf, and the row after it.
use Rattle.std.proofs.Common.{◌≡◌, ℕ, ◌+◌, ◌-◌, ◌<◌, Bool, ◌&&◌, not, ltb, List, [], ◌∷◌, length, ℤ, pos, negsuc, Some, None, Option, fold, sym, refl, ap, ◌∙◌, arith, rules, lt-ltb, MatchOption, IsTrue}
use denote.Bor.{Bor}
use lib.Signed.{lt_z}
use Rattle.std.specs.Option.{option_copied}
use Rattle.std.specs.List.{slice_get}
use Rattle.std.proofs.lemmas.Bool.Decides.{nat_tests}
use Rattle.bound.specs.declared.leaf.Weight.{Weight}
use Rattle.bound.specs.Checks.{next_row}

next_from : (n : ℕ) (w x : Weight) (ws : List Weight) → slice_get (w ∷ ws) (length ws) ≡ Some x → fold (λ n w. w.row + 1) n (w ∷ ws) ≡ x.row + 1
next_from n w x [] last = let same : w ≡ x = cc in ap (λ w. w.row + 1) same
next_from n w x (y ∷ ws) last = next_from (w.row + 1) y x ws last

some_last : (w : Weight) (ws : List Weight) → slice_get (w ∷ ws) (length ws) ≡ None → ⊥
some_last w [] e = let z : ◌≡◌ {A = ℕ} 0 1 = cc in omega arith
some_last w (y ∷ ws) e = some_last y ws e

some_none : (w : Weight) → ◌≡◌ {A = Option Weight} (Some w) None → ⊥
some_none w e = let z : ◌≡◌ {A = ℕ} 0 1 = cc in omega arith

at_end : (w : Weight) (ws : List Weight) → slice_get (w ∷ ws) (length ws) ≡ slice_get (w ∷ ws) (length (w ∷ ws) - 1)
at_end w ws = let n : length ws ≡ length (w ∷ ws) - 1 = omega arith in ap (slice_get (w ∷ ws)) n

-- a row is above the row n, or below the next
above : (row : ℤ) (n next : ℕ) → next ≡ n + 1 → lt_z (pos n) row ≡ not (lt_z row (pos next))
above (pos k) n next is = grind (arith, nat_tests)
above (negsuc k) n next is = refl

pub rises_is : (ws : List Weight) (row : ℤ) (o : Option (Bor Weight)) (r : Bool) → option_copied o ≡ slice_get ws (length ws - 1) → MatchOption o (IsTrue r) (λ x. r ≡ lt_z (pos x.now.row) row)
    → r ≡ not (ltb 0 (length ws) && lt_z row (pos (next_row ws)))
rises_is [] row None r last says = search rules
rises_is [] row (Some x) r last says = absurd (some_none x.now last)
rises_is (w ∷ ws) row None r last says = absurd (some_last w ws (at_end w ws ∙ sym last))
rises_is (w ∷ ws) row (Some x) r last says =
    let some : 0 < length (w ∷ ws) = omega arith in
    says ∙ above row x.now.row _ (next_from 0 w x.now ws (at_end w ws ∙ sym last))
    ∙ sym (ap (λ b. not (b && lt_z row (pos (next_row (w ∷ ws))))) (lt-ltb 0 (length (w ∷ ws)) some))
