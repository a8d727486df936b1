-- The chain of rules: what is clear so far, and the verdict.
use Rattle.std.proofs.Common.{◌≡◌, ℕ, zero, suc, ◌+◌, ◌<◌, ◌≤◌, cond, eqb, [], ◌∷◌, get_or, ℤ, Some, None, Option, sym, refl, ap, ◌∙◌, subst, ⊎_elim, arith}
use Rattle.std.proofs.lemmas.Bool.{cases_eq}
use Rattle.rules.specs.declared.faults.Rule.{Rule}
use Rattle.rules.specs.declared.faults.Rule.TheVariants.{WholeParents, ChildrenUnderParents, SubstitutesUnderParents, Families, Loops, Units, Balance, ExtraSurplus, BasketSurplus, BuyPrices}
use Rattle.market.specs.Market.{Market}
use Rattle.numbers.specs.Searches.{Lowest}
use Rattle.rules.specs.Faults.{rule_number}
use Rattle.rules.specs.Broken.{Broken, FirstBroken, Unbroken}

-- no two rules have one number
rule_of : ℕ → Rule
rule_of n = cond (eqb n 12) WholeParents (cond (eqb n 13) ChildrenUnderParents (cond (eqb n 14) SubstitutesUnderParents (cond (eqb n 15) Families (cond (eqb n 16) Loops (cond (eqb n 17) Units (cond (eqb n 18) Balance (cond (eqb n 19) ExtraSurplus (cond (eqb n 20) BasketSurplus BuyPrices))))))))

back : (r : Rule) → rule_of (rule_number r) ≡ r
unfolding rule_of
back WholeParents = refl
back ChildrenUnderParents = refl
back SubstitutesUnderParents = refl
back Families = refl
back Loops = refl
back Units = refl
back Balance = refl
back ExtraSurplus = refl
back BasketSurplus = refl
back BuyPrices = refl

same : (r s : Rule) → rule_number r ≡ rule_number s → r ≡ s
same r s e = sym (back r) ∙ ap rule_of e ∙ back s

-- the rules in order, by their turns
pub in_turn : (n : ℕ) → n < 10 → rule_number (get_or (WholeParents ∷ ChildrenUnderParents ∷ SubstitutesUnderParents ∷ Families ∷ Loops ∷ Units ∷ Balance ∷ ExtraSurplus ∷ BasketSurplus ∷ BuyPrices ∷ []) n WholeParents) ≡ 12 + n
in_turn zero l = refl
in_turn (suc zero) l = refl
in_turn (suc (suc zero)) l = refl
in_turn (suc (suc (suc zero))) l = refl
in_turn (suc (suc (suc (suc zero)))) l = refl
in_turn (suc (suc (suc (suc (suc zero))))) l = refl
in_turn (suc (suc (suc (suc (suc (suc zero)))))) l = refl
in_turn (suc (suc (suc (suc (suc (suc (suc zero))))))) l = refl
in_turn (suc (suc (suc (suc (suc (suc (suc (suc zero)))))))) l = refl
in_turn (suc (suc (suc (suc (suc (suc (suc (suc (suc zero))))))))) l = refl
in_turn (suc (suc (suc (suc (suc (suc (suc (suc (suc (suc n)))))))))) l = absurd (omega arith)

module _ (m : Market) (X Y : ℕ → ℤ) where
  -- no rule with a number below n is broken
  abbrev pub Clear : ℕ → Type 0
  Clear n = (r : Rule) → rule_number r < n → (v : ℕ) → Broken m X Y r v → ⊥

  pub clear_none : Clear 12
  clear_none WholeParents = λ l. absurd (omega arith)
  clear_none ChildrenUnderParents = λ l. absurd (omega arith)
  clear_none SubstitutesUnderParents = λ l. absurd (omega arith)
  clear_none Families = λ l. absurd (omega arith)
  clear_none Loops = λ l. absurd (omega arith)
  clear_none Units = λ l. absurd (omega arith)
  clear_none Balance = λ l. absurd (omega arith)
  clear_none ExtraSurplus = λ l. absurd (omega arith)
  clear_none BasketSurplus = λ l. absurd (omega arith)
  clear_none BuyPrices = λ l. absurd (omega arith)

  -- a rule that is nowhere broken, and the next number
  pub clear_more : (r : Rule) → Clear (rule_number r) → Lowest (Broken m X Y r) None → Clear (rule_number r + 1)
  clear_more r h n s l v b = ⊎_elim
      (λ (q : rule_number s ≡ rule_number r). n v (subst (λ (t : Rule). Broken m X Y t v) (same s r q) b))
      (λ (q : rule_number s ≡ rule_number r → ⊥). h s (omega arith) v b)
      (cases_eq (rule_number s) (rule_number r))

  pub refused : (r : Rule) (place : ℕ) → Clear (rule_number r) → Lowest (Broken m X Y r) (Some place) → FirstBroken m X Y r place
  refused r place h p = record { broken = p.0; lowest = p.1; earliest = h }

  pub accepted : Clear 22 → Unbroken m X Y
  accepted h WholeParents = h WholeParents (omega arith)
  accepted h ChildrenUnderParents = h ChildrenUnderParents (omega arith)
  accepted h SubstitutesUnderParents = h SubstitutesUnderParents (omega arith)
  accepted h Families = h Families (omega arith)
  accepted h Loops = h Loops (omega arith)
  accepted h Units = h Units (omega arith)
  accepted h Balance = h Balance (omega arith)
  accepted h ExtraSurplus = h ExtraSurplus (omega arith)
  accepted h BasketSurplus = h BasketSurplus (omega arith)
  accepted h BuyPrices = h BuyPrices (omega arith)

  -- the same by turn: the rule that is judged after n others
  pub clear_next : (r : Rule) (n : ℕ) → rule_number r ≡ 12 + n → Clear (12 + n) → Lowest (Broken m X Y r) None → Clear (12 + (n + 1))
  clear_next r n e h none = subst Clear (ap (λ k. k + 1) e ∙ omega arith) (clear_more r (subst Clear (sym e) h) none)

  pub refused_at : (r : Rule) (n place : ℕ) → rule_number r ≡ 12 + n → Clear (12 + n) → Lowest (Broken m X Y r) (Some place) → FirstBroken m X Y r place
  refused_at r n place e h = refused r place (subst Clear (sym e) h)

  pub accepted_all : (n : ℕ) → 10 ≤ n → Clear (12 + n) → Unbroken m X Y
  accepted_all n l h = accepted (λ r k. h r (omega arith))

  pub same_rule : (r s : Rule) (v : Option ℕ) → r ≡ s → Lowest (Broken m X Y r) v → Lowest (Broken m X Y s) v
  same_rule r s v e = subst (λ (t : Rule). Lowest (Broken m X Y t) v) e
