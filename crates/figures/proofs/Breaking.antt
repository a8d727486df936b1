-- Clearings that break a rule, and none before it.
use Rattle.std.proofs.Common.{◌≡◌, ℕ, zero, suc, ◌<◌, ℤ, pos, negsuc, ◌≤ℤ◌, ◌<ℤ◌, refl, inl, ⊎_elim, arith}
use Rattle.std.proofs.lemmas.Int.{ints}
use Rattle.numbers.specs.Sums.{sum_to}
use Rattle.market.specs.Figures.{market}
use Rattle.market.specs.Market.{basket_at}
use Rattle.rules.specs.declared.faults.Rule.{Rule}
use Rattle.rules.specs.declared.faults.Rule.TheVariants.{WholeParents, ChildrenUnderParents, SubstitutesUnderParents, Families, Loops, Units, Balance, ExtraSurplus, BasketSurplus, BuyPrices}
use Rattle.rules.specs.Broken.{Broken, BasketLoses, FirstBroken, FirstOf}
use Rattle.rules.specs.Faults.{rule_number}
use Rattle.rules.specs.Prices.{basket_surplus, loop_surplus}
use Rattle.rules.specs.Scratch.{parts_in, prices_in}
use Rattle.rules.proofs.Keeping.{unbroken}
use Rattle.figures.specs.Figures.{full}
use Rattle.figures.proofs.Keeping.{no_loop, full_orders, prices_7000}

module _ (price : ℕ) where
  abbrev X : ℕ → ℤ
  X = parts_in (full price)

  abbrev Y : ℕ → ℤ
  Y = prices_in (full price)

  -- no rule on orders is broken, and no child or substitute loses: there is none
  pub before_baskets : (r : Rule) → rule_number r < 20 → (v : ℕ) → Broken market X Y r v → ⊥
  before_baskets WholeParents h v b = unbroken market X (prices_in (full 7000)) (full_orders price) (prices_7000 price) WholeParents v b
  before_baskets ChildrenUnderParents h v b = unbroken market X (prices_in (full 7000)) (full_orders price) (prices_7000 price) ChildrenUnderParents v b
  before_baskets SubstitutesUnderParents h v b = unbroken market X (prices_in (full 7000)) (full_orders price) (prices_7000 price) SubstitutesUnderParents v b
  before_baskets Families h v b = unbroken market X (prices_in (full 7000)) (full_orders price) (prices_7000 price) Families v b
  before_baskets Loops h v b = unbroken market X (prices_in (full 7000)) (full_orders price) (prices_7000 price) Loops v b
  before_baskets Units h v b = unbroken market X (prices_in (full 7000)) (full_orders price) (prices_7000 price) Units v b
  before_baskets Balance h v b = unbroken market X (prices_in (full 7000)) (full_orders price) (prices_7000 price) Balance v b
  before_baskets ExtraSurplus h v b = let l = b.1 in omega arith
  before_baskets BasketSurplus h v b = omega arith
  before_baskets BuyPrices h v b = omega arith

  -- a basket whose surplus is not below 0 does not lose
  gains : (b : ℕ) → b < 2 → pos 0 ≤ℤ basket_surplus market X 1 Y b → BasketLoses market X Y b → ⊥
  gains b h s = ⊎_elim
      (λ (l : ((basket_at market b).ring ≡ 0) × (basket_surplus market X 1 Y b <ℤ pos 0)). let k = l.1 in omega (arith, ints))
      (λ (l : ((basket_at market b).ring ≡ 0 → ⊥) × FirstOf market b b × (loop_surplus market X 1 Y (basket_at market b).ring <ℤ pos 0)). l.0 (no_loop b h))

  gain_both : pos 0 ≤ℤ basket_surplus market X 1 Y 0 → pos 0 ≤ℤ basket_surplus market X 1 Y 1 → (b : ℕ) → b < 2 → BasketLoses market X Y b → ⊥
  gain_both p q zero h = gains 0 h p
  gain_both p q (suc zero) h = gains 1 h q
  gain_both p q (suc (suc b)) h = absurd (omega arith)

  gain_first : pos 0 ≤ℤ basket_surplus market X 1 Y 0 → (b : ℕ) → b < 1 → BasketLoses market X Y b → ⊥
  gain_first p zero h = gains 0 (omega arith) p
  gain_first p (suc b) h = absurd (omega arith)

  before_buys : pos 0 ≤ℤ basket_surplus market X 1 Y 0 → pos 0 ≤ℤ basket_surplus market X 1 Y 1 → (r : Rule) → rule_number r < 21 → (v : ℕ) → Broken market X Y r v → ⊥
  before_buys p q WholeParents h v b = before_baskets WholeParents (omega arith) v b
  before_buys p q ChildrenUnderParents h v b = before_baskets ChildrenUnderParents (omega arith) v b
  before_buys p q SubstitutesUnderParents h v b = before_baskets SubstitutesUnderParents (omega arith) v b
  before_buys p q Families h v b = before_baskets Families (omega arith) v b
  before_buys p q Loops h v b = before_baskets Loops (omega arith) v b
  before_buys p q Units h v b = before_baskets Units (omega arith) v b
  before_buys p q Balance h v b = before_baskets Balance (omega arith) v b
  before_buys p q ExtraSurplus h v b = before_baskets ExtraSurplus (omega arith) v b
  before_buys p q BasketSurplus h v b = gain_both p q b.0 b.1 b.3
  before_buys p q BuyPrices h v b = omega arith

first_6999 : basket_surplus market (parts_in (full 6999)) 1 (prices_in (full 6999)) 0 ≡ pos 799800000
unfolding sum_to
first_6999 = refl

second_6999 : basket_surplus market (parts_in (full 6999)) 1 (prices_in (full 6999)) 1 ≡ negsuc 199999
unfolding sum_to
second_6999 = refl

first_9001 : basket_surplus market (parts_in (full 9001)) 1 (prices_in (full 9001)) 0 ≡ pos 1200200000
unfolding sum_to
first_9001 = refl

second_9001 : basket_surplus market (parts_in (full 9001)) 1 (prices_in (full 9001)) 1 ≡ pos 400200000
unfolding sum_to
second_9001 = refl

pub breaks_6999 : FirstBroken market (parts_in (full 6999)) (prices_in (full 6999)) BasketSurplus 65
breaks_6999 = record {
  broken = (1, omega arith, refl, inl (refl, (let e = second_6999 in omega (arith, ints))));
  lowest = λ v h b. gain_first 6999 (let e = first_6999 in omega (arith, ints)) b.0 (let e = b.2 in omega arith) b.3;
  earliest = before_baskets 6999;
}

pub breaks_9001 : FirstBroken market (parts_in (full 9001)) (prices_in (full 9001)) BuyPrices 0
breaks_9001 = record {
  broken = (0, omega arith, refl, (omega (arith, ints), refl, omega (arith, ints)));
  lowest = λ v h b. omega arith;
  earliest = before_buys 9001 (let e = first_9001 in omega (arith, ints)) (let e = second_9001 in omega (arith, ints));
}
