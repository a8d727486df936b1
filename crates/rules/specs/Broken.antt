-- Which rule a clearing breaks, and where; and the verdict: none, or the broken rule of the least number at its lowest place.
-- X are parts of 10,000, Y prices in whole pence.
use Rattle.std.specs.Prelude.{◌≡◌, ℕ, ◌+◌, ◌/◌, ◌%◌, ◌<◌, ◌≤◌, false, ◌⊎◌, length, ℤ, pos, ◌<ℤ◌, Ok, Err, Result, ◌≢◌}
use Rattle.numbers.specs.Searches.{Among}
use Rattle.market.specs.declared.entries.Role.TheVariants.{Child}
use Rattle.market.specs.Market.{Market, buy_at, basket_at, extra_at}
use Rattle.rules.specs.Clearings.{Exclude, substitute_parts, family_parts, bought, sold, KeepsOrders}
use Rattle.rules.specs.Prices.{price_of, extra_surplus, basket_surplus, loop_surplus, KeepsPrices}
use Rattle.rules.specs.Faults.{rule_number}
use Rattle.rules.specs.declared.faults.Breach.{Breach}
use Rattle.rules.specs.declared.faults.Rule.{Rule}
use Rattle.rules.specs.declared.faults.Rule.TheVariants.{WholeParents, ChildrenUnderParents, SubstitutesUnderParents, Families, Loops, Units, Balance, ExtraSurplus, BasketSurplus, BuyPrices}

-- a parent has neither 0 nor 10,000 parts
abbrev pub SplitParent : (ℕ → ℤ) → ℕ → Type 0
SplitParent X b = (X (64 + b) ≢ pos 0) × (X (64 + b) ≢ pos 10000)

-- a child has more parts than its parent
abbrev pub ChildAbove : Market → (ℕ → ℤ) → ℕ → Type 0
ChildAbove m X k = ((extra_at m k).role ≡ Child) × (X (64 + (extra_at m k).basket) <ℤ X (160 + k))

-- the substitutes of a basket together have more parts than its parent
abbrev pub SubstitutesAbove : Market → (ℕ → ℤ) → ℕ → Type 0
SubstitutesAbove m X b = X (64 + b) <ℤ substitute_parts m X b

-- the buys of a family together have more than 10,000 parts
abbrev pub FamilyOverfull : Market → (ℕ → ℤ) → ℕ → Type 0
FamilyOverfull m X f = (1 ≤ f) × (pos 10000 <ℤ family_parts m X f)

-- c is the lowest basket with b's loop number
abbrev pub FirstOf : Market → ℕ → ℕ → Type 0
FirstOf m b c = (c < length m.baskets) × ((basket_at m c).ring ≡ (basket_at m b).ring) × ((d : ℕ) → d < c → (basket_at m d).ring ≢ (basket_at m b).ring)

-- the parent of a basket in a loop has other parts than that of the loop's first basket
abbrev pub LoopUneven : Market → (ℕ → ℤ) → ℕ → Type 0
LoopUneven m X b = ((basket_at m b).ring ≢ 0) × ((c : ℕ) × FirstOf m b c × (X (64 + b) ≢ X (64 + c)))

-- two baskets exclude each other, and both are accepted
abbrev pub Clash : Market → (ℕ → ℤ) → ℕ → ℕ → Type 0
Clash m X b c = Exclude m b c × (pos 0 <ℤ X (64 + b)) × (pos 0 <ℤ X (64 + c))

-- a basket clashes with another
abbrev pub UnitTwice : Market → (ℕ → ℤ) → ℕ → Type 0
UnitTwice m X b = (c : ℕ) × (c < length m.baskets) × Clash m X b c

-- on line 6 × window + product more is bought than sold
abbrev pub LineShort : Market → (ℕ → ℤ) → ℕ → Type 0
LineShort m X l = sold m X (l / 6) (l % 6) <ℤ bought m X (l / 6) (l % 6)

-- a child or substitute is accepted and loses
abbrev pub ExtraLoses : Market → (ℕ → ℤ) → (ℕ → ℤ) → ℕ → Type 0
ExtraLoses m X Y k = (pos 0 <ℤ X (160 + k)) × (extra_surplus m X 1 Y k <ℤ pos 0)

-- a basket without a loop loses, or it is the first of a loop whose baskets lose together
abbrev pub BasketLoses : Market → (ℕ → ℤ) → (ℕ → ℤ) → ℕ → Type 0
BasketLoses m X Y b =
    (((basket_at m b).ring ≡ 0) × (basket_surplus m X 1 Y b <ℤ pos 0))
    ⊎ (((basket_at m b).ring ≢ 0) × FirstOf m b b × (loop_surplus m X 1 Y (basket_at m b).ring <ℤ pos 0))

-- a buy without a permit is accepted and pays more than its own price
abbrev pub BuyOvercharged : Market → (ℕ → ℤ) → (ℕ → ℤ) → ℕ → Type 0
BuyOvercharged m X Y i = (pos 0 <ℤ X i) × ((buy_at m i).permit ≡ false) × ((buy_at m i).price <ℤ price_of Y (buy_at m i).window (buy_at m i).product)

-- The rule is broken at the place: a variable, a family's number, or a line.
abbrev pub Broken : Market → (ℕ → ℤ) → (ℕ → ℤ) → Rule → ℕ → Type 0
Broken m X Y WholeParents = Among 64 (length m.baskets) (SplitParent X)
Broken m X Y ChildrenUnderParents = Among 160 (length m.extras) (ChildAbove m X)
Broken m X Y SubstitutesUnderParents = Among 64 (length m.baskets) (SubstitutesAbove m X)
Broken m X Y Families = Among 0 65 (FamilyOverfull m X)
Broken m X Y Loops = Among 64 (length m.baskets) (LoopUneven m X)
Broken m X Y Units = Among 64 (length m.baskets) (UnitTwice m X)
Broken m X Y Balance = Among 0 192 (LineShort m X)
Broken m X Y ExtraSurplus = Among 160 (length m.extras) (ExtraLoses m X Y)
Broken m X Y BasketSurplus = Among 64 (length m.baskets) (BasketLoses m X Y)
Broken m X Y BuyPrices = Among 0 (length m.buys) (BuyOvercharged m X Y)

-- The first broken rule: broken at the place and at no lower one, and no rule of a lower number is broken anywhere.
pub record FirstBroken (m : Market) (X Y : ℕ → ℤ) (rule : Rule) (place : ℕ) : Type 0 where
  pub broken : Broken m X Y rule place
  pub lowest : (v : ℕ) → v < place → Broken m X Y rule v → ⊥
  pub earliest : (r : Rule) → rule_number r < rule_number rule → (v : ℕ) → Broken m X Y r v → ⊥

-- No rule is broken.
abbrev pub Unbroken : Market → (ℕ → ℤ) → (ℕ → ℤ) → Type 0
Unbroken m X Y = (r : Rule) (v : ℕ) → Broken m X Y r v → ⊥

-- The verdict on a clearing: accepted, all rules are kept; refused, the first broken rule is named.
abbrev pub Verdict : Market → (ℕ → ℤ) → (ℕ → ℤ) → Result (Unit {0}) Breach → Type 0
Verdict m X Y (Ok u) = KeepsOrders m 10000 X × KeepsPrices m X 1 Y
Verdict m X Y (Err f) = FirstBroken m X Y f.rule f.place

-- No rule is broken exactly where all are kept.
abbrev pub UnbrokenIsKept : Type 0
UnbrokenIsKept = (m : Market) (X Y : ℕ → ℤ)
    → (Unbroken m X Y → KeepsOrders m 10000 X × KeepsPrices m X 1 Y) × (KeepsOrders m 10000 X → KeepsPrices m X 1 Y → Unbroken m X Y)
