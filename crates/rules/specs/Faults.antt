-- What each broken rule is called: its number, and the layer of rules.
use Rattle.std.specs.Prelude.{ℕ}
use Rattle.records.specs.Faults.{Code}
use Rattle.rules.specs.declared.faults.Rule.{Rule}
use Rattle.rules.specs.declared.faults.Rule.TheVariants.{WholeParents, ChildrenUnderParents, SubstitutesUnderParents, Families, Loops, Units, Balance, ExtraSurplus, BasketSurplus, BuyPrices}

abbrev pub code : Rule → Code
code WholeParents = record { number = 12; layer = 3 }
code ChildrenUnderParents = record { number = 13; layer = 3 }
code SubstitutesUnderParents = record { number = 14; layer = 3 }
code Families = record { number = 15; layer = 3 }
code Loops = record { number = 16; layer = 3 }
code Units = record { number = 17; layer = 3 }
code Balance = record { number = 18; layer = 3 }
code ExtraSurplus = record { number = 19; layer = 3 }
code BasketSurplus = record { number = 20; layer = 3 }
code BuyPrices = record { number = 21; layer = 3 }

-- the number is also the rule's turn
abbrev pub rule_number : Rule → ℕ
rule_number r = (code r).number
