use Rattle.std.proofs.Common.{sym}
use Rattle.rules.specs.Views.{market_of, parts_of, prices_of}
use Rattle.rules.proofs.Verdicts.{same_rule}
use Rattle.rules.proofs.filled.Clearing.lowest_broken.Goals as goal

pub returns-in-WholeParents : goal.returns-in-WholeParents
returns-in-WholeParents c = same_rule (market_of c.args.self.now) (parts_of c.args.self.now) (prices_of c.args.self.now) _ _ _ (sym c.in-WholeParents.is) c.split_parent.ensures

pub returns-in-ChildrenUnderParents : goal.returns-in-ChildrenUnderParents
returns-in-ChildrenUnderParents c = same_rule (market_of c.args.self.now) (parts_of c.args.self.now) (prices_of c.args.self.now) _ _ _ (sym c.in-ChildrenUnderParents.is) c.child_above.ensures

pub returns-in-SubstitutesUnderParents : goal.returns-in-SubstitutesUnderParents
returns-in-SubstitutesUnderParents c = same_rule (market_of c.args.self.now) (parts_of c.args.self.now) (prices_of c.args.self.now) _ _ _ (sym c.in-SubstitutesUnderParents.is) c.substitutes_above.ensures

pub returns-in-Families : goal.returns-in-Families
returns-in-Families c = same_rule (market_of c.args.self.now) (parts_of c.args.self.now) (prices_of c.args.self.now) _ _ _ (sym c.in-Families.is) c.family_overfull.ensures

pub returns-in-Loops : goal.returns-in-Loops
returns-in-Loops c = same_rule (market_of c.args.self.now) (parts_of c.args.self.now) (prices_of c.args.self.now) _ _ _ (sym c.in-Loops.is) c.loop_uneven.ensures

pub returns-in-Units : goal.returns-in-Units
returns-in-Units c = same_rule (market_of c.args.self.now) (parts_of c.args.self.now) (prices_of c.args.self.now) _ _ _ (sym c.in-Units.is) c.unit_twice.ensures

pub returns-in-Balance : goal.returns-in-Balance
returns-in-Balance c = same_rule (market_of c.args.self.now) (parts_of c.args.self.now) (prices_of c.args.self.now) _ _ _ (sym c.in-Balance.is) c.line_short.ensures

pub returns-in-ExtraSurplus : goal.returns-in-ExtraSurplus
returns-in-ExtraSurplus c = same_rule (market_of c.args.self.now) (parts_of c.args.self.now) (prices_of c.args.self.now) _ _ _ (sym c.in-ExtraSurplus.is) c.extra_loses.ensures

pub returns-in-BasketSurplus : goal.returns-in-BasketSurplus
returns-in-BasketSurplus c = same_rule (market_of c.args.self.now) (parts_of c.args.self.now) (prices_of c.args.self.now) _ _ _ (sym c.in-BasketSurplus.is) c.basket_loses.ensures

pub returns-in-BuyPrices : goal.returns-in-BuyPrices
returns-in-BuyPrices c = same_rule (market_of c.args.self.now) (parts_of c.args.self.now) (prices_of c.args.self.now) _ _ _ (sym c.in-BuyPrices.is) c.buy_overcharged.ensures
