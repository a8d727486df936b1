use Rattle.rules.specs.Views.{market_of, parts_of, prices_of}
use Rattle.rules.proofs.Verdicts.{in_turn, clear_none, clear_next, refused_at, accepted_all}
use Rattle.rules.proofs.Keeping.{keeps_orders, keeps_prices}
use Rattle.rules.proofs.filled.Clearing.judge.Goals as goal

pub loop-rule-init : goal.loop-rule-init
loop-rule-init c = clear_none (market_of c.args.self.now) (parts_of c.args.self.now) (prices_of c.args.self.now)

pub returns-in-Some : goal.returns-in-Some
returns-in-Some c = refused_at (market_of c.args.self.now) (parts_of c.args.self.now) (prices_of c.args.self.now) _ _ _ (in_turn _ c.loop-rule-test.true) c.loop-rule.invariant c.in-Some.ensures

pub loop-rule-preserved : goal.loop-rule-preserved
loop-rule-preserved c = clear_next (market_of c.args.self.now) (parts_of c.args.self.now) (prices_of c.args.self.now) _ _ (in_turn _ c.loop-rule-test.true) c.loop-rule.invariant c.in_default.ensures

pub returns : goal.returns
returns c =
    let m = market_of c.args.self.now in
    let X = parts_of c.args.self.now in
    let Y = prices_of c.args.self.now in
    let h = accepted_all m X Y _ c.loop-rule-test.false c.loop-rule.invariant in
    (keeps_orders m X Y h, keeps_prices m X Y h)
