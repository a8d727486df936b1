use Rattle.std.proofs.Common.{◌≡◌, ℕ, List, take, ℤ, Err, refl, ◌∙◌, ap₂, inr, w64, to_z, of_z, rules}
use Rattle.market.specs.Market.{Market}
use Rattle.market.specs.Lawful.{Lawful}
use Rattle.market.specs.View.{closed_of}
use Rattle.market.proofs.Books.{closed_lawful}
use Rattle.rules.specs.Clearings.{welfare}
use Rattle.rules.specs.Prices.{cost}
use Rattle.rules.specs.Scratch.{parts_in, prices_in}
use Rattle.clearing.specs.Faults.{from_rules}
use Rattle.clearing.proofs.Judging.{Through, through, reads_limits, filled, judged}
use Rattle.clearing.proofs.Lists.{is_clearing, is_price_list}
use Rattle.clearing.proofs.Numbers.{Limits}
use Rattle.clearing.proofs.judges.judge_file.Goals as goal

limits : (m : Market) → Lawful m → (file : List ℕ) (was then : List ℤ) → Through m file was then → Limits m (take 448 then)
limits m good file was then t = reads_limits m good file _ (take 448 then) t.reads

pub over-clearing-requires : goal.over-clearing-requires
over-clearing-requires c =
    let m = c.args.market.now in
    filled (closed_of m) _ (limits (closed_of m) (closed_lawful m) _ _ _ (through _ _ _ _ c.in_ok-read_clearing.ensures))

pub returns-in_err-judge-clause-judged : goal.returns-in_err-judge-clause-judged
returns-in_err-judge-clause-judged c =
    let t = through _ _ _ _ c.in_ok-read_clearing.ensures in
    let its = c.over-clearing.ensures in
    let breach = c.in_err-judge.field-0.0 in
    let is : c.from_residual-in_err-judge.result ≡ Err (from_rules breach) = search rules in
    rw is (judged _ _ _ _ _ t (inr (t.reads, record { rule = breach.rule; named = refl; first = rw (← its.market, ← its.numbers) c.in_err-judge.ensures })))

pub returns : goal.returns
returns c =
    let m = closed_of c.args.market.now in
    let good = closed_lawful c.args.market.now in
    let t = through _ _ _ _ c.in_ok-read_clearing.ensures in
    let k = limits m good _ _ _ t in
    let ok = c.in_ok-judge.ensures in
    let its = c.over-clearing.ensures in
    let w : to_z w64 (of_z w64 c.welfare.result) ≡ c.welfare.result = search rules in
    let z : to_z w64 (of_z w64 c.cost.result) ≡ c.cost.result = search rules in
    record {
      judged = judged _ _ _ _ _ t (
        t.reads,
        record {
          parts = is_clearing m good _ k;
          orders = rw (← its.market, ← its.numbers) ok.0;
          list = is_price_list m good _ k;
          prices = rw (← its.market, ← its.numbers) ok.1;
          welfare_is = w ∙ c.welfare.ensures.is ∙ ap₂ (λ (n : Market) (ns : List ℤ). welfare n (parts_in ns)) its.market its.numbers;
          cost_is = z ∙ c.cost.ensures.is ∙ ap₂ (λ (n : Market) (ns : List ℤ). cost n (parts_in ns) (prices_in ns)) its.market its.numbers;
        },
      );
      size = rw z c.cost.ensures.size;
    }
