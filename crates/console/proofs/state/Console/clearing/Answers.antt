use Rattle.std.proofs.Common.{◌≡◌, take, w64, to_z, of_z, rules}
use Rattle.market.specs.View.{closed_of}
use Rattle.market.proofs.Books.{closed_lawful}
use Rattle.console.proofs.Laws.{same_held, kept_copy, taken_file, read_sized}
use Rattle.console.proofs.state.Console.clearing.Goals as goal
use Rattle.console.proofs.state.Console.clearing.Goals.{then-is_better, else-is_better}

pub invariant_of-self-clause-kept : goal.invariant_of-self-clause-kept
invariant_of-self-clause-kept c =
    let m = closed_of c.args.self.now.market in
    let w = c.in_ok-worth.worth in
    let a : to_z w64 (of_z w64 w.welfare) ≡ w.welfare = search rules in
    let b : to_z w64 (of_z w64 w.cost) ≡ w.cost = search rules in
    let n : c.unwrap.result.now ≡ take 448 c.judge_file.new.scratch = (rw c.unwrap.ensures at c.first_chunk.ensures.cases).same in
    kept_copy m _ _ _ _ _ _ n a b (taken_file m _ _ _ w c.in_ok-worth.ensures.judged).keeps

pub invariant_of-self-clause-fair : goal.invariant_of-self-clause-fair
invariant_of-self-clause-fair c =
    let s = c.args.self.now in
    let m = closed_of s.market in
    let w = c.in_ok-worth.worth in
    let n : c.unwrap.result.now ≡ take 448 c.judge_file.new.scratch = (rw c.unwrap.ensures at c.first_chunk.ensures.cases).same in
    λ v h. read_sized m (closed_lawful s.market) _ _ _ (to_z w64 (of_z w64 w.welfare)) (to_z w64 (of_z w64 w.cost)) (taken_file m _ _ _ w c.in_ok-worth.ensures.judged).reads n v h

pub returns : goal.returns
returns c =
    let w = c.in_ok-worth.worth in
    let a : to_z w64 (of_z w64 w.welfare) ≡ w.welfare = search rules in
    let b : to_z w64 (of_z w64 w.cost) ≡ w.cost = search rules in
    let n : c.unwrap.result.now ≡ take 448 c.judge_file.new.scratch = (rw c.unwrap.ensures at c.first_chunk.ensures.cases).same in
    let e = same_held (record { numbers = c.unwrap.result.now; welfare = to_z w64 (of_z w64 w.welfare); cost = to_z w64 (of_z w64 w.cost) }) (record { numbers = take 448 c.judge_file.new.scratch; welfare = w.welfare; cost = w.cost }) n a b in
    record {
      verdict = _;
      judged = c.in_ok-worth.ensures.judged;
      told = search rules;
      after = rw (← e) (elim c.if-is_better.branch [ then-is_better w ↦ search rules | else-is_better w ↦ search rules ]);
    }
