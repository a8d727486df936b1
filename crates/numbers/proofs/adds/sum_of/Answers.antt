use Rattle.std.proofs.Common.{arith}
use Rattle.std.proofs.lemmas.Int.{ints}
use Rattle.numbers.proofs.Running.{summed_none, summed_step, summed_all, sum_fits}
use Rattle.numbers.proofs.adds.sum_of.Goals as goal

pub loop-k-init : goal.loop-k-init
loop-k-init g c = λ f size h. summed_none f size

pub overflow_add-sum : goal.overflow_add-sum
overflow_add-sum g c =
    let (f, size, small, h) = c.requires.fits in
    let own = c.term-sum.type_inv in
    sum_fits f size _ _ _ _ c.loop-k-test.true small (omega (arith, ints)) (c.loop-k.invariant f size h) (h _ _ c.loop-k-test.true c.term-sum.ensures)

pub loop-k-preserved : goal.loop-k-preserved
loop-k-preserved g c = λ f size h.
    let own = c.term-sum.type_inv in
    let (f', size', small, h') = c.requires.fits in
    let fits = sum_fits f' size' _ _ _ _ c.loop-k-test.true small (omega (arith, ints)) (c.loop-k.invariant f' size' h') (h' _ _ c.loop-k-test.true c.term-sum.ensures) in
    summed_step f size _ _ _ fits (omega (arith, ints)) (c.loop-k.invariant f size h) (h _ _ c.loop-k-test.true c.term-sum.ensures)

pub returns : goal.returns
returns g c = λ f size h.
    let past = c.loop-k-test.false in
    let end = c.loop-k.auto.k-end in
    summed_all f size _ _ _ (omega arith) (c.loop-k.invariant f size h)
