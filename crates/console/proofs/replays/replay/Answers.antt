use Rattle.std.proofs.Common.{◌≡◌, ℕ, ◌+◌, List, [], length, take, vec_items, sym, ap, ◌∙◌, subst, arith, length-take, Bor}
use Rattle.std.proofs.lemmas.List.{get_or_default, take_all}
use Rattle.bound.proofs.Whole.{every_pile}
use Rattle.market.specs.Files.{AfterFiles}
use Rattle.market.specs.Market.{empty}
use Rattle.market.specs.View.{market_of}
use Rattle.market.proofs.Books.{book_lawful}
use Rattle.console.specs.Past.{no_call, Came}
use Rattle.console.specs.Played.{visits}
use Rattle.console.specs.Standing.{Standing}
use Rattle.console.specs.View.{standing}
use Rattle.console.proofs.Coming.{came_none}
use Rattle.console.proofs.Playing.{offers_one, files_more, came_more, so_far_more, played}
use Rattle.console.proofs.replays.replay.Goals as goal

pub loop-f-preserved : goal.loop-f-preserved
loop-f-preserved c =
    let fs = c.args.files.now in
    let i = c.loop-f.f-index in
    let l = c.loop-f-test.true in
    let inv = c.loop-f.invariant in
    let given = vec_items c.loop-f.entered in
    let e : length given ≡ length (take i fs) = omega (arith, c.loop-f.entered.ok.0, inv.count, length-take i fs) in
    record {
      count = c.in_ok-push.ensures.len ∙ ap (λ (n : ℕ). n + 1) inv.count;
      made = files_more fs i _ given _ c.enter.result (market_of c.loop-f.book) _ l e inv.made c.enter.ensures.enters c.in_ok-push.ensures.items;
    }

pub loop-c-init : goal.loop-c-init
loop-c-init c =
    let fs = c.args.files.now in
    let m = market_of c.loop-f.book in
    let all : take c.loop-f.f-index fs ≡ fs = take_all c.loop-f.f-index fs c.loop-f-test.false in
    record {
      market = m;
      lawful = book_lawful c.loop-f.book;
      made = subst (λ (gs : List (Bor (List ℕ))). AfterFiles empty (visits gs (vec_items c.loop-f.entered)) m) all c.loop-f.invariant.made;
      files = omega (arith, c.loop-f.invariant.count, c.loop-f-test.false, c.loop-f.auto.f-index-end);
      came = subst (λ (s : Standing). Came m [] s) (sym c.closing-console.ensures) (came_none m (offers_one m));
      count = c.new-answers.ensures.len;
      so_far = λ k d h. absurd (omega arith);
    }

pub loop-c-preserved : goal.loop-c-preserved
loop-c-preserved c =
    let cs = c.args.calls.now in
    let i = c.loop-c.c-index in
    let l = c.loop-c-test.true in
    let inv = c.loop-c.invariant in
    let at = get_or_default cs i _ no_call l in
    record {
      market = inv.market;
      lawful = inv.lawful;
      made = inv.made;
      files = inv.files;
      came = came_more inv.market cs i (standing c.loop-c.console) _ _ c.answer_to.result l at inv.came c.answer_to.ensures;
      count = c.in_ok-push-2.ensures.len ∙ ap (λ (n : ℕ). n + 1) inv.count;
      so_far = so_far_more inv.market cs i (standing c.loop-c.console) _ _ c.answer_to.result (vec_items c.loop-c.answers) _ l at inv.came c.answer_to.ensures (omega (arith, c.loop-c.answers.ok.0, inv.count)) c.in_ok-push-2.ensures.items inv.so_far;
    }

pub returns : goal.returns
returns c =
    let inv = c.loop-c.invariant in
    record {
      market = inv.market;
      lawful = inv.lawful;
      count = omega (arith, c.loop-f.entered.ok.0, inv.files);
      files_made = inv.made;
      played = played inv.market inv.lawful c.args.calls.now (vec_items c.loop-c.answers) c.loop-c.c-index (omega (arith, c.loop-c.answers.ok.0, inv.count)) (omega (arith, c.loop-c-test.false, c.loop-c.auto.c-index-end)) inv.so_far;
      piles = every_pile;
    }
