use Rattle.std.proofs.Common.{◌≡◌, ◌+◌, ◌-◌, ◌≤◌, [], ◌∷◌, ◌++◌, length, Ok, Err, sym, refl, ap, ◌∙◌, arith, w64, SFits, rules}
use Rattle.std.proofs.lemmas.Int.{to_z-of_z}
use Rattle.std.proofs.lemmas.List.{length_push}
use Rattle.std.proofs.lemmas.List.Sums.{fold_push}
use Rattle.std.proofs.lemmas.Result.{err_from_is_err_and}
use Rattle.records.specs.Readers.{file_of, place_of}
use Rattle.bound.specs.Checks.{opened, judged, closing, next_row, leaf_at}
use Rattle.bound.specs.Leaves.{leaf_bound}
use Rattle.bound.proofs.Walks.{accepted, rises_past}
use Rattle.bound.specs.Steps.{step_at, and_then}
use Rattle.bound.proofs.Reading.{gives_then, leaf_err, leaf_ok}
use Rattle.bound.proofs.tree.open.Goals as goal

pub loop-variable-init : goal.loop-variable-init
loop-variable-init g c =
    let none = c.over-leaf.ensures.weights in
    let empty = ap length none in
    let first = ap next_row none in
    let t = g.P.Programme.table c.args.programme.now in
    let reader = c.args.reader.now.reader in
    record {
      same = refl;
      over = c.over-leaf.ensures.programme;
      rows = omega (arith, empty);
      known = omega (arith, first);
      leads = (length (file_of reader), omega arith, ap (λ ws. leaf_at (length (file_of reader)) t (file_of reader) ws (place_of reader)) (sym none));
    }

pub returns-in_err-variable-clause-gives : goal.returns-in_err-variable-clause-gives
returns-in_err-variable-clause-gives g c =
    let inv = c.loop-variable.invariant in
    let told = c.in_err-variable.ensures in
    let at = place_of c.loop-variable.reader.reader in
    let t = g.P.Programme.table c.args.programme.now in
    let p = err_from_is_err_and c.from_residual.result c.from_residual.ensures.1 in
    rw (p.1, p.2) (inv.leads.2 ∙ leaf_err inv.leads.0 t _ _ at inv.leads.1 _ (ap (λ f. step_at f at) (sym inv.same) ∙ told.gives))

pub returns-in-Split-clause-gives : goal.returns-in-Split-clause-gives
returns-in-Split-clause-gives g c =
    let inv = c.loop-variable.invariant in
    let told = c.in_ok-variable.ensures in
    let at = place_of c.loop-variable.reader.reader in
    let q = place_of c.next_step.new.self.reader in
    let table = g.P.Programme.table in
    let t = table c.args.programme.now in
    let file = file_of c.args.reader.now.reader in
    let ws = c.loop-variable.leaf.weights.items in
    let v = c.in-Split.variable in
    let fits : SFits w64 v = search rules in
    let step = ap (λ f. step_at f at) (sym inv.same) ∙ told.gives ∙ ap (λ s. Ok (s, q)) c.in-Split.is in
    let is : c.branch-leaf.result ≡ opened t.variables (length ws) v at =
    c.branch-leaf.ensures ∙ (λ i. opened (table (inv.over i)).variables (length ws) (to_z-of_z w64 v fits i) (c.place-place.ensures i)) in
    gives_then _ c.branch-leaf.result q (inv.leads.2 ∙ leaf_ok inv.leads.0 t file ws at inv.leads.1 _ q step ∙ ap (λ r. and_then r (λ f. Ok (f, q))) (sym is))

pub returns-in_err-weight-in-Row-clause-gives : goal.returns-in_err-weight-in-Row-clause-gives
returns-in_err-weight-in-Row-clause-gives g c =
    let inv = c.loop-variable.invariant in
    let told = c.in_ok-variable.ensures in
    let at = place_of c.loop-variable.reader.reader in
    let q = place_of c.next_step.new.self.reader in
    let table = g.P.Programme.table in
    let t = table c.args.programme.now in
    let file = file_of c.args.reader.now.reader in
    let ws = c.loop-variable.leaf.weights.items in
    let row : SFits w64 c.in-Row.row = search rules in
    let weight : SFits w64 c.in-Row.weight = search rules in
    let step = ap (λ f. step_at f at) (sym inv.same) ∙ told.gives ∙ ap (λ s. Ok (s, q)) c.in-Row.is in
    let is : judged (length ws) (next_row ws) t.rows c.in-Row.row c.in-Row.weight at ≡ Err c.in_err-weight-in-Row.field-0.0 =
    sym (sym c.in_err-weight-in-Row.was ∙ c.judge.ensures ∙ (λ i. judged (length ws) (next_row ws) (table (inv.over i)).rows (to_z-of_z w64 c.in-Row.row row i) (to_z-of_z w64 c.in-Row.weight weight i) (c.place-place.ensures i))) in
    let p = err_from_is_err_and c.from_residual-in_err-weight-in-Row.result c.from_residual-in_err-weight-in-Row.ensures.1 in
    rw (p.1, p.2) (inv.leads.2 ∙ leaf_ok inv.leads.0 t file ws at inv.leads.1 _ q step ∙ ap (λ r. and_then r (λ x. leaf_at (inv.leads.0 - 1) t file (ws ++ x ∷ []) q)) is)

pub loop-variable-preserved : goal.loop-variable-preserved
loop-variable-preserved g c =
    let inv = c.loop-variable.invariant in
    let told = c.in_ok-variable.ensures in
    let at = place_of c.loop-variable.reader.reader in
    let q = place_of c.next_step.new.self.reader in
    let table = g.P.Programme.table in
    let t = table c.args.programme.now in
    let file = file_of c.args.reader.now.reader in
    let ws = c.loop-variable.leaf.weights.items in
    let w = c.in_ok-weight-in-Row.weight in
    let row : SFits w64 c.in-Row.row = search rules in
    let weight : SFits w64 c.in-Row.weight = search rules in
    let step = ap (λ f. step_at f at) (sym inv.same) ∙ told.gives ∙ ap (λ s. Ok (s, q)) c.in-Row.is in
    let is : judged (length ws) (next_row ws) t.rows c.in-Row.row c.in-Row.weight at ≡ Ok w =
    sym (sym c.in_ok-weight-in-Row.was ∙ c.judge.ensures ∙ (λ i. judged (length ws) (next_row ws) (table (inv.over i)).rows (to_z-of_z w64 c.in-Row.row row i) (to_z-of_z w64 c.in-Row.weight weight i) (c.place-place.ensures i))) in
    let good = accepted (length ws) (next_row ws) t.rows c.in-Row.row c.in-Row.weight at w is in
    let after : length ws ≤ w.row = rises_past (length ws) (length ws) (next_row ws) w.row refl inv.rows good.rises in
    let next : next_row (ws ++ w ∷ []) ≡ w.row + 1 = fold_push (λ n w. w.row + 1) 0 ws w in
    let more : c.push.new.self.items ≡ ws ++ w ∷ [] = c.push.ensures.items in
    record {
      same = told.file ∙ inv.same;
      over = inv.over;
      rows = rw more (omega (arith, length_push ws w, next, after));
      known = rw more (omega (arith, next, good.there));
      leads = (
        inv.leads.0 - 1,
        omega (arith, inv.leads.1, told.on),
        inv.leads.2 ∙ leaf_ok inv.leads.0 t file ws at inv.leads.1 _ q step ∙ ap (λ r. and_then r (λ x. leaf_at (inv.leads.0 - 1) t file (ws ++ x ∷ []) q)) is
            ∙ ap (λ l. leaf_at (inv.leads.0 - 1) t file l q) (sym more),
      );
    }

pub returns-in-Close-clause-gives : goal.returns-in-Close-clause-gives
returns-in-Close-clause-gives g c =
    let inv = c.loop-variable.invariant in
    let told = c.in_ok-variable.ensures in
    let at = place_of c.loop-variable.reader.reader in
    let q = place_of c.next_step.new.self.reader in
    let table = g.P.Programme.table in
    let t = table c.args.programme.now in
    let file = file_of c.args.reader.now.reader in
    let ws = c.loop-variable.leaf.weights.items in
    let step = ap (λ f. step_at f at) (sym inv.same) ∙ told.gives ∙ ap (λ s. Ok (s, q)) c.in-Close.is in
    let is : c.close.result ≡ closing (leaf_bound t ws) at = c.close.ensures ∙ (λ i. closing (leaf_bound (table (inv.over i)) ws) (c.place-place.ensures i)) in
    gives_then _ c.close.result q (inv.leads.2 ∙ leaf_ok inv.leads.0 t file ws at inv.leads.1 _ q step ∙ ap (λ r. and_then r (λ f. Ok (f, q))) (sym is))
