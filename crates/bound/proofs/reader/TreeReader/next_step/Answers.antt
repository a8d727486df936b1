use Rattle.std.proofs.Common.{◌≡◌, length, drop, Ok, sym, ap, ◌∙◌, subst, arith, w64, rules}
use Rattle.std.proofs.lemmas.Result.{err_from_is_err_and}
use Rattle.std.proofs.lemmas.Int.{to_z-of_z}
use Rattle.records.specs.Read.{read, content}
use Rattle.records.specs.Readers.{file_of, kinds_of, place_of, Next}
use Rattle.bound.specs.declared.faults.Fault.TheVariants.{NotOneTree}
use Rattle.bound.specs.Steps.{refuse}
use Rattle.bound.proofs.Reading.{step_end, step_ok, step_err, step_split, step_row, step_close}
use Rattle.bound.proofs.reader.TreeReader.next_step.Goals as goal

pub returns-in_err-record-clause-gives : goal.returns-in_err-record-clause-gives
returns-in_err-record-clause-gives c =
    let reader = c.args.self.now.reader in
    let told = c.in_err-record.ensures in
    let p = err_from_is_err_and c.from_residual.result c.from_residual.ensures.1 in
    let is = ap (λ k. read k (drop (place_of reader) (file_of reader))) (sym c.args.self.now.over.0) ∙ told.reads.1 in
    rw (p.1, p.2) (step_err (file_of reader) (place_of reader) _ told.reads.0 is told.reads.2)

pub returns-in_default-clause-gives : goal.returns-in_default-clause-gives
returns-in_default-clause-gives c =
    let reader = c.args.self.now.reader in
    let told = c.in_ok-record.ensures in
    let none = subst (λ o. Next (kinds_of reader) (file_of reader) (place_of reader) (Ok o) (place_of c.next.new.self)) c.in_default.is told.reads in
    let ended : length (file_of reader) ≡ c.place-place.result = omega (arith, none.0, c.args.self.now.over.1, c.place-place.ensures) in
    rw c.at.ensures (step_end (file_of reader) (place_of reader) none.0 ∙ ap (refuse NotOneTree) ended)

pub returns-in-8-clause-gives : goal.returns-in-8-clause-gives
returns-in-8-clause-gives c =
    let reader = c.args.self.now.reader in
    let told = c.in_ok-record.ensures in
    let some = subst (λ o. Next (kinds_of reader) (file_of reader) (place_of reader) (Ok o) (place_of c.next.new.self)) c.in-Some.is told.reads in
    let is = ap (λ k. read k (drop (place_of reader) (file_of reader))) (sym c.args.self.now.over.0) ∙ some.0 in
    let first = to_z-of_z w64 c.field.result (search rules) ∙ c.field.ensures in
    step_ok (file_of reader) (place_of reader) _ _ _ (omega (arith, some.2, some.3)) is (step_split (content c.in-Some.record) _ c.in-8.is first) some.2

pub returns-in-9-clause-gives : goal.returns-in-9-clause-gives
returns-in-9-clause-gives c =
    let reader = c.args.self.now.reader in
    let told = c.in_ok-record.ensures in
    let some = subst (λ o. Next (kinds_of reader) (file_of reader) (place_of reader) (Ok o) (place_of c.next.new.self)) c.in-Some.is told.reads in
    let is = ap (λ k. read k (drop (place_of reader) (file_of reader))) (sym c.args.self.now.over.0) ∙ some.0 in
    let first = to_z-of_z w64 c.field-in-9.result (search rules) ∙ c.field-in-9.ensures in
    let second = to_z-of_z w64 c.field-in-9-2.result (search rules) ∙ c.field-in-9-2.ensures in
    step_ok (file_of reader) (place_of reader) _ _ _ (omega (arith, some.2, some.3)) is (step_row (content c.in-Some.record) _ _ c.in-9.is first second) some.2

pub returns-in_default-kind-clause-gives : goal.returns-in_default-kind-clause-gives
returns-in_default-kind-clause-gives c =
    let reader = c.args.self.now.reader in
    let told = c.in_ok-record.ensures in
    let some = subst (λ o. Next (kinds_of reader) (file_of reader) (place_of reader) (Ok o) (place_of c.next.new.self)) c.in-Some.is told.reads in
    let is = ap (λ k. read k (drop (place_of reader) (file_of reader))) (sym c.args.self.now.over.0) ∙ some.0 in
    step_ok (file_of reader) (place_of reader) _ _ _ (omega (arith, some.2, some.3)) is (step_close (content c.in-Some.record) (λ e. search rules) (λ e. search rules)) some.2
