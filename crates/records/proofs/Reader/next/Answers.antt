use Rattle.std.proofs.Common.{ℕ, List, drop, Ok, Err, Option, Result, sym, arith}
use Rattle.std.proofs.lemmas.Bool.{true≢false}
use Rattle.std.proofs.lemmas.Grind.{common_steps}
use Rattle.std.specs.Result.{IsErr}
use Rattle.records.specs.declared.Kind.{Kind}
use Rattle.records.specs.declared.Record.{Record}
use Rattle.records.specs.declared.Refusal.{Refusal}
use Rattle.records.specs.Readers.{Next, Handed}
use Rattle.records.proofs.Spelling.{unspelt}
use Rattle.records.proofs.Reader.next.Goals as goal

-- at a refusal no record is spelt
refused : (kinds : List Kind) (file : List ℕ) (p q : ℕ) (r : Result (Option Record) Refusal) → IsErr r → Next kinds file p r q → Handed kinds (drop p file) r
refused kinds file p q (Ok o) h next = absurd (true≢false (sym h))
refused kinds file p q (Err e) h next = unspelt kinds (drop p file) e.fault next.1

pub returns-in_err-record-clause-spelt : goal.returns-in_err-record-clause-spelt
returns-in_err-record-clause-spelt c =
    let self = c.args.self.now in
    refused self.kinds.now self.file.now self.place self.place c.from_residual.result c.from_residual.ensures.0 (grind (arith, common_steps))
