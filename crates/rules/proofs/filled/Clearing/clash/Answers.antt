use Rattle.std.proofs.Common.{◌+◌, pos, ◌<ℤ◌, sym, ◌∙◌}
use Rattle.std.proofs.lemmas.Bool.{false≢true}
use Rattle.std.proofs.lemmas.Bool.Decides.{Decides-like}
use Rattle.rules.specs.Clearings.{Exclude}
use Rattle.rules.specs.Views.{market_of, parts_of}
use Rattle.rules.proofs.Compared.{accepted}
use Rattle.rules.proofs.filled.Clearing.clash.Goals as goal
use Rattle.rules.proofs.filled.Clearing.clash.Goals.{then-exclude, else-exclude}

pub returns-then-parts-gt0 : goal.returns-then-parts-gt0
returns-then-parts-gt0 c =
    let both : Exclude (market_of c.args.self.now) c.args.b c.args.c × (pos 0 <ℤ parts_of c.args.self.now (64 + c.args.b)) = elim c.if-exclude.branch [
      | then-exclude w ↦ (c.exclude.ensures.0 w.if-exclude.true, (accepted _ _ c.parts-parts.ensures.small c.parts-parts.ensures.is).0 (sym w.value-is ∙ c.if-parts-gt0.true))
      | else-exclude w ↦ absurd (false≢true (sym w.if-exclude.false ∙ sym w.value-is ∙ c.if-parts-gt0.true))
    ] in
    Decides-like _ (λ l. (both.0, both.1, l)) (λ h. h.2) (accepted _ _ c.parts-others.ensures.small c.parts-others.ensures.is)
