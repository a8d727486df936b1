use Rattle.std.proofs.Common.{Err, sym, ap, ◌∙◌, subst}
use Rattle.std.proofs.lemmas.Result.{err_from_is_err_and}
use Rattle.records.specs.Read.{content}
use Rattle.market.specs.Reading.{byte_of, field}
use Rattle.market.specs.Services.{HasNumber}
use Rattle.market.proofs.Naming.{no_window_read}
use Rattle.market.proofs.reading.window.Goals as goal

pub returns-in_err-service : goal.returns-in_err-service
returns-in_err-service c =
    let zs = (content c.args.given.now).fields in
    let h : HasNumber (byte_of (field zs 0)) (Err c.in_err-service.field-0.0) = subst (HasNumber _) c.in_err-service.was (subst (λ n. HasNumber n c.try_from.result) c.byte.ensures c.try_from.ensures) in
    let p = err_from_is_err_and c.from_residual.result c.from_residual.ensures.1 in
    p.1 ∙ ap Err (p.2 ∙ h.0) ∙ sym (no_window_read zs h.1)
