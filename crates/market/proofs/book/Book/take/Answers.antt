use Rattle.std.proofs.Common.{sym, refl, ap, ◌∙◌}
use Rattle.std.proofs.lemmas.Result.{err_from_is_err_and}
use Rattle.records.specs.Read.{content}
use Rattle.market.specs.Market.{put}
use Rattle.market.specs.View.{market_of}
use Rattle.market.proofs.Books.{book_lined}
use Rattle.market.proofs.Faulting.{took_outside, took_faulty, took_admits}
use Rattle.market.proofs.Fitting.{read_entry_fits}
use Rattle.market.proofs.book.Book.take.Goals as goal

pub put-requires : goal.put-requires
put-requires c = (read_entry_fits (content c.args.given.now) c.in_ok-entry.entry (sym c.in_ok-entry.ensures), c.in_ok-check.ensures)

pub returns-in_err-entry : goal.returns-in_err-entry
returns-in_err-entry c =
    let p = err_from_is_err_and c.from_residual.result c.from_residual.ensures.1 in
    rw (p.1, p.2) (took_outside (market_of c.args.self.now) (book_lined c.args.self.now) (content c.args.given.now) c.in_err-entry.field-0.0 c.in_err-entry.ensures, refl)

pub returns-in_err-check : goal.returns-in_err-check
returns-in_err-check c =
    let p = err_from_is_err_and c.from_residual-in_err-check.result c.from_residual-in_err-check.ensures.1 in
    rw (p.1, p.2) (took_faulty (market_of c.args.self.now) (book_lined c.args.self.now) (content c.args.given.now) c.in_ok-entry.entry c.in_err-check.field-0.0 c.in_ok-entry.ensures (sym c.in_err-check.ensures), refl)

pub returns : goal.returns
returns c =
    let p = took_admits (market_of c.args.self.now) (content c.args.given.now) c.in_ok-entry.entry c.in_ok-entry.ensures (sym c.in_ok-check.ensures) in
    (p.0, p.1, c.put.ensures ∙ ap (put (market_of c.args.self.now)) p.2)
