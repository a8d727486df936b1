use Rattle.market.specs.Files.{Enters}
use Rattle.market.specs.View.{market_of}
use Rattle.market.proofs.Books.{book_lawful}
use Rattle.market.proofs.Outcomes.{accepts}
use Rattle.market.proofs.book.Book.enter.Goals as goal

pub returns : goal.returns
returns c =
    let m = market_of c.args.self.now in
    let n = market_of c.enter_records.new.self in
    let done = c.enter_records.ensures in
    let enters : Enters m c.args.file.now c.enter_records.result n = (done.long, done.reads) in
    record { enters = enters; accepts = accepts m c.args.file.now c.enter_records.result n enters; lawful = book_lawful c.enter_records.new.self }
