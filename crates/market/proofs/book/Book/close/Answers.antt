use Rattle.std.proofs.Common.{refl}
use Rattle.market.proofs.Books.{book_lawful}
use Rattle.market.proofs.book.Book.close.Goals as goal

pub returns : goal.returns
returns c = record { entries = refl; lawful = book_lawful c.args.self }
