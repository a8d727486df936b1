-- The market that a book holds, open or closed.
use Rattle.std.specs.Prelude.{vec_items}
use Rattle.market.specs.declared.book.Book.{Book}
use Rattle.market.specs.declared.closed.ClosedMarket.{ClosedMarket}
use Rattle.market.specs.Market.{Market}

abbrev pub market_of : Book → Market
market_of b = record { windows = vec_items b.windows; buys = vec_items b.buys; baskets = vec_items b.baskets; extras = vec_items b.extras }

abbrev pub closed_of : ClosedMarket → Market
closed_of c = market_of c.book
