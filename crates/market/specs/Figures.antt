-- A small market as its file and as its entries: a Response window of four hours, a buy of 40 DCL at 90.00, and baskets of two
-- units with 20 DCL each, at 30.00 and 70.00.
use Rattle.std.specs.Prelude.{ℕ, false, List, [], ◌∷◌, pos, Ok}
use Rattle.market.specs.declared.entries.Service.TheVariants.{Response}
use Rattle.market.specs.Files.{Enters}
use Rattle.market.specs.Market.{Market, empty}

abbrev pub bytes : List ℕ
bytes = 1 ∷ 0 ∷ 5 ∷ 0 ∷ 0 ∷ 0 ∷ 1 ∷ 0 ∷ 0 ∷ 0 ∷ 8 ∷ 2 ∷ 0 ∷ 12 ∷ 0 ∷ 0 ∷ 0 ∷ 40 ∷ 0 ∷ 0 ∷ 35 ∷ 40 ∷ 3 ∷ 2 ∷ 9 ∷ 0 ∷ 0 ∷ 0 ∷ 1 ∷ 0 ∷ 0 ∷ 0 ∷ 20 ∷ 0 ∷ 0 ∷ 11 ∷ 184 ∷ 3 ∷ 2 ∷ 9 ∷ 0 ∷ 0 ∷ 0 ∷ 2 ∷ 0 ∷ 0 ∷ 0 ∷ 20 ∷ 0 ∷ 0 ∷ 27 ∷ 88 ∷ []

abbrev pub market : Market
market = record {
  windows = record { service = Response; start = 0; length = 8 } ∷ [];
  buys = record { window = 0; product = 0; quantity = 40; price = pos 9000; family = 0; permit = false } ∷ [];
  baskets =
      record { unit = 1; window = 0; ring = 0; quantities = 20 ∷ 0 ∷ 0 ∷ 0 ∷ 0 ∷ 0 ∷ []; price = pos 3000 }
      ∷ record { unit = 2; window = 0; ring = 0; quantities = 20 ∷ 0 ∷ 0 ∷ 0 ∷ 0 ∷ 0 ∷ []; price = pos 7000 } ∷ [];
  extras = [];
}

-- Entering the bytes into an empty book makes that market.
abbrev pub Figure : Type 0
Figure = Enters empty bytes (Ok tt) market
