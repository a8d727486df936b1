-- What a clearing is over: a closed market, and numbers that give its parts and its prices.
use Rattle.std.specs.Prelude.{ℕ, List, ℤ}
use Rattle.market.specs.Market.{Market}
use Rattle.market.specs.View.{closed_of}
use Rattle.rules.specs.Scratch.{parts_in, prices_in}
use Rattle.rules.specs.declared.filled.Clearing.{Clearing}

abbrev pub market_of : Clearing → Market
market_of c = closed_of c.market.now

abbrev pub numbers_of : Clearing → List ℤ
numbers_of c = c.numbers.now

abbrev pub parts_of : Clearing → ℕ → ℤ
parts_of c = parts_in (numbers_of c)

abbrev pub prices_of : Clearing → ℕ → ℤ
prices_of c = prices_in (numbers_of c)
