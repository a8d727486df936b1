-- What stands on a console: the closed market, the held clearing, and the bounds that accepted trees and price files have told.
use Rattle.std.specs.Prelude.{ℕ, Bool, true, false, cond, ℤ, pos, ◌+ℤ◌, ◌-ℤ◌, ◌*ℤ◌, Some, None, Option, int_lt}
use Rattle.market.specs.Market.{Market}
use Rattle.rules.specs.Scratch.{parts_in, prices_in}
use Rattle.clearing.specs.Marks.{zeros}
use Rattle.console.specs.declared.held.Held.{Held}

pub record Standing : Type 0 where
  pub market : Market
  pub held : Held
  pub bound : Option ℤ
  pub price : Option ℤ

-- the parts by variable and the prices by line of a clearing
abbrev pub parts_of : Held → ℕ → ℤ
parts_of h = parts_in h.numbers

abbrev pub prices_of : Held → ℕ → ℤ
prices_of h = prices_in h.numbers

-- the clearing of a new console: no parts, prices 0
abbrev pub idle : Held
idle = record { numbers = zeros; welfare = pos 0; cost = pos 0 }

-- what stands on a new console
abbrev pub opening : Market → Standing
opening m = record { market = m; held = idle; bound = None; price = None }

-- of greater welfare, or of equal welfare at less cost
abbrev pub better : Held → Held → Bool
better h g = cond (int_lt g.welfare h.welfare) true (cond (int_lt h.welfare g.welfare) false (int_lt h.cost g.cost))

-- the gap: bound − welfare, in grains; absent without a bound
abbrev pub gap : Standing → Option ℤ
gap s = elim s.bound [ Some b ↦ Some (b -ℤ s.held.welfare) | None ↦ None ]

-- the price gap: price bound + 1,000 × cost; absent without a price bound
abbrev pub price_gap : Standing → Option ℤ
price_gap s = elim s.price [ Some b ↦ Some (b +ℤ pos 1000 *ℤ s.held.cost) | None ↦ None ]
