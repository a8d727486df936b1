-- The figures of the small market: a buy of 40 DCL at 90.00, and baskets of two units with 20 DCL each, at 30.00 and at 70.00.
-- Files are written out in bytes; amounts are in grains, 10,000 to the penny.
use Rattle.std.specs.Prelude.{◌≡◌, ℕ, List, [], ◌∷◌, ℤ, pos, ◌+ℤ◌, ◌*ℤ◌, Ok}
use Rattle.display.specs.Rounding.{RoundedUp}
use Rattle.market.specs.Figures.{market, Figure}
use Rattle.rules.specs.declared.faults.Rule.{Rule}
use Rattle.rules.specs.Broken.{FirstBroken}
use Rattle.rules.specs.Faults.{rule_number}
use Rattle.rules.specs.Prices.{cost}
use Rattle.rules.specs.Scratch.{parts_in, prices_in}
use Rattle.clearing.specs.declared.marks.Mark.TheVariants.{Parts, Price}
use Rattle.clearing.specs.declared.worth.Worth.{Worth}
use Rattle.clearing.specs.Files.{Reads}
use Rattle.clearing.specs.Marks.{marked}
use Rattle.clearing.specs.Verdicts.{Keeps}
use Rattle.bound.specs.Trees.{Proves}
use Rattle.auction.specs.Acceptance.{acceptance}
use Rattle.auction.specs.Pricing.{pricing}

-- the buy and both baskets in full, and a price of DCL in two bytes: as a file, and as the numbers that it leaves
abbrev pub full_file : ℕ → ℕ → List ℕ
full_file high low =
    6 ∷ 0 ∷ 2 ∷ 0 ∷ 0 ∷ 39 ∷ 16 ∷ 6 ∷ 0 ∷ 3 ∷ 0 ∷ 0 ∷ 0 ∷ 64 ∷ 0 ∷ 0 ∷ 39 ∷ 16 ∷ 6 ∷ 0 ∷ 3 ∷ 0 ∷ 0 ∷ 0 ∷ 65 ∷ 0 ∷ 0 ∷ 39 ∷ 16
    ∷ 7 ∷ 0 ∷ 2 ∷ 0 ∷ 0 ∷ high ∷ low ∷ []

abbrev pub full : ℕ → List ℤ
full price = marked (Parts (pos 0) (pos 10000) ∷ Parts (pos 64) (pos 10000) ∷ Parts (pos 65) (pos 10000) ∷ Price (pos 0) (pos price) ∷ [])

-- half of the buy, the first basket, and the price 30.00
abbrev pub half_file : List ℕ
half_file = 6 ∷ 0 ∷ 2 ∷ 0 ∷ 0 ∷ 19 ∷ 136 ∷ 6 ∷ 0 ∷ 3 ∷ 0 ∷ 0 ∷ 0 ∷ 64 ∷ 0 ∷ 0 ∷ 39 ∷ 16 ∷ 7 ∷ 0 ∷ 2 ∷ 0 ∷ 0 ∷ 11 ∷ 184 ∷ []

abbrev pub half : List ℤ
half = marked (Parts (pos 0) (pos 5000) ∷ Parts (pos 64) (pos 10000) ∷ Price (pos 0) (pos 3000) ∷ [])

-- 70,000,000 on row 0; 2,000 on row 97; no weights
abbrev pub row0 : List ℕ
row0 = 9 ∷ 0 ∷ 2 ∷ 0 ∷ 0 ∷ 0 ∷ 0 ∷ 4 ∷ 44 ∷ 29 ∷ 128 ∷ 10 ∷ 0 ∷ 0 ∷ []

abbrev pub row97 : List ℕ
row97 = 9 ∷ 0 ∷ 3 ∷ 0 ∷ 0 ∷ 0 ∷ 0 ∷ 0 ∷ 0 ∷ 0 ∷ 97 ∷ 0 ∷ 0 ∷ 0 ∷ 0 ∷ 0 ∷ 0 ∷ 7 ∷ 208 ∷ 10 ∷ 0 ∷ 0 ∷ []

abbrev pub no_weights : List ℕ
no_weights = 10 ∷ 0 ∷ 0 ∷ []

-- The file is read into the numbers, which keep every rule and have this welfare and cost.
pub record Accepted (file : List ℕ) (ns : List ℤ) (w : Worth) : Type 0 where
  pub reads : Reads market file (Ok tt) ns
  pub keeps : Keeps market ns w

-- The file is read into the numbers; the first rule that they break has this number, at its lowest place.
pub record Refused (file : List ℕ) (ns : List ℤ) (number place : ℕ) : Type 0 where
  pub reads : Reads market file (Ok tt) ns
  pub rule : Rule
  pub numbered : rule_number rule ≡ number
  pub first : FirstBroken market (parts_in ns) (prices_in ns) rule place

-- Over the clearing ns the price file proves a bound that, with 1,000 × cost, is the price gap.
pub record PriceGap (ns : List ℤ) (file : List ℕ) (gap : ℤ) : Type 0 where
  pub bound : ℤ
  pub proves : Proves (pricing market (parts_in ns)) file bound
  pub is : bound +ℤ pos 1000 *ℤ cost market (parts_in ns) (prices_in ns) ≡ gap

pub record Figures : Type 0 where
  -- the market is what its own 52 bytes enter
  pub entered : Figure
  -- all in full at 70.00: accepted, with the welfare 1,600,000,000 and the cost 2,800,000,000
  pub at_70_00 : Accepted (full_file 27 88) (full 7000) (record { welfare = pos 1600000000; cost = pos 2800000000 })
  -- at 69.99 the second basket, variable 65, loses: refused 20 there
  pub at_69_99 : Refused (full_file 27 87) (full 6999) 20 65
  -- at 90.00: accepted, at more cost
  pub at_90_00 : Accepted (full_file 35 40) (full 9000) (record { welfare = pos 1600000000; cost = pos 3600000000 })
  -- at 90.01 the buy, variable 0, pays above its own price: refused 21 there
  pub at_90_01 : Refused (full_file 35 41) (full 9001) 21 0
  -- half of the buy from the first basket at 30.00: accepted, with the welfare 1,200,000,000
  pub half_at_30_00 : Accepted half_file half (record { welfare = pos 1200000000; cost = pos 600000000 })
  -- 70,000,000 on row 0 of the acceptance programme: no clearing has more welfare than 1,600,000,000
  pub bound : Proves (acceptance market) row0 (pos 1600000000)
  -- after all in full at 70.00, 2,000 on row 97 of the price programme: the price gap is 0
  pub no_gap : PriceGap (full 7000) row97 (pos 0)
  -- straight after it, a leaf without weights instead: 42,799,600,000,000, which at 10,000,000 a penny is the cost 4279960 that is shown
  pub gap : PriceGap (full 7000) no_weights (pos 42799600000000)
  pub shown : RoundedUp 10000000 42799600000000 4279960
