-- What each programme is over: a closed market, and for prices the parts of a clearing.
use Rattle.std.specs.Prelude.{ℕ, List, ℤ}
use Rattle.rules.specs.Scratch.{parts_in}
use Rattle.market.specs.Market.{Market}
use Rattle.market.specs.View.{closed_of}
use Rattle.auction.specs.declared.acceptance.AcceptanceProgramme.{AcceptanceProgramme}
use Rattle.auction.specs.declared.pricing.PriceProgramme.{PriceProgramme}

abbrev pub accepted_market : AcceptanceProgramme → Market
accepted_market p = closed_of p.market.now

abbrev pub priced_market : PriceProgramme → Market
priced_market p = closed_of p.market.now

-- the numbers whose first 256 are the parts
abbrev pub held_in : PriceProgramme → List ℤ
held_in p = p.parts.now

abbrev pub held_parts : PriceProgramme → ℕ → ℤ
held_parts p v = parts_in (held_in p) v
