-- What the calls so far have made of a console, from the list of calls alone: the best clearing, the least bound, the least price bound since.
use Rattle.std.specs.Prelude.{◌≡◌, ℕ, List, ℤ, None, Option}
use Rattle.bound.specs.Checks.{checked}
use Rattle.market.specs.Market.{Market}
use Rattle.auction.specs.Acceptance.{acceptance}
use Rattle.auction.specs.Pricing.{pricing}
use Rattle.console.specs.declared.call.Call.{Call}
use Rattle.console.specs.declared.call.Call.TheVariants.{Clearing, Tree, Price, Panel}
use Rattle.console.specs.declared.held.Held.{Held}
use Rattle.console.specs.Best.{Best, Least}
use Rattle.console.specs.Clears.{Clears}
use Rattle.console.specs.Standing.{Standing, parts_of, idle, better}
use Rattle.console.specs.Steps.{accepted}

-- a clearing call offers the clearing of its file, if that is accepted
abbrev pub Offers : Market → Call → Held → Type 0
Offers m (Clearing file room) h = Clears m file.now room h
Offers m (Tree file) h = ⊥
Offers m (Price file) h = ⊥
Offers m (Panel room) h = ⊥

-- a tree call puts forward the bound that its file proves of the acceptance programme
abbrev pub limit : Market → Call → Option ℤ
limit m (Clearing file room) = None
limit m (Tree file) = accepted (checked (acceptance m) file.now)
limit m (Price file) = None
limit m (Panel room) = None

-- a price call puts forward the bound that its file proves of the price programme of the held parts
abbrev pub price_limit : Market → Held → Call → Option ℤ
price_limit m h (Clearing file room) = None
price_limit m h (Tree file) = None
price_limit m h (Price file) = accepted (checked (pricing m (parts_of h)) file.now)
price_limit m h (Panel room) = None

-- a call that asks nothing, for one that was not made
abbrev pub no_call : Call
no_call = Panel 0

-- What stands after the calls of the past, on a console that was closed on the market m: the best clearing offered (the empty one is on offer from
-- the start, and of equals the first stays), the least bound of all accepted trees, and the least price bound accepted since the held clearing came.
pub record Came (m : Market) (past : List Call) (s : Standing) : Type 0 where
  pub market : s.market ≡ m
  pub since : ℕ
  pub holds : Best no_call idle (Offers m) better past s.held since
  pub bound : Least no_call (limit m) past 0 s.bound
  pub price : Least no_call (price_limit m s.held) past since s.price
