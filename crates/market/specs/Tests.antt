-- The tests that an entry has to pass after the entries of a market, as a program decides them.
use Rattle.std.specs.Prelude.{ℕ, ◌+◌, Bool, false, cond, not, ◌&&◌, ◌||◌, List, length, ℤ, Some, None, Option, ◌==◌, int_lt, nat_le, nat_lt, slice_index}
use Rattle.numbers.specs.Searches.{any_to}
use Rattle.market.specs.declared.entries.Service.{Service}
use Rattle.market.specs.declared.entries.Window.{Window}
use Rattle.market.specs.declared.entries.Buy.{Buy}
use Rattle.market.specs.declared.entries.Basket.{Basket}
use Rattle.market.specs.declared.entries.Extra.{Extra}
use Rattle.market.specs.declared.entries.Entry.{Entry}
use Rattle.market.specs.declared.entries.Entry.TheVariants.{OfWindow, OfBuy, OfBasket, OfExtra}
use Rattle.market.specs.declared.faults.Fault.{Fault}
use Rattle.market.specs.declared.faults.Fault.TheVariants.{Absent, TableFull, WindowOverlaps, LoopBroken}
use Rattle.market.specs.Market.{Market, window_in, basket_in}
use Rattle.market.specs.Services.{terms}

-- Two windows share a half hour.
abbrev pub shares : Window → Window → Bool
shares v w = nat_lt v.start (w.start + w.length) && nat_lt w.start (v.start + v.length)

-- Two windows of one service share a half hour.
abbrev pub clash : Window → Window → Bool
clash v w = (terms v.service).number == (terms w.service).number && shares v w

-- Two baskets of one loop have two units, or share a half hour.
abbrev pub breaks : List Window → Basket → Basket → Bool
breaks ws a b = not (b.ring == 0) && (a.ring == b.ring && (not (a.unit == b.unit) || shares (window_in ws a.window) (window_in ws b.window)))

-- A quantity stands past the first n products.
abbrev pub strays : ℕ → List ℕ → Bool
strays n qs = any_to 6 (λ p. nat_le n p && not (slice_index qs p == 0))

-- A sell order has what its service does not allow.
abbrev pub unfit : Service → List ℕ → ℤ → Bool
unfit s qs price = strays (terms s).products qs || int_lt price (terms s).floor

-- The window shares a half hour with one of its service.
abbrev pub overlaps : List Window → Window → Bool
overlaps ws w = any_to (length ws) (λ i. clash (window_in ws i) w)

-- The basket breaks its loop with one before it.
abbrev pub broken : List Window → List Basket → Basket → Bool
broken ws bs b = any_to (length bs) (λ i. breaks ws (basket_in bs i) b)

-- It names a window, a basket or a product that is not there, or has what the service does not allow.
abbrev pub buy_absent : List Window → Buy → Bool
buy_absent ws e =
    nat_le (length ws) e.window
    || (nat_le (terms (window_in ws e.window).service).products e.product || int_lt e.price (terms (window_in ws e.window).service).floor)

abbrev pub basket_absent : List Window → Basket → Bool
basket_absent ws b = nat_le (length ws) b.window || unfit (window_in ws b.window).service b.quantities b.price

abbrev pub extra_absent : List Window → List Basket → Extra → Bool
extra_absent ws bs e = nat_le (length bs) e.basket || unfit (window_in ws (basket_in bs e.basket).window).service e.quantities e.price

abbrev pub absent : Market → Entry → Bool
absent m (OfWindow w) = false
absent m (OfBuy e) = buy_absent m.windows e
absent m (OfBasket b) = basket_absent m.windows b
absent m (OfExtra e) = extra_absent m.windows m.baskets e

-- Its table has no room for one more.
abbrev pub full : Market → Entry → Bool
full m (OfWindow w) = nat_le 32 (length m.windows)
full m (OfBuy e) = nat_le 64 (length m.buys)
full m (OfBasket b) = nat_le 96 (length m.baskets)
full m (OfExtra e) = nat_le 96 (length m.extras)

abbrev pub overlapping : Market → Entry → Bool
overlapping m (OfWindow w) = overlaps m.windows w
overlapping m (OfBuy e) = false
overlapping m (OfBasket b) = false
overlapping m (OfExtra e) = false

abbrev pub breaking : Market → Entry → Bool
breaking m (OfWindow w) = false
breaking m (OfBuy e) = false
breaking m (OfBasket b) = broken m.windows m.baskets b
breaking m (OfExtra e) = false

-- The first that applies of a fault and what comes after it.
abbrev pub first : Bool → Fault → Option Fault → Option Fault
first b f rest = cond b (Some f) rest

-- What is wrong with an entry after the market.
abbrev pub fault : Market → Entry → Option Fault
fault m e = first (absent m e) Absent (first (full m e) TableFull (first (overlapping m e) WindowOverlaps (first (breaking m e) LoopBroken None)))
