-- The entry lines, each in the form that an open book carries: a test of every entry, by its number.
use Rattle.std.specs.Prelude.{◌≡◌, ℕ, ◌+◌, ◌<◌, Bool, true, false, not, ◌&&◌, List, length, ℤ, pos, negsuc, ◌==◌, int_le, nat_le, slice_index, slice_index_or}
use Rattle.numbers.specs.Searches.{any_to}
use Rattle.market.specs.declared.entries.Window.{Window}
use Rattle.market.specs.declared.entries.Buy.{Buy}
use Rattle.market.specs.declared.entries.Basket.{Basket}
use Rattle.market.specs.declared.entries.Extra.{Extra}
use Rattle.market.specs.declared.entries.Entry.{Entry}
use Rattle.market.specs.declared.entries.Entry.TheVariants.{OfWindow, OfBuy, OfBasket, OfExtra}
use Rattle.market.specs.Market.{window_in, basket_in, no_window, no_buy, no_basket, no_extra}
use Rattle.market.specs.Tests.{clash, breaks, buy_absent, basket_absent, extra_absent}

abbrev pub between : ℤ → ℤ → ℤ → Bool
between low high z = int_le low z && int_le z high

-- A price that some service allows.
abbrev pub price_ok : ℤ → Bool
price_ok z = between (negsuc 99998) (pos 99999) z

abbrev pub all_zero : List ℕ → Bool
all_zero qs = slice_index qs 0 == 0 && (slice_index qs 1 == 0 && (slice_index qs 2 == 0 && (slice_index qs 3 == 0 && (slice_index qs 4 == 0 && slice_index qs 5 == 0))))

-- The numbers of an entry are within their limits.
abbrev pub window_ok : Window → Bool
window_ok w = nat_le 1 w.length && nat_le (w.start + w.length) 50

abbrev pub buy_ok : Buy → Bool
buy_ok e = nat_le 1 e.quantity && (nat_le e.quantity 9999 && (nat_le e.family 64 && price_ok e.price))

abbrev pub quantities_ok : List ℕ → Bool
quantities_ok qs = nat_le (slice_index qs 0) 999 && (nat_le (slice_index qs 1) 999 && (nat_le (slice_index qs 2) 999 && (nat_le (slice_index qs 3) 999 && (nat_le (slice_index qs 4) 999 && nat_le (slice_index qs 5) 999))))

abbrev pub six_ok : List ℕ → Bool
six_ok qs = length qs == 6 && quantities_ok qs

abbrev pub basket_ok : Basket → Bool
basket_ok b = nat_le 1 b.unit && (nat_le b.unit 65535 && (nat_le b.ring 255 && (six_ok b.quantities && price_ok b.price)))

abbrev pub extra_ok : Extra → Bool
extra_ok e = six_ok e.quantities && (not (all_zero e.quantities) && price_ok e.price)

abbrev pub entry_ok : Entry → Bool
entry_ok (OfWindow w) = window_ok w
entry_ok (OfBuy e) = buy_ok e
entry_ok (OfBasket b) = basket_ok b
entry_ok (OfExtra e) = extra_ok e

-- A test answers b for each of a list, by its number.
abbrev pub Each : {X : Type 0} → X → List X → (X → Bool) → Bool → Type 0
Each d xs f b = (k : ℕ) → k < length xs → f (slice_index_or xs k d) ≡ b

abbrev pub FitWindows : List Window → Type 0
FitWindows ws = Each no_window ws window_ok true

abbrev pub FitBuys : List Buy → Type 0
FitBuys es = Each no_buy es buy_ok true

abbrev pub FitBaskets : List Basket → Type 0
FitBaskets bs = Each no_basket bs basket_ok true

abbrev pub FitExtras : List Extra → Type 0
FitExtras es = Each no_extra es extra_ok true

-- Each buy, basket, child and substitute has its window or basket there, and what the service allows.
abbrev pub Bought : List Window → List Buy → Type 0
Bought ws es = Each no_buy es (buy_absent ws) false

abbrev pub Placed : List Window → List Basket → Type 0
Placed ws bs = (k : ℕ) → k < length bs → basket_absent ws (basket_in bs k) ≡ false

abbrev pub Added : List Window → List Basket → List Extra → Type 0
Added ws bs es = Each no_extra es (extra_absent ws bs) false

-- Windows of one service share no half hour.
abbrev pub Apart : List Window → Type 0
Apart ws = (k : ℕ) → k < length ws → any_to k (λ j. clash (window_in ws j) (window_in ws k)) ≡ false

-- Baskets of one loop have one unit and share no half hour.
abbrev pub Looped : List Window → List Basket → Type 0
Looped ws bs = (k : ℕ) → k < length bs → any_to k (λ j. breaks ws (basket_in bs j) (basket_in bs k)) ≡ false
