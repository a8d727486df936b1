-- The entry that a record's fields spell, and the tests that its numbers have to pass, as a program decides them.
use Rattle.std.specs.Prelude.{ℕ, ◌+◌, Bool, cond, not, ◌&&◌, List, [], ◌∷◌, ℤ, pos, negsuc, Ok, Err, Result, ◌==◌, nat_le, nat_lt, slice_index_or}
use Rattle.records.specs.Read.{Content}
use Rattle.market.specs.declared.entries.Buy.{Buy}
use Rattle.market.specs.declared.entries.Extra.{Extra}
use Rattle.market.specs.declared.entries.Entry.{Entry}
use Rattle.market.specs.declared.entries.Entry.TheVariants.{OfWindow, OfBuy, OfBasket, OfExtra}
use Rattle.market.specs.declared.entries.Role.{Role}
use Rattle.market.specs.declared.entries.Role.TheVariants.{Child, Substitute}
use Rattle.market.specs.declared.entries.Window.{Window}
use Rattle.market.specs.declared.entries.Basket.{Basket}
use Rattle.market.specs.declared.faults.Fault.{Fault}
use Rattle.market.specs.declared.faults.Fault.TheVariants.{OutsideLimits}
use Rattle.market.specs.Lines.{between, price_ok, all_zero}
use Rattle.market.specs.Services.{service_of}

-- The field of a bit.
abbrev pub field : List ℤ → ℕ → ℤ
field zs i = slice_index_or zs i (pos 0)

-- A number that fits, else the greatest, which names nothing.
abbrev pub fitted : ℕ → ℤ → ℕ
fitted top (pos n) = cond (nat_lt n top) n top
fitted top (negsuc n) = top

abbrev pub byte_of : ℤ → ℕ
byte_of z = fitted 255 z

abbrev pub small_of : ℤ → ℕ
small_of z = fitted 65535 z

-- A price, 0 for what is no price of any service.
abbrev pub price_of : ℤ → ℤ
price_of z = cond (price_ok z) z (pos 0)

abbrev pub quantities_of : List ℤ → ℕ → List ℕ
quantities_of zs i = small_of (field zs i) ∷ small_of (field zs (i + 1)) ∷ small_of (field zs (i + 2)) ∷ small_of (field zs (i + 3)) ∷ small_of (field zs (i + 4)) ∷ small_of (field zs (i + 5)) ∷ []

abbrev pub is_quantity : ℤ → Bool
is_quantity z = between (pos 0) (pos 999) z

abbrev pub are_quantities : List ℤ → ℕ → Bool
are_quantities zs i = is_quantity (field zs i) && (is_quantity (field zs (i + 1)) && (is_quantity (field zs (i + 2)) && (is_quantity (field zs (i + 3)) && (is_quantity (field zs (i + 4)) && is_quantity (field zs (i + 5))))))

abbrev pub limited : {A : Type 0} → Bool → A → Result A Fault
limited b x = cond b (Ok x) (Err OutsideLimits)

-- A window: service, start, length.
abbrev pub window_of : List ℤ → Window
window_of zs = record { service = service_of (byte_of (field zs 0)); start = byte_of (field zs 1); length = byte_of (field zs 2) }

abbrev pub window_limits : List ℤ → Bool
window_limits zs = between (pos 1) (pos 4) (field zs 0) && (between (pos 0) (pos 49) (field zs 1) && (between (pos 1) (pos 50) (field zs 2) && nat_le (byte_of (field zs 1) + byte_of (field zs 2)) 50))

abbrev pub read_window : List ℤ → Result Window Fault
read_window zs = limited (window_limits zs) (window_of zs)

-- A buy: window, product, quantity, price, family, permit.
abbrev pub buy_of : List ℤ → Buy
buy_of zs = record { window = byte_of (field zs 0); product = byte_of (field zs 1); quantity = small_of (field zs 2); price = price_of (field zs 3); family = byte_of (field zs 4); permit = (byte_of (field zs 5) == 1) }

abbrev pub buy_limits : List ℤ → Bool
buy_limits zs = between (pos 1) (pos 9999) (field zs 2) && (price_ok (field zs 3) && (between (pos 0) (pos 64) (field zs 4) && between (pos 0) (pos 1) (field zs 5)))

abbrev pub read_buy : List ℤ → Result Buy Fault
read_buy zs = limited (buy_limits zs) (buy_of zs)

-- A basket: unit, window, loop, six quantities, price.
abbrev pub basket_of : List ℤ → Basket
basket_of zs = record { unit = small_of (field zs 0); window = byte_of (field zs 1); ring = byte_of (field zs 2); quantities = quantities_of zs 3; price = price_of (field zs 9) }

abbrev pub basket_limits : List ℤ → Bool
basket_limits zs = between (pos 1) (pos 65535) (field zs 0) && (between (pos 0) (pos 255) (field zs 2) && (are_quantities zs 3 && price_ok (field zs 9)))

abbrev pub read_basket : List ℤ → Result Basket Fault
read_basket zs = limited (basket_limits zs) (basket_of zs)

-- A child or a substitute: basket, six quantities, price.
abbrev pub extra_of : Role → List ℤ → Extra
extra_of role zs = record { role = role; basket = byte_of (field zs 0); quantities = quantities_of zs 1; price = price_of (field zs 7) }

abbrev pub extra_limits : List ℤ → Bool
extra_limits zs = are_quantities zs 1 && (not (all_zero (quantities_of zs 1)) && price_ok (field zs 7))

abbrev pub read_extra : Role → List ℤ → Result Extra Fault
read_extra role zs = limited (extra_limits zs) (extra_of role zs)

-- The kinds of record in a market file, 1 to 5.
pub data Kind : Type 0 where
  a_window : Kind
  a_buy : Kind
  a_basket : Kind
  a_child : Kind
  a_substitute : Kind

abbrev pub by_kind : {A : Type 0} → ℕ → A → A → A → A → A → A
by_kind k window buy basket child substitute = cond (k == 1) window (cond (k == 2) buy (cond (k == 3) basket (cond (k == 4) child substitute)))

abbrev pub kind_of : ℕ → Kind
kind_of k = by_kind k a_window a_buy a_basket a_child a_substitute

abbrev pub limits_of : Kind → List ℤ → Bool
limits_of a_window zs = window_limits zs
limits_of a_buy zs = buy_limits zs
limits_of a_basket zs = basket_limits zs
limits_of a_child zs = extra_limits zs
limits_of a_substitute zs = extra_limits zs

abbrev pub entry_of : Kind → List ℤ → Entry
entry_of a_window zs = OfWindow (window_of zs)
entry_of a_buy zs = OfBuy (buy_of zs)
entry_of a_basket zs = OfBasket (basket_of zs)
entry_of a_child zs = OfExtra (extra_of Child zs)
entry_of a_substitute zs = OfExtra (extra_of Substitute zs)

abbrev pub limits : Content → Bool
limits c = limits_of (kind_of c.kind) c.fields

-- The entry that a record spells.
abbrev pub entry_in : Content → Entry
entry_in c = entry_of (kind_of c.kind) c.fields

abbrev pub mapped : {A B : Type 0} → (A → B) → Result A Fault → Result B Fault
mapped f (Ok x) = Ok (f x)
mapped f (Err e) = Err e

-- The entry, where its numbers are within their limits.
abbrev pub read_entry : Content → Result Entry Fault
read_entry c = by_kind c.kind (mapped OfWindow (read_window c.fields)) (mapped OfBuy (read_buy c.fields)) (mapped OfBasket (read_basket c.fields)) (mapped OfExtra (read_extra Child c.fields)) (mapped OfExtra (read_extra Substitute c.fields))
