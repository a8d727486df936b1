-- What an order asks or offers on a line, and what it is worth at its own price: the numbers that both tables are made of.
-- Line 6 × w + p is product p in window w.
use Rattle.std.specs.Prelude.{ℕ, ◌+◌, ◌*◌, ◌/◌, ◌%◌, cond, List, ℤ, pos, ◌*ℤ◌, ◌==◌, slice_index}
use Rattle.market.specs.Market.{Market, buy_at, basket_at, extra_at}
use Rattle.rules.specs.Clearings.{extra_window}
use Rattle.auction.specs.declared.rows.Measure.{Measure}
use Rattle.auction.specs.declared.rows.Measure.TheVariants.{On, Value}

-- the line of a buy
abbrev pub buy_line : Market → ℕ → ℕ
buy_line m i = 6 * (buy_at m i).window + (buy_at m i).product

-- the quantity that buy i asks on the line
abbrev pub buy_on : Market → ℕ → ℕ → ℕ
buy_on m l i = cond (buy_line m i == l) (buy_at m i).quantity 0

-- the quantity that a sell order in window w offers on the line
abbrev pub sell_on : ℕ → List ℕ → ℕ → ℕ
sell_on w quantities l = cond (w == l / 6) (slice_index quantities (l % 6)) 0

-- the quantity that the parent of basket b offers on the line
abbrev pub basket_on : Market → ℕ → ℕ → ℕ
basket_on m l b = sell_on (basket_at m b).window (basket_at m b).quantities l

-- the quantity that the child or substitute k offers on the line
abbrev pub extra_on : Market → ℕ → ℕ → ℕ
extra_on m l k = sell_on (extra_window m k) (extra_at m k).quantities l

-- a sell order's quantity over its six products
abbrev pub total : List ℕ → ℕ
total quantities = slice_index quantities 0 + slice_index quantities 1 + slice_index quantities 2 + slice_index quantities 3 + slice_index quantities 4 + slice_index quantities 5

-- what an order is worth for each of its parts: price × total quantity
abbrev pub order_value : ℤ → ℕ → ℤ
order_value price quantity = price *ℤ pos quantity

abbrev pub buy_value : Market → ℕ → ℤ
buy_value m i = order_value (buy_at m i).price (buy_at m i).quantity

abbrev pub basket_value : Market → ℕ → ℤ
basket_value m b = order_value (basket_at m b).price (total (basket_at m b).quantities)

abbrev pub extra_value : Market → ℕ → ℤ
extra_value m k = order_value (extra_at m k).price (total (extra_at m k).quantities)

-- what is measured of a sell order in window w: the quantity that it offers on a line, or its price × total quantity
abbrev pub offered : ℕ → List ℕ → ℤ → Measure → ℤ
offered w quantities price (On l) = pos (sell_on w quantities l)
offered w quantities price Value = order_value price (total quantities)
