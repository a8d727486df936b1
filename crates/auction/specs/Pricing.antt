-- The price programme of a market with the parts X: its table, row by row. Its variables are the lines.
use Rattle.std.specs.Prelude.{ℕ, ◌+◌, ◌-◌, ◌/◌, ◌%◌, ◌<◌, ◌≤◌, Bool, false, cond, not, ◌&&◌, length, ℤ, pos, ◌+ℤ◌, ◌*ℤ◌, neg_ℤ, ◌==◌, int_lt, nat_lt}
use Rattle.numbers.specs.Sums.{sum_to}
use Rattle.bound.specs.Tables.{Table}
use Rattle.market.specs.Services.{terms}
use Rattle.market.specs.Market.{Market, window_at, buy_at, basket_at, extra_at}
use Rattle.auction.specs.declared.rows.Measure.{Measure}
use Rattle.auction.specs.declared.rows.Measure.TheVariants.{On, Value}
use Rattle.auction.specs.declared.rows.PriceRow.{PriceRow}
use Rattle.auction.specs.declared.rows.PriceRow.TheVariants.{Extra, Basket, Loop, Buy, Zero}
use Rattle.auction.specs.Orders.{buy_line, basket_on, extra_on, basket_value, extra_value}
use Rattle.auction.specs.Acceptance.{first, only}

-- the line has a window and a product
abbrev pub priced : Market → ℕ → Bool
priced m l = nat_lt (l / 6) (length m.windows) && nat_lt (l % 6) (terms (window_at m (l / 6)).service).products

-- a number for each line, and 0 beyond the last
abbrev pub on_lines : (ℕ → ℤ) → ℕ → ℤ
on_lines f l = cond (nat_lt l 192) (f l) (pos 0)

-- what is measured of a sell order: its quantity on a line, or its price × total quantity
abbrev pub parent_measure : Market → Measure → ℕ → ℤ
parent_measure m (On l) b = pos (basket_on m l b)
parent_measure m Value b = basket_value m b

abbrev pub extra_measure : Market → Measure → ℕ → ℤ
extra_measure m (On l) k = pos (extra_on m l k)
extra_measure m Value k = extra_value m k

-- that times the order's parts
abbrev pub parent_sum : Market → (ℕ → ℤ) → Measure → ℕ → ℤ
parent_sum m X a b = parent_measure m a b *ℤ X (64 + b)

abbrev pub extra_sum : Market → (ℕ → ℤ) → Measure → ℕ → ℤ
extra_sum m X a k = extra_measure m a k *ℤ X (160 + k)

-- summed over a basket's orders: its parent, its children and its substitutes
abbrev pub of_basket : Market → (ℕ → ℤ) → Measure → ℕ → ℕ → ℤ
of_basket m X a b k = cond ((extra_at m k).basket == b) (extra_sum m X a k) (pos 0)

abbrev pub basket_sum : Market → (ℕ → ℤ) → Measure → ℕ → ℤ
basket_sum m X a b = parent_sum m X a b +ℤ sum_to (length m.extras) (of_basket m X a b)

-- summed over the baskets of the loop r
abbrev pub of_loop : Market → (ℕ → ℤ) → Measure → ℕ → ℕ → ℤ
of_loop m X a r b = cond ((basket_at m b).ring == r) (basket_sum m X a b) (pos 0)

abbrev pub loop_sum : Market → (ℕ → ℤ) → Measure → ℕ → ℤ
loop_sum m X a r = sum_to (length m.baskets) (of_loop m X a r)

-- summed over all sell orders
abbrev pub market_sum : Market → (ℕ → ℤ) → Measure → ℤ
market_sum m X a = sum_to (length m.baskets) (parent_sum m X a) +ℤ sum_to (length m.extras) (extra_sum m X a)

-- Which row is about what. A row of something that is not entered is zero, as is that of an order that is not accepted, of a buy with a
-- permit, and of a basket of a loop that is not its first.
abbrev pub extra_row : Market → (ℕ → ℤ) → ℕ → PriceRow
extra_row m X k = cond (nat_lt k (length m.extras) && int_lt (pos 0) (X (160 + k))) (Extra k) Zero

abbrev pub basket_row : Market → ℕ → PriceRow
basket_row m b = cond (nat_lt b (length m.baskets)) (cond ((basket_at m b).ring == 0) (Basket b) (cond (first m b == b) (Loop b) Zero)) Zero

abbrev pub buy_row : Market → (ℕ → ℤ) → ℕ → PriceRow
buy_row m X i = cond (nat_lt i (length m.buys) && (not (buy_at m i).permit && int_lt (pos 0) (X i))) (Buy i) Zero

-- 0–95 children and substitutes; 96–191 baskets; 192–255 buys
abbrev pub price_row : Market → (ℕ → ℤ) → ℕ → PriceRow
price_row m X r = cond (nat_lt r 96) (extra_row m X r) (cond (nat_lt r 192) (basket_row m (r - 96)) (buy_row m X (r - 192)))

-- a basket in a row has a number below 96
abbrev pub Numbered : PriceRow → Type 0
Numbered (Extra k) = 0 ≤ 0
Numbered (Basket b) = b < 96
Numbered (Loop b) = 0 ≤ 0
Numbered (Buy i) = 0 ≤ 0
Numbered Zero = 0 ≤ 0

-- The coefficients of each kind of row.
abbrev pub price_numbers : Market → (ℕ → ℤ) → PriceRow → ℕ → ℤ
price_numbers m X (Extra k) l = neg_ℤ (pos (extra_on m l k))
price_numbers m X (Basket b) l = neg_ℤ (basket_sum m X (On l) b)
price_numbers m X (Loop b) l = neg_ℤ (loop_sum m X (On l) (basket_at m b).ring)
price_numbers m X (Buy i) l = only (buy_line m i) (pos 1) l
price_numbers m X Zero l = pos 0

-- The right side of each kind of row.
abbrev pub price_side : Market → (ℕ → ℤ) → PriceRow → ℤ
price_side m X (Extra k) = neg_ℤ (extra_value m k)
price_side m X (Basket b) = neg_ℤ (basket_sum m X Value b)
price_side m X (Loop b) = neg_ℤ (loop_sum m X Value (basket_at m b).ring)
price_side m X (Buy i) = (buy_at m i).price
price_side m X Zero = pos 0

-- What is measured of a row: its coefficient on a line, or its right side.
abbrev pub price_measure : Market → (ℕ → ℤ) → PriceRow → Measure → ℤ
price_measure m X r (On l) = price_numbers m X r l
price_measure m X r Value = price_side m X r

abbrev pub pricing : Market → (ℕ → ℤ) → Table
pricing m X =
    record {
      scale = pos 1000;
      variables = 192;
      rows = 256;
      low = λ l. cond (priced m l) (terms (window_at m (l / 6)).service).floor (pos 0);
      high = λ l. cond (priced m l) (pos 99999) (pos 0);
      whole = λ l. false;
      objective = on_lines (λ l. neg_ℤ (market_sum m X (On l)));
      coefficient = λ r. on_lines (price_numbers m X (price_row m X r));
      side = λ r. price_side m X (price_row m X r);
    }
