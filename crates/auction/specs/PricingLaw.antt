-- The price table is lawful, for parts of at most 10,000.
use Rattle.std.specs.Prelude.{◌≡◌, ℕ, ◌+◌, ◌-◌, ◌/◌, ◌<◌, ◌≤◌, Bool, true, false, cond, ◌&&◌, length, ℤ, pos, neg_ℤ, ◌≤ℤ◌, ◌==◌, int_lt, nat_lt, refl}
use Rattle.std.proofs.Common.{ap, ◌∙◌, arith}
use Rattle.std.proofs.lemmas.Int.{ints}
use Rattle.std.proofs.lemmas.Bool.{cond_both, cond-false, le-ltb, ltb-true, and_left}
use Rattle.numbers.specs.Sums.{Within}
use Rattle.bound.specs.Tables as tables
use Rattle.market.specs.Services.{terms}
use Rattle.market.specs.declared.entries.Service.{Service}
use Rattle.market.specs.Market.{Market, window_at, basket_at}
use Rattle.market.specs.Lawful.{Lawful}
use Rattle.auction.specs.declared.rows.Measure.TheVariants.{On, Value}
use Rattle.auction.specs.declared.rows.PriceRow.{PriceRow}
use Rattle.auction.specs.declared.rows.PriceRow.TheVariants.{Extra, Basket, Loop, Buy, Zero}
use Rattle.auction.specs.Orders.{buy_line}
use Rattle.auction.specs.Acceptance.{first}
use Rattle.auction.specs.Pricing.{pricing, priced, on_lines, price_numbers, price_side, price_row, basket_row, market_sum, Numbered}
use Rattle.auction.specs.Sizes.{small, wider, within_pos, within_neg, within_zero, within_if, floor_within, buy_price, extra_measure_within, basket_sum_within, loop_sum_within, market_sum_within}

past_lines : (f : ℕ → ℤ) (l : ℕ) → 192 ≤ l → on_lines f l ≡ pos 0
past_lines f l h = cond-false (nat_lt l 192) (f l) (pos 0) (le-ltb l 192 h)

in_order : (t : Bool) (s : Service) → cond t (terms s).floor (pos 0) ≤ℤ cond t (pos 99999) (pos 0)
in_order true s = (floor_within s).1
in_order false s = omega (arith, ints)

module _ (m : Market) (good : Lawful m) (X : ℕ → ℤ) (parts : (v : ℕ) → v < 256 → Within 10000 (X v)) where
  row_within : (r : PriceRow) → Numbered r → (l : ℕ) → Within 93109756893120000 (price_numbers m X r l)
  row_within (Extra k) n l = within_neg 93109756893120000 _ (wider 999890001 93109756893120000 _ (omega arith) (extra_measure_within m good (On l) k))
  row_within (Basket b) n l = within_neg 93109756893120000 _ (wider 969893300970000 93109756893120000 _ (omega arith) (basket_sum_within m good X parts (On l) b n))
  row_within (Loop b) n l = within_neg 93109756893120000 _ (loop_sum_within m good X parts (On l) (basket_at m b).ring)
  row_within (Buy i) n l = within_if 93109756893120000 (l == buy_line m i) (pos 1) (within_pos 93109756893120000 1 (omega arith))
  row_within Zero n l = within_zero 93109756893120000

  side_within : (r : PriceRow) → Numbered r → Within 93109756893120000 (price_side m X r)
  side_within (Extra k) n = within_neg 93109756893120000 _ (wider 999890001 93109756893120000 _ (omega arith) (extra_measure_within m good Value k))
  side_within (Basket b) n = within_neg 93109756893120000 _ (wider 969893300970000 93109756893120000 _ (omega arith) (basket_sum_within m good X parts Value b n))
  side_within (Loop b) n = within_neg 93109756893120000 _ (loop_sum_within m good X parts Value (basket_at m b).ring)
  side_within (Buy i) n = wider 99999 93109756893120000 _ (omega arith) (buy_price m good i)
  side_within Zero n = within_zero 93109756893120000

  plain : (t : Bool) (x : PriceRow) → Numbered x → Numbered (cond t x Zero)
  plain true x h = h
  plain false x h = omega arith

  basket_numbered : (b : ℕ) → Numbered (basket_row m b)
  basket_numbered b = cond_both (nat_lt b (length m.baskets)) _ Zero Numbered
      (λ t. cond_both ((basket_at m b).ring == 0) (Basket b) _ Numbered (λ u. let h = ltb-true b (length m.baskets) t in omega (arith, good.few_baskets))
      (λ u. plain (first m b == b) (Loop b) (omega arith)))
      (λ t. omega arith)

  numbered : (r : ℕ) → Numbered (price_row m X r)
  numbered r =
      cond_both (nat_lt r 96) _ _ Numbered (λ t. plain (nat_lt r (length m.extras) && int_lt (pos 0) (X (160 + r))) (Extra r) (omega arith)) (λ t.
      cond_both (nat_lt r 192) _ _ Numbered (λ u. basket_numbered (r - 96))
      (λ u. plain _ (Buy (r - 192)) (omega arith)))

  past_rows : (r : ℕ) → 256 ≤ r → price_row m X r ≡ Zero
  past_rows r h =
      cond-false (nat_lt r 96) _ _ (le-ltb r 96 (omega arith)) ∙ cond-false (nat_lt r 192) _ _ (le-ltb r 192 (omega arith))
      ∙ cond-false _ (Buy (r - 192)) Zero (and_left (nat_lt (r - 192) (length m.buys)) _ (le-ltb (r - 192) (length m.buys) (omega (arith, good.few_buys))))

  -- beyond the last line there is no window
  unpriced : (l : ℕ) → 192 ≤ l → priced m l ≡ false
  unpriced l h = and_left (nat_lt (l / 6) (length m.windows)) _ (le-ltb (l / 6) (length m.windows) (omega (arith, good.few_windows)))

  pub pricing_lawful : tables.Lawful (pricing m X)
  pricing_lawful =
      record {
        scale_least = omega (arith, ints);
        scale_most = omega (arith, ints);
        some_variable = omega arith;
        few_variables = omega arith;
        few_rows = omega arith;
        ordered = λ l. in_order (priced m l) (window_at m (l / 6)).service;
        small_low = λ l. small 99999 _ (omega arith) (within_if 99999 (priced m l) _ (floor_within (window_at m (l / 6)).service));
        small_high = λ l. small 99999 _ (omega arith) (within_if 99999 (priced m l) _ (within_pos 99999 99999 (omega arith)));
        small_objective = λ l. small 1919788801920000 _ (omega arith) (within_if 1919788801920000 (nat_lt l 192) _ (within_neg 1919788801920000 _ (market_sum_within m good X parts (On l))));
        small_coefficient = λ r l. small 93109756893120000 _ (omega arith) (within_if 93109756893120000 (nat_lt l 192) _ (row_within (price_row m X r) (numbered r) l));
        small_side = λ r. small 93109756893120000 _ (omega arith) (side_within (price_row m X r) (numbered r));
        past_low = λ l h. cond-false (priced m l) _ (pos 0) (unpriced l h);
        past_high = λ l h. cond-false (priced m l) _ (pos 0) (unpriced l h);
        past_whole = λ l h. refl;
        past_objective = past_lines (λ l. neg_ℤ (market_sum m X (On l)));
        past_variable = λ r. past_lines (price_numbers m X (price_row m X r));
        past_row = λ r l h. ap (λ (k : PriceRow). on_lines (price_numbers m X k) l) (past_rows r h) ∙ cond_both (nat_lt l 192) _ _ (λ (z : ℤ). z ≡ pos 0) (λ t. refl) (λ t. refl);
        past_side = λ r h. ap (price_side m X) (past_rows r h);
      }

-- for parts from 0 to 10,000
pub held_lawful : (m : Market) → Lawful m → (X : ℕ → ℤ) → ((v : ℕ) → v < 256 → pos 0 ≤ℤ X v) → ((v : ℕ) → v < 256 → X v ≤ℤ pos 10000) → tables.Lawful (pricing m X)
held_lawful m good X from to = pricing_lawful m good X (λ v h. let a = from v h in let b = to v h in (omega (arith, ints), omega (arith, ints)))
