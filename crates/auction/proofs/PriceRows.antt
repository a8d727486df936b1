-- What each row of the price programme comes to, in the surpluses of the rules; which row stands at which number.
use Rattle.std.proofs.Common.{◌≡◌, ℕ, ◌+◌, ◌-◌, ◌*◌, ◌<◌, ◌≤◌, true, false, cond, not, eqb, ltb, length, get_or, ℤ, pos, ◌+ℤ◌, ◌-ℤ◌, ◌*ℤ◌, neg_ℤ, ap, ◌∙◌, ap₂, arith}
use lib.IntN.{*ℤ_comm}
use lib.Signed.{lt_z}
use Rattle.std.proofs.lemmas.Bool.{cond-true, cond-false, cond_both, lt-ltb, le-ltb, ltb-true, ltb-false, eq-eqb, ne_eqb, and_from}
use Rattle.numbers.specs.Sums.{sum_to}
use Rattle.numbers.proofs.Sums.{sum_ext}
use Rattle.market.specs.Market.{Market, buy_at, basket_at, extra_at}
use Rattle.market.specs.Lawful.{Lawful}
use Rattle.rules.specs.Clearings.{extra_window}
use Rattle.rules.specs.Prices.{parent_surplus, extra_surplus, basket_surplus, loop_surplus}
use Rattle.auction.specs.Orders.{buy_line, basket_on, extra_on, basket_value, extra_value}
use Rattle.auction.specs.Acceptance.{first}
use Rattle.auction.specs.Pricing.{parent_sum, extra_sum, basket_sum, loop_sum, extra_row, basket_row, buy_row, price_row, price_numbers, price_side}
use Rattle.auction.specs.declared.rows.Measure.TheVariants.{On, Value}
use Rattle.auction.specs.declared.rows.PriceRow.{PriceRow}
use Rattle.auction.specs.declared.rows.PriceRow.TheVariants.{Extra, Basket, Loop, Buy, Zero}
use Rattle.auction.proofs.Entries.{buy_window, buy_product, basket_window, extra_window_lem}
use Rattle.auction.proofs.Linear.{left, left_zero, left_add, left_neg, left_times, left_if, left_sum, left_only, left_sell}

module _ (m : Market) (good : Lawful m) (X : ℕ → ℤ) (D : ℕ) (Y : ℕ → ℤ) where
  -- the row's sum, less its side
  abbrev pub left_of : PriceRow → ℤ
  left_of r = left D Y (price_numbers m X r) (price_side m X r)

  pub parent_left : (b : ℕ) → b < length m.baskets → left D Y (λ l. parent_sum m X (On l) b) (parent_sum m X Value b) ≡ parent_surplus m X D Y b
  parent_left b h =
      left_times D Y (λ l. pos (basket_on m l b)) (basket_value m b) (X (64 + b))
      ∙ ap (λ (z : ℤ). X (64 + b) *ℤ z) (left_sell D Y (basket_at m b).window (basket_at m b).quantities (basket_at m b).price (basket_window m good b h))

  extra_gain : (k : ℕ) → k < length m.extras → left D Y (λ l. pos (extra_on m l k)) (extra_value m k)
      ≡ sum_to 6 (λ p. pos (get_or (extra_at m k).quantities p 0) *ℤ (Y (6 * extra_window m k + p) -ℤ pos D *ℤ (extra_at m k).price))
  extra_gain k h = left_sell D Y (extra_window m k) (extra_at m k).quantities (extra_at m k).price (extra_window_lem m good k h)

  pub extra_left : (k : ℕ) → k < length m.extras → left D Y (λ l. extra_sum m X (On l) k) (extra_sum m X Value k) ≡ extra_surplus m X D Y k
  extra_left k h =
      left_times D Y (λ l. pos (extra_on m l k)) (extra_value m k) (X (160 + k))
      ∙ ap (λ (z : ℤ). X (160 + k) *ℤ z) (extra_gain k h)

  pub basket_left : (b : ℕ) → b < length m.baskets → left D Y (λ l. basket_sum m X (On l) b) (basket_sum m X Value b) ≡ basket_surplus m X D Y b
  basket_left b h =
      left_add D Y (λ l. parent_sum m X (On l) b) (λ l. sum_to (length m.extras) (λ k. cond (eqb (extra_at m k).basket b) (extra_sum m X (On l) k) (pos 0)))
      (parent_sum m X Value b) (sum_to (length m.extras) (λ k. cond (eqb (extra_at m k).basket b) (extra_sum m X Value k) (pos 0)))
      ∙ ap₂ ◌+ℤ◌ (parent_left b h)
      (left_sum D Y (length m.extras) (λ k l. cond (eqb (extra_at m k).basket b) (extra_sum m X (On l) k) (pos 0)) (λ k. cond (eqb (extra_at m k).basket b) (extra_sum m X Value k) (pos 0))
      ∙ sum_ext (length m.extras) _ (λ k. cond (eqb (extra_at m k).basket b) (extra_surplus m X D Y k) (pos 0))
      (λ k l. left_if D Y (eqb (extra_at m k).basket b) (λ l. extra_sum m X (On l) k) (extra_sum m X Value k) ∙ ap (λ (z : ℤ). cond (eqb (extra_at m k).basket b) z (pos 0)) (extra_left k l)))

  pub extra_row_left : (k : ℕ) → k < length m.extras → left_of (Extra k)
      ≡ neg_ℤ (sum_to 6 (λ p. pos (get_or (extra_at m k).quantities p 0) *ℤ (Y (6 * extra_window m k + p) -ℤ pos D *ℤ (extra_at m k).price)))
  extra_row_left k h = left_neg D Y (λ l. pos (extra_on m l k)) (extra_value m k) ∙ ap neg_ℤ (extra_gain k h)

  pub basket_row_left : (b : ℕ) → b < length m.baskets → left_of (Basket b) ≡ neg_ℤ (basket_surplus m X D Y b)
  basket_row_left b h = left_neg D Y (λ l. basket_sum m X (On l) b) (basket_sum m X Value b) ∙ ap neg_ℤ (basket_left b h)

  pub loop_row_left : (b : ℕ) → left_of (Loop b)
      ≡ neg_ℤ (loop_surplus m X D Y (basket_at m b).ring)
  loop_row_left b = left_neg D Y (λ l. loop_sum m X (On l) (basket_at m b).ring) (loop_sum m X Value (basket_at m b).ring) ∙ ap neg_ℤ
      (left_sum D Y (length m.baskets) (λ c l. cond (eqb (basket_at m c).ring (basket_at m b).ring) (basket_sum m X (On l) c) (pos 0)) (λ c. cond (eqb (basket_at m c).ring (basket_at m b).ring) (basket_sum m X Value c) (pos 0))
      ∙ sum_ext (length m.baskets) _ (λ c. cond (eqb (basket_at m c).ring (basket_at m b).ring) (basket_surplus m X D Y c) (pos 0))
      (λ c l. left_if D Y (eqb (basket_at m c).ring (basket_at m b).ring) (λ l. basket_sum m X (On l) c) (basket_sum m X Value c) ∙ ap (λ (z : ℤ). cond (eqb (basket_at m c).ring (basket_at m b).ring) z (pos 0)) (basket_left c l)))

  pub buy_row_left : (i : ℕ) → i < length m.buys → left_of (Buy i) ≡ Y (buy_line m i) -ℤ pos D *ℤ (buy_at m i).price
  buy_row_left i h =
      let p = buy_window m good i h in
      let q = buy_product m good i h in
      left_only D Y (buy_line m i) (buy_at m i).price (omega arith)
      ∙ ap (λ (z : ℤ). Y (buy_line m i) -ℤ z) (*ℤ_comm (buy_at m i).price (pos D))

  pub zero_left : left_of Zero ≡ pos 0
  zero_left = left_zero D Y

-- what holds of every row that the table lists holds at every number
pub at_each_price : (m : Market) (X : ℕ → ℤ) (P : PriceRow → Type 0)
    → ((k : ℕ) → k < 96 → P (extra_row m X k)) → ((b : ℕ) → b < 96 → P (basket_row m b)) → ((i : ℕ) → P (buy_row m X i))
    → (r : ℕ) → P (price_row m X r)
at_each_price m X P a b c r =
    cond_both (ltb r 96) _ _ P (λ t. a r (ltb-true r 96 t)) (λ t.
    let t1 : 96 ≤ r = ltb-false r 96 t in
    cond_both (ltb r 192) _ _ P (λ u. b (r - 96) (let u1 = ltb-true r 192 u in omega arith)) (λ u.
    let u1 : 192 ≤ r = ltb-false r 192 u in
    c (r - 192)))

past : (r n : ℕ) (x y : PriceRow) → n ≤ r → cond (ltb r n) x y ≡ y
past r n x y h = cond-false (ltb r n) x y (le-ltb r n h)

within : (r n : ℕ) (x y : PriceRow) → r < n → cond (ltb r n) x y ≡ x
within r n x y h = cond-true (ltb r n) x y (lt-ltb r n h)

module _ (m : Market) (X : ℕ → ℤ) where
  pub row_extra : (k : ℕ) → k < 96 → k < length m.extras → lt_z (pos 0) (X (160 + k)) ≡ true → price_row m X k ≡ Extra k
  row_extra k h g t = within k 96 _ _ h ∙ cond-true _ (Extra k) Zero (and_from _ _ (lt-ltb k (length m.extras) g) t)

  row_basket : (b : ℕ) → b < 96 → b < length m.baskets
      → price_row m X (96 + b) ≡ cond (eqb (basket_at m b).ring 0) (Basket b) (cond (eqb (first m b) b) (Loop b) Zero)
  row_basket b h g =
      let e : 96 + b - 96 ≡ b = omega arith in
      past (96 + b) 96 _ _ (omega arith) ∙ within (96 + b) 192 _ _ (omega arith) ∙ ap (basket_row m) e ∙ within b (length m.baskets) _ _ g

  pub row_basket_alone : (b : ℕ) → b < 96 → b < length m.baskets → (basket_at m b).ring ≡ 0 → price_row m X (96 + b) ≡ Basket b
  row_basket_alone b h g e = row_basket b h g ∙ cond-true (eqb (basket_at m b).ring 0) _ _ (eq-eqb _ 0 e)

  pub row_loop : (b : ℕ) → b < 96 → b < length m.baskets → ((basket_at m b).ring ≡ 0 → ⊥) → first m b ≡ b → price_row m X (96 + b) ≡ Loop b
  row_loop b h g d e = row_basket b h g ∙ cond-false (eqb (basket_at m b).ring 0) _ _ (ne_eqb _ 0 d) ∙ cond-true (eqb (first m b) b) _ _ (eq-eqb _ b e)

  pub row_buy : (i : ℕ) → i < 64 → i < length m.buys → (buy_at m i).permit ≡ false → lt_z (pos 0) (X i) ≡ true → price_row m X (192 + i) ≡ Buy i
  row_buy i h g p t =
      let e : 192 + i - 192 ≡ i = omega arith in
      past (192 + i) 96 _ _ (omega arith) ∙ past (192 + i) 192 _ _ (omega arith) ∙ ap (buy_row m X) e
      ∙ cond-true _ (Buy i) Zero (and_from _ _ (lt-ltb i (length m.buys) g) (and_from _ _ (ap not p) t))
