-- The points of the price programme are the price lists that keep the price rules.
use Rattle.std.proofs.Common.{◌≡◌, ℕ, ◌+◌, ◌*◌, ◌/◌, ◌%◌, ◌<◌, ◌≤◌, Bool, true, false, cond, not, ◌&&◌, eqb, ltb, length, ℤ, pos, ◌*ℤ◌, ◌≤ℤ◌, ◌<ℤ◌, sym, refl, ap, ◌∙◌, subst, arith}
use lib.Signed.{lt_z}
use Rattle.std.proofs.lemmas.Int.{ints}
use Rattle.std.proofs.lemmas.Bool.{cond-true, cond_both, lt-ltb, le-ltb, ltb-true, ltb-false, eqb-true, eqb-false, and_parts, and_left, not-true}
use Rattle.numbers.specs.Sums.{sum_to}
use Rattle.numbers.specs.Searches.{least}
use Rattle.numbers.proofs.Integers.{sign_in, sign_out}
use Rattle.numbers.proofs.Sums.{sum_ext}
use Rattle.bound.specs.Points.{Point}
use Rattle.market.specs.declared.entries.Service.{Service}
use Rattle.market.specs.declared.entries.Service.TheVariants.{Response, Balancing, Quick, Slow}
use Rattle.market.specs.Services.{terms}
use Rattle.market.specs.Market.{Market, window_at, buy_at, basket_at}
use Rattle.market.specs.Lawful.{Lawful}
use Rattle.rules.specs.Prices.{PriceList, KeepsPrices, loop_surplus}
use Rattle.auction.specs.Acceptance.{first}
use Rattle.auction.specs.Pricing.{pricing, price_row, price_numbers, price_side, on_lines}
use Rattle.auction.specs.declared.rows.PriceRow.{PriceRow}
use Rattle.auction.specs.declared.rows.PriceRow.TheVariants.{Extra, Basket, Loop, Buy, Zero}
use Rattle.auction.proofs.Points.{first_le, first_ring}
use Rattle.auction.proofs.Linear.{left}
use Rattle.auction.proofs.PriceRows.{left_of, extra_row_left, basket_row_left, loop_row_left, buy_row_left, zero_left, at_each_price, row_extra, row_basket_alone, row_loop, row_buy}

pub on_lines_lem : (f Y : ℕ → ℤ) → sum_to 192 (λ l. on_lines f l *ℤ Y l) ≡ sum_to 192 (λ l. f l *ℤ Y l)
on_lines_lem f Y = sum_ext 192 (λ l. on_lines f l *ℤ Y l) (λ l. f l *ℤ Y l) (λ l h. ap (λ (z : ℤ). z *ℤ Y l) (cond-true (ltb l 192) (f l) (pos 0) (lt-ltb l 192 h)))

above_true : (x : ℤ) → pos 0 <ℤ x → lt_z (pos 0) x ≡ true
above_true x h = grind (arith, ints)

true_above : (x : ℤ) → lt_z (pos 0) x ≡ true → pos 0 <ℤ x
true_above x h = grind (arith, ints)

-- the limits of the line of window w and product p
module _ (m : Market) where
  abbrev priced_at : ℕ → ℕ → Bool
  priced_at w p = ltb w (length m.windows) && ltb p (terms (window_at m w).service).products

  abbrev Limits : ℕ → (ℕ → ℤ) → ℕ → ℕ → Service → Bool → Type 0
  Limits D Y w p s t = ((cond t (terms s).floor (pos 0) *ℤ pos D) ≤ℤ Y (6 * w + p)) × (Y (6 * w + p) ≤ℤ (cond t (pos 99999) (pos 0) *ℤ pos D))

  -- a price list says no more and no less than the limits
  reserve_limits : (D : ℕ) (Y : ℕ → ℤ) → PriceList m D Y → (w p : ℕ) → p < 6 → w < length m.windows → ((window_at m w).service ≡ Response → ⊥)
      → (u : Bool) → ltb p 2 ≡ u → ((cond u (pos 0) (pos 0) *ℤ pos D) ≤ℤ Y (6 * w + p)) × (Y (6 * w + p) ≤ℤ (cond u (pos 99999) (pos 0) *ℤ pos D))
  reserve_limits D Y list w p k h d true f = let z = list.reserve w p h d (ltb-true p 2 f) in (omega (arith, ints), omega (arith, ints))
  reserve_limits D Y list w p k h d false f = let z = list.no_product w p h d (ltb-false p 2 f) k in (omega (arith, ints), omega (arith, ints))

  service_limits : (D : ℕ) (Y : ℕ → ℤ) → PriceList m D Y → (w p : ℕ) → p < 6 → w < length m.windows
      → (s : Service) → (window_at m w).service ≡ s → Limits D Y w p s (ltb p (terms s).products)
  service_limits D Y list w p k h Response e =
      let P : Bool → Type 0 = Limits D Y w p Response in
      subst P (sym (lt-ltb p 6 k)) (list.response w p h e k)
  service_limits D Y list w p k h Balancing e = reserve_limits D Y list w p k h (λ f. let z : ◌≡◌ {A = ℕ} 0 1 = cc in omega arith) _ refl
  service_limits D Y list w p k h Quick e = reserve_limits D Y list w p k h (λ f. let z : ◌≡◌ {A = ℕ} 0 1 = cc in omega arith) _ refl
  service_limits D Y list w p k h Slow e = reserve_limits D Y list w p k h (λ f. let z : ◌≡◌ {A = ℕ} 0 1 = cc in omega arith) _ refl

  from_list : (D : ℕ) (Y : ℕ → ℤ) → PriceList m D Y → (w p : ℕ) → w < 32 → p < 6
      → (t : Bool) → ltb w (length m.windows) ≡ t → Limits D Y w p (window_at m w).service (t && ltb p (terms (window_at m w).service).products)
  from_list D Y list w p h k true e = service_limits D Y list w p k (ltb-true w _ e) (window_at m w).service refl
  from_list D Y list w p h k false e = let z = list.no_other_window w p (ltb-false w _ e) h k in (omega (arith, ints), omega (arith, ints))

  -- a Reserve service has two products, and prices from 0
  reserve_two : (s : Service) → (s ≡ Response → ⊥) → ((terms s).products ≡ 2) × ((terms s).floor ≡ pos 0)
  reserve_two Response d = absurd (d refl)
  reserve_two Balancing d = (refl, refl)
  reserve_two Quick d = (refl, refl)
  reserve_two Slow d = (refl, refl)

  to_list : (D : ℕ) (Y : ℕ → ℤ) → length m.windows ≤ 32 → ((w p : ℕ) → w < 32 → p < 6 → Limits D Y w p (window_at m w).service (priced_at w p)) → PriceList m D Y
  to_list D Y few lim =
      let entered : (w p : ℕ) → p < 6 → w < length m.windows → Limits D Y w p (window_at m w).service (ltb p (terms (window_at m w).service).products) = λ w p k h.
      subst (Limits D Y w p (window_at m w).service) (ap (λ (t : Bool). t && ltb p (terms (window_at m w).service).products) (lt-ltb w _ h)) (lim w p (omega arith) k) in
      record {
        response = λ w p h e k.
            subst (Limits D Y w p Response) (lt-ltb p 6 k) (subst (λ (s : Service). Limits D Y w p s (ltb p (terms s).products)) e (entered w p k h));
        reserve = λ w p h d k.
            let r = reserve_two (window_at m w).service d in
            let z = subst (Limits D Y w p (window_at m w).service) (lt-ltb p _ (omega arith)) (entered w p (omega arith) h) in
            let y : (pos 0 *ℤ pos D) ≤ℤ Y (6 * w + p) = subst (λ (a : ℤ). (a *ℤ pos D) ≤ℤ Y (6 * w + p)) r.1 z.0 in
            (omega (arith, ints), z.1);
        no_product = λ w p h d k n.
            let r = reserve_two (window_at m w).service d in
            let z = subst (Limits D Y w p (window_at m w).service) (le-ltb p _ (omega arith)) (entered w p n h) in omega (arith, ints);
        no_other_window = λ w p h k n.
            let z = subst (Limits D Y w p (window_at m w).service) (and_left _ (ltb p (terms (window_at m w).service).products) (le-ltb w _ h)) (lim w p k n) in omega (arith, ints);
      }

module _ (m : Market) (good : Lawful m) (X : ℕ → ℤ) (D : ℕ) (Y : ℕ → ℤ) where
  -- a kept row, by what is left of it
  left_kept : (r : PriceRow) → left_of m good X D Y r ≤ℤ pos 0 → sum_to 192 (λ l. on_lines (price_numbers m X r) l *ℤ Y l) ≤ℤ (price_side m X r *ℤ pos D)
  unfolding left
  left_kept r h = let e = on_lines_lem (price_numbers m X r) Y in omega (arith, ints)

  kept_left : (r : PriceRow) → sum_to 192 (λ l. on_lines (price_numbers m X r) l *ℤ Y l) ≤ℤ (price_side m X r *ℤ pos D) → left_of m good X D Y r ≤ℤ pos 0
  unfolding left
  kept_left r h = let e = on_lines_lem (price_numbers m X r) Y in omega (arith, ints)

  keeps : (pt : Point (pricing m X) D Y) (r : ℕ) (k : PriceRow) → r < 256 → price_row m X r ≡ k → left_of m good X D Y k ≤ℤ pos 0
  keeps pt r k h e =
      let P : PriceRow → Type 0 = λ (w : PriceRow). sum_to 192 (λ l. on_lines (price_numbers m X w) l *ℤ Y l) ≤ℤ (price_side m X w *ℤ pos D) in
      kept_left k (subst P e (pt.under r h))

  pub price_list : Point (pricing m X) D Y → PriceList m D Y
  price_list pt = to_list m D Y good.few_windows (λ w p h k.
      let e : (6 * w + p) / 6 ≡ w = omega arith in
      let f : (6 * w + p) % 6 ≡ p = omega arith in
      let P : ℕ → ℕ → Type 0 = λ (v q : ℕ). ((cond (priced_at m v q) (terms (window_at m v).service).floor (pos 0) *ℤ pos D) ≤ℤ Y (6 * w + p)) × (Y (6 * w + p) ≤ℤ (cond (priced_at m v q) (pos 99999) (pos 0) *ℤ pos D)) in
      subst (λ (q : ℕ). P w q) f (subst (λ (v : ℕ). P v ((6 * w + p) % 6)) e (pt.from (6 * w + p) (omega arith), pt.to (6 * w + p) (omega arith))))

  pub keeps_prices : Point (pricing m X) D Y → KeepsPrices m X D Y
  keeps_prices pt = record {
    extras = λ k h x.
        let n : k < 96 = omega (arith, good.few_extras) in
        let p = keeps pt k (Extra k) (omega arith) (row_extra m X k n h (above_true (X (160 + k)) x)) in
        let e = extra_row_left m good X D Y k h in
        sign_in (X (160 + k)) _ x (omega (arith, ints));
    unlooped = λ b h z.
        let n : b < 96 = omega (arith, good.few_baskets) in
        let p = keeps pt (96 + b) (Basket b) (omega arith) (row_basket_alone m X b n h z) in
        let e = basket_row_left m good X D Y b h in
        omega (arith, ints);
    loops = λ b h d.
        let l = first_le m b h in
        let g : first m b < length m.baskets = omega arith in
        let n : first m b < 96 = omega (arith, good.few_baskets) in
        let r = first_ring m b h in
        let same : first m (first m b) ≡ first m b = ap (λ (r : ℕ). least (λ c. eqb (basket_at m c).ring r) (length m.baskets)) r in
        let p = keeps pt (96 + first m b) (Loop (first m b)) (omega arith) (row_loop m X (first m b) n g (λ z. d (sym r ∙ z)) same) in
        let e = loop_row_left m good X D Y (first m b) in
        let Q : ℕ → Type 0 = λ (r : ℕ). pos 0 ≤ℤ loop_surplus m X D Y r in
        subst Q r (omega (arith, ints));
    buys = λ i h x z.
        let n : i < 64 = omega (arith, good.few_buys) in
        let p = keeps pt (192 + i) (Buy i) (omega arith) (row_buy m X i n h z (above_true (X i) x)) in
        let e = buy_row_left m good X D Y i h in
        omega (arith, ints);
  }

  each : KeepsPrices m X D Y → (r : ℕ) → left_of m good X D Y (price_row m X r) ≤ℤ pos 0
  each ok =
      let P : PriceRow → Type 0 = λ (r : PriceRow). left_of m good X D Y r ≤ℤ pos 0 in
      let nothing : P Zero = let e = zero_left m good X D Y in omega (arith, ints) in
      at_each_price m X P
      (λ k h. cond_both (ltb k (length m.extras) && lt_z (pos 0) (X (160 + k))) (Extra k) Zero P
      (λ t.
      let a = and_parts _ _ t in
      let g = ltb-true k (length m.extras) a.0 in
      let x = true_above (X (160 + k)) a.1 in
      let s = sign_out (X (160 + k)) _ x (ok.extras k g x) in
      let e = extra_row_left m good X D Y k g in
      omega (arith, ints))
      (λ t. nothing))
      (λ b h. cond_both (ltb b (length m.baskets)) _ Zero P
      (λ t.
      let g = ltb-true b (length m.baskets) t in
      cond_both (eqb (basket_at m b).ring 0) (Basket b) _ P
      (λ u. let s = ok.unlooped b g (eqb-true _ 0 u) in let e = basket_row_left m good X D Y b g in omega (arith, ints))
      (λ u. cond_both (eqb (first m b) b) (Loop b) Zero P
      (λ v. let s = ok.loops b g (eqb-false _ 0 u) in let e = loop_row_left m good X D Y b in omega (arith, ints))
      (λ v. nothing)))
      (λ t. nothing))
      (λ i. cond_both (ltb i (length m.buys) && (not (buy_at m i).permit && lt_z (pos 0) (X i))) (Buy i) Zero P
      (λ t.
      let a = and_parts _ _ t in
      let b = and_parts _ _ a.1 in
      let g = ltb-true i (length m.buys) a.0 in
      let s = ok.buys i g (true_above (X i) b.1) (not-true _ b.0) in
      let e = buy_row_left m good X D Y i g in
      omega (arith, ints))
      (λ t. nothing))

  limits : PriceList m D Y → (l : ℕ) → l < 192 → (((pricing m X).low l *ℤ pos D) ≤ℤ Y l) × (Y l ≤ℤ ((pricing m X).high l *ℤ pos D))
  limits list l h =
      let e : 6 * (l / 6) + l % 6 ≡ l = omega arith in
      let P : ℕ → Type 0 = λ (k : ℕ). (((pricing m X).low l *ℤ pos D) ≤ℤ Y k) × (Y k ≤ℤ ((pricing m X).high l *ℤ pos D)) in
      subst P e (from_list m D Y list (l / 6) (l % 6) (omega arith) (omega arith) _ refl)

  pub price_point : PriceList m D Y → KeepsPrices m X D Y → Point (pricing m X) D Y
  price_point list ok = record {
    from = λ l h. (limits list l h).0;
    to = λ l h. (limits list l h).1;
    whole = λ l h t. absurd (let z : ◌≡◌ {A = ℕ} 0 1 = cc in omega arith);
    under = λ r h. left_kept (price_row m X r) (each ok r);
  }
