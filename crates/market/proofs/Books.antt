-- A book's market is lawful, open or closed.
use Rattle.std.proofs.Common.{◌≡◌, ℕ, ◌<◌, ◌≤◌, true, false, not, ◌&&◌, eqb, leb, List, length, get_or, ℤ, pos, negsuc, sym, ◌∙◌, inl, inr, ⊎_elim, arith}
use lib.Signed.{lt_z, le_z}
use Rattle.std.proofs.lemmas.Int.{ints}
use Rattle.std.proofs.lemmas.Bool.{and_parts, or_parts, leb-true, leb-false, eqb-true, not-true, cases_eq, cases_order}
use Rattle.std.proofs.lemmas.Bool.Decides.{nat_tests, not_from_Decides, Decides-eqb}
use Rattle.numbers.proofs.Searches.{any_not}
use Rattle.market.specs.declared.book.Book.{Book}
use Rattle.market.specs.declared.closed.ClosedMarket.{ClosedMarket}
use Rattle.market.specs.declared.entries.Service.{Service}
use Rattle.market.specs.declared.entries.Buy.{Buy}
use Rattle.market.specs.declared.entries.Basket.{Basket}
use Rattle.market.specs.declared.entries.Extra.{Extra}
use Rattle.market.specs.declared.entries.Window.{Window}
use Rattle.market.specs.Services.{terms}
use Rattle.market.specs.Market.{Market, window_in, basket_in, window_at, buy_at, basket_at, extra_at, Share}
use Rattle.market.specs.Tests.{clash, breaks, strays, buy_absent, basket_absent, extra_absent}
use Rattle.market.specs.Lines.{all_zero, price_ok, six_ok, buy_ok, basket_ok, extra_ok, FitWindows, FitBuys, FitBaskets, FitExtras, Bought, Placed, Added, Apart, Looped}
use Rattle.market.specs.Lawful.{GoodPrice, GoodQuantities, GoodBuy, GoodBasket, GoodExtra, GoodLoop, Lawful}
use Rattle.market.specs.View.{market_of, closed_of}
use Rattle.market.proofs.Deciding.{dec_six, dec_leb, dec_clash, dec_breaks}

good_price : (s : Service) (z : ℤ) → lt_z z (terms s).floor ≡ false → price_ok z ≡ true → GoodPrice s z
good_price s z h k =
    let p = and_parts (le_z (negsuc 99998) z) (le_z z (pos 99999)) k in
    record { least = grind (arith, ints); most = grind (arith, ints) }

lacks : (n p q : ℕ) → (leb n p && not (eqb q 0)) ≡ false → n ≤ p → q ≡ 0
lacks n p q h l = grind (arith, nat_tests)

good_quantities : (s : Service) (qs : List ℕ) → strays (terms s).products qs ≡ false → six_ok qs ≡ true → GoodQuantities s qs
good_quantities s qs h k =
    let q = and_parts (eqb (length qs) 6) _ k in
    record {
      six = eqb-true (length qs) 6 q.0;
      most = (dec_six (λ p. leb (get_or qs p 0) 999) (λ p. get_or qs p 0 ≤ 999) (λ p. dec_leb (get_or qs p 0) 999)).0 q.1;
      lacking = λ p l m. lacks (terms s).products p (get_or qs p 0) (any_not 6 p (λ p. leb (terms s).products p && not (eqb (get_or qs p 0) 0)) h l) m;
    }

good_buy : (m : Market) (e : Buy) → buy_absent m.windows e ≡ false → buy_ok e ≡ true → GoodBuy m e
good_buy m e h k =
    let ws = m.windows in
    let s = (window_in ws e.window).service in
    let a = or_parts (leb (length ws) e.window) _ h in
    let b = or_parts (leb (terms s).products e.product) _ a.1 in
    let p = and_parts (leb 1 e.quantity) _ k in
    let q = and_parts (leb e.quantity 9999) _ p.1 in
    let r = and_parts (leb e.family 64) _ q.1 in
    record { window = leb-false _ _ a.0; product = leb-false _ _ b.0; some = leb-true _ _ p.0; most = leb-true _ _ q.0; family = leb-true _ _ r.0; price = good_price s e.price b.1 r.1 }

good_basket : (m : Market) (b : Basket) → basket_absent m.windows b ≡ false → basket_ok b ≡ true → GoodBasket m b
good_basket m b h k =
    let ws = m.windows in
    let s = (window_in ws b.window).service in
    let a = or_parts (leb (length ws) b.window) _ h in
    let u = or_parts (strays (terms s).products b.quantities) _ a.1 in
    let p = and_parts (leb 1 b.unit) _ k in
    let o = and_parts (leb b.unit 65535) _ p.1 in
    let r = and_parts (leb b.ring 255) _ o.1 in
    let q = and_parts (six_ok b.quantities) _ r.1 in
    record { unit = leb-true _ _ p.0; unit_most = leb-true _ _ o.0; ring = leb-true _ _ r.0; window = leb-false _ _ a.0; quantities = good_quantities s b.quantities u.0 q.0; price = good_price s b.price u.1 q.1 }

good_extra : (m : Market) (e : Extra) → extra_absent m.windows m.baskets e ≡ false → extra_ok e ≡ true → GoodExtra m e
good_extra m e h k =
    let ws = m.windows in
    let bs = m.baskets in
    let s = (window_in ws (basket_in bs e.basket).window).service in
    let a = or_parts (leb (length bs) e.basket) _ h in
    let u = or_parts (strays (terms s).products e.quantities) _ a.1 in
    let q = and_parts (six_ok e.quantities) _ k in
    let r = and_parts (not (all_zero e.quantities)) _ q.1 in
    record {
      basket = leb-false _ _ a.0;
      some = not_from_Decides (all_zero e.quantities) (dec_six (λ p. eqb (get_or e.quantities p 0) 0) (λ p. get_or e.quantities p 0 ≡ 0) (λ p. Decides-eqb (get_or e.quantities p 0) 0)) (not-true _ r.0);
      quantities = good_quantities s e.quantities u.0 q.0;
      price = good_price s e.price u.1 r.1;
    }

-- what holds of the later and the earlier of two holds of both ways round
either : {P : ℕ → ℕ → Type 0} → ((j k : ℕ) → P k j → P j k) → (n : ℕ) → ((j k : ℕ) → j < k → k < n → P j k) → (j k : ℕ) → (j ≡ k → ⊥) → j < n → k < n → P j k
either back n all j k h l m = ⊎_elim (λ (e : j ≡ k). absurd (h e)) (λ x. ⊎_elim (λ (o : j < k). all j k o m) (λ (o : k < j). back j k (all k j o l)) x) (cases_order j k)

share_back : (v w : Window) → Share v w → Share w v
share_back v w s = (s.0, s.2, s.1)

-- The lines of a market, each as a test of every entry.
pub record Lined (m : Market) : Type 0 where
  pub few_windows : length m.windows ≤ 32
  pub few_buys : length m.buys ≤ 64
  pub few_baskets : length m.baskets ≤ 96
  pub few_extras : length m.extras ≤ 96
  pub spans : FitWindows m.windows
  pub apart : Apart m.windows
  pub buys : FitBuys m.buys
  pub bought : Bought m.windows m.buys
  pub baskets : FitBaskets m.baskets
  pub placed : Placed m.windows m.baskets
  pub looped : Looped m.windows m.baskets
  pub extras : FitExtras m.extras
  pub added : Added m.windows m.baskets m.extras

pub book_lined : (b : Book) → Lined (market_of b)
book_lined b =
    record {
      few_windows = omega (arith, b.few.0, b.windows.ok.0);
      few_buys = omega (arith, b.few.1, b.buys.ok.0);
      few_baskets = omega (arith, b.few.2, b.baskets.ok.0);
      few_extras = omega (arith, b.few.3, b.extras.ok.0);
      spans = b.spans.0;
      apart = b.spans.1;
      buys = b.asks.0;
      bought = b.asks.1;
      baskets = b.offers.0;
      placed = b.offers.1;
      looped = b.offers.2;
      extras = b.adds.0;
      added = b.adds.1;
    }

abbrev ApartAt : Market → ℕ → ℕ → Type 0
ApartAt m j k = (window_at m j).service ≡ (window_at m k).service → Share (window_at m j) (window_at m k) → ⊥

abbrev LoopAt : Market → ℕ → ℕ → Type 0
LoopAt m j k = ((basket_at m j).ring ≡ 0 → ⊥) → (basket_at m j).ring ≡ (basket_at m k).ring → GoodLoop m (basket_at m j) (basket_at m k)

apart_back : (m : Market) (j k : ℕ) → ApartAt m k j → ApartAt m j k
apart_back m j k h same share = h (sym same) (share_back (window_at m j) (window_at m k) share)

loop_back : (m : Market) (j k : ℕ) → LoopAt m k j → LoopAt m j k
loop_back m j k h some same =
    let g = h (λ z. some (same ∙ z)) (sym same) in
    record { unit = sym g.unit; apart = λ s. g.apart (share_back (window_at m (basket_at m j).window) (window_at m (basket_at m k).window) s) }

lasts : (m : Market) → Lined m → (k : ℕ) → k < length m.windows → 1 ≤ (window_at m k).length
lasts m s k l = leb-true _ _ (and_parts (leb 1 (window_at m k).length) _ (s.spans k l)).0

there : (m : Market) → Lined m → (k : ℕ) → k < length m.baskets → (basket_at m k).window < length m.windows
there m s k l = leb-false _ _ (or_parts (leb (length m.windows) (basket_at m k).window) _ (s.placed k l)).0

apart_later : (m : Market) → Lined m → (j k : ℕ) → j < k → k < length m.windows → ApartAt m j k
apart_later m s j k l h same share =
    not_from_Decides (clash (window_at m j) (window_at m k)) (dec_clash (window_at m j) (window_at m k) (lasts m s j (omega arith)) (lasts m s k h)) (any_not k j (λ j. clash (window_at m j) (window_at m k)) (s.apart k h) l) (same, share)

loop_later : (m : Market) → Lined m → (j k : ℕ) → j < k → k < length m.baskets → LoopAt m j k
loop_later m s j k l h some same =
    let no_one = not_from_Decides (breaks m.windows (basket_at m j) (basket_at m k)) (dec_breaks m.windows (basket_at m j) (basket_at m k) (lasts m s _ (there m s j (omega arith))) (lasts m s _ (there m s k h))) (any_not k j (λ j. breaks m.windows (basket_at m j) (basket_at m k)) (s.looped k h) l) in
    let ring : (basket_at m k).ring ≡ 0 → ⊥ = λ z. some (same ∙ z) in
    record {
      unit = ⊎_elim (λ (e : (basket_at m j).unit ≡ (basket_at m k).unit). e) (λ (n : (basket_at m j).unit ≡ (basket_at m k).unit → ⊥). absurd (no_one (ring, (same, inl n)))) (cases_eq (basket_at m j).unit (basket_at m k).unit);
      apart = λ share. no_one (ring, (same, inr share));
    }

-- A market of which the tests hold keeps the lines.
pub lined_lawful : (m : Market) → Lined m → Lawful m
lined_lawful m s =
    record {
      few_windows = s.few_windows;
      few_buys = s.few_buys;
      few_baskets = s.few_baskets;
      few_extras = s.few_extras;
      windows = λ k l. record { some = lasts m s k l; within = leb-true _ _ (and_parts (leb 1 (window_at m k).length) _ (s.spans k l)).1 };
      apart = either {P = ApartAt m} (apart_back m) (length m.windows) (apart_later m s);
      buys = λ k l. good_buy m (buy_at m k) (s.bought k l) (s.buys k l);
      baskets = λ k l. good_basket m (basket_at m k) (s.placed k l) (s.baskets k l);
      loops = either {P = LoopAt m} (loop_back m) (length m.baskets) (loop_later m s);
      extras = λ k l. good_extra m (extra_at m k) (s.added k l) (s.extras k l);
    }

-- No book holds entries that break the lines.
pub book_lawful : (b : Book) → Lawful (market_of b)
book_lawful b = lined_lawful (market_of b) (book_lined b)

pub closed_lawful : (c : ClosedMarket) → Lawful (closed_of c)
closed_lawful c = book_lawful c.book
