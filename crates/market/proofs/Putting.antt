-- A market keeps its lines where an entry with which nothing is wrong is put after the others.
use Rattle.std.proofs.Common.{◌≡◌, true, None, refl, arith}
use Rattle.std.proofs.lemmas.List.{length_push}
use Rattle.std.proofs.lemmas.Bool.{leb-false}
use Rattle.market.specs.declared.entries.Entry.{Entry}
use Rattle.market.specs.declared.entries.Entry.TheVariants.{OfWindow, OfBuy, OfBasket, OfExtra}
use Rattle.market.specs.Lines.{window_ok, buy_ok, basket_ok, extra_ok, entry_ok}
use Rattle.market.specs.Market.{Market, no_window, no_buy, no_basket, no_extra, put}
use Rattle.market.specs.Tests.{clash, breaks, buy_absent, basket_absent, extra_absent, fault}
use Rattle.market.proofs.Books.{Lined}
use Rattle.market.proofs.Pushing.{each_push, pairs_push, each_weaker, buy_stays, basket_stays, extra_stays, looped_stays, extra_stays_basket, admitted}

pub lined_put : (m : Market) (e : Entry) → Lined m → entry_ok e ≡ true → fault m e ≡ None → Lined (put m e)
lined_put m (OfWindow w) l ok none =
    let ad = admitted m (OfWindow w) none in
    let ws = m.windows in
    let more = (put m (OfWindow w)).windows in
    record {
      few_windows = omega (arith, leb-false _ _ ad.room, length_push ws w);
      few_buys = l.few_buys;
      few_baskets = l.few_baskets;
      few_extras = l.few_extras;
      spans = each_push no_window w ws more refl window_ok true l.spans ok;
      apart = pairs_push no_window w ws more refl clash l.apart ad.apart;
      buys = l.buys;
      bought = each_weaker no_buy m.buys (buy_absent ws) (buy_absent more) _ (buy_stays ws more w refl) l.bought;
      baskets = l.baskets;
      placed = each_weaker no_basket m.baskets (basket_absent ws) (basket_absent more) _ (basket_stays ws more w refl) l.placed;
      looped = looped_stays ws more w refl m.baskets l.placed l.looped;
      extras = l.extras;
      added = each_weaker no_extra m.extras (extra_absent ws m.baskets) (extra_absent more m.baskets) _ (extra_stays ws more w refl m.baskets l.placed) l.added;
    }
lined_put m (OfBuy e) l ok none =
    let ad = admitted m (OfBuy e) none in
    record {
      few_windows = l.few_windows;
      few_buys = omega (arith, leb-false _ _ ad.room, length_push m.buys e);
      few_baskets = l.few_baskets;
      few_extras = l.few_extras;
      spans = l.spans;
      apart = l.apart;
      buys = each_push no_buy e m.buys _ refl buy_ok true l.buys ok;
      bought = each_push no_buy e m.buys _ refl (buy_absent m.windows) _ l.bought ad.there;
      baskets = l.baskets;
      placed = l.placed;
      looped = l.looped;
      extras = l.extras;
      added = l.added;
    }
lined_put m (OfBasket b) l ok none =
    let ad = admitted m (OfBasket b) none in
    let bs = m.baskets in
    let more = (put m (OfBasket b)).baskets in
    record {
      few_windows = l.few_windows;
      few_buys = l.few_buys;
      few_baskets = omega (arith, leb-false _ _ ad.room, length_push bs b);
      few_extras = l.few_extras;
      spans = l.spans;
      apart = l.apart;
      buys = l.buys;
      bought = l.bought;
      baskets = each_push no_basket b bs more refl basket_ok true l.baskets ok;
      placed = each_push no_basket b bs more refl (basket_absent m.windows) _ l.placed ad.there;
      looped = pairs_push no_basket b bs more refl (breaks m.windows) l.looped ad.keeps;
      extras = l.extras;
      added = each_weaker no_extra m.extras (extra_absent m.windows bs) (extra_absent m.windows more) _ (extra_stays_basket m.windows bs more b refl) l.added;
    }
lined_put m (OfExtra e) l ok none =
    let ad = admitted m (OfExtra e) none in
    record {
      few_windows = l.few_windows;
      few_buys = l.few_buys;
      few_baskets = l.few_baskets;
      few_extras = omega (arith, leb-false _ _ ad.room, length_push m.extras e);
      spans = l.spans;
      apart = l.apart;
      buys = l.buys;
      bought = l.bought;
      baskets = l.baskets;
      placed = l.placed;
      looped = l.looped;
      extras = each_push no_extra e m.extras _ refl extra_ok true l.extras ok;
      added = each_push no_extra e m.extras _ refl (extra_absent m.windows m.baskets) _ l.added ad.there;
    }
