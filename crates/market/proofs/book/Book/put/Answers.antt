use Rattle.std.proofs.Common.{List, vec_items, sym, subst, arith, rules}
use Rattle.market.specs.declared.entries.Window.{Window}
use Rattle.market.specs.declared.entries.Buy.{Buy}
use Rattle.market.specs.declared.entries.Basket.{Basket}
use Rattle.market.specs.declared.entries.Extra.{Extra}
use Rattle.market.specs.declared.entries.Entry.{Entry}
use Rattle.market.specs.declared.entries.Entry.TheVariants.{OfWindow, OfBuy, OfBasket, OfExtra}
use Rattle.market.specs.Market.{put}
use Rattle.market.specs.View.{market_of}
use Rattle.market.proofs.Books.{Lined, book_lined}
use Rattle.market.proofs.Putting.{lined_put}
use Rattle.market.proofs.book.Book.put.Goals as goal

pub invariant_of-self : goal.invariant_of-self
invariant_of-self c =
    let b = c.args.self.now in
    let m = market_of b in
    let kept : Lined (put m (OfWindow c.in-OfWindow.window)) = subst (λ (e : Entry). Lined (put m e)) c.in-OfWindow.is (lined_put m c.args.entry (book_lined b) c.requires.0 c.requires.1) in
    let l = subst (λ (xs : List Window). Lined (record { windows = xs; buys = vec_items b.buys; baskets = vec_items b.baskets; extras = vec_items b.extras })) (sym c.push_reserved.ensures.items) kept in record {
      few = (
        omega (arith, l.few_windows, c.push_reserved.new.self.ok.0),
        b.few.1,
        b.few.2,
        b.few.3,
      );
      room = (
        search rules,
        b.room.1,
        b.room.2,
        b.room.3,
      );
      spans = (l.spans, l.apart);
      asks = (l.buys, l.bought);
      offers = (l.baskets, l.placed, l.looped);
      adds = (l.extras, l.added);
    }

pub invariant_of-self-in-OfBuy : goal.invariant_of-self-in-OfBuy
invariant_of-self-in-OfBuy c =
    let b = c.args.self.now in
    let m = market_of b in
    let kept : Lined (put m (OfBuy c.in-OfBuy.buy)) = subst (λ (e : Entry). Lined (put m e)) c.in-OfBuy.is (lined_put m c.args.entry (book_lined b) c.requires.0 c.requires.1) in
    let l = subst (λ (xs : List Buy). Lined (record { windows = vec_items b.windows; buys = xs; baskets = vec_items b.baskets; extras = vec_items b.extras })) (sym c.push_reserved-in-OfBuy.ensures.items) kept in record {
      few = (
        b.few.0,
        omega (arith, l.few_buys, c.push_reserved-in-OfBuy.new.self.ok.0),
        b.few.2,
        b.few.3,
      );
      room = (
        b.room.0,
        search rules,
        b.room.2,
        b.room.3,
      );
      spans = (l.spans, l.apart);
      asks = (l.buys, l.bought);
      offers = (l.baskets, l.placed, l.looped);
      adds = (l.extras, l.added);
    }

pub invariant_of-self-in-OfBasket : goal.invariant_of-self-in-OfBasket
invariant_of-self-in-OfBasket c =
    let b = c.args.self.now in
    let m = market_of b in
    let kept : Lined (put m (OfBasket c.in-OfBasket.basket)) = subst (λ (e : Entry). Lined (put m e)) c.in-OfBasket.is (lined_put m c.args.entry (book_lined b) c.requires.0 c.requires.1) in
    let l = subst (λ (xs : List Basket). Lined (record { windows = vec_items b.windows; buys = vec_items b.buys; baskets = xs; extras = vec_items b.extras })) (sym c.push_reserved-in-OfBasket.ensures.items) kept in record {
      few = (
        b.few.0,
        b.few.1,
        omega (arith, l.few_baskets, c.push_reserved-in-OfBasket.new.self.ok.0),
        b.few.3,
      );
      room = (
        b.room.0,
        b.room.1,
        search rules,
        b.room.3,
      );
      spans = (l.spans, l.apart);
      asks = (l.buys, l.bought);
      offers = (l.baskets, l.placed, l.looped);
      adds = (l.extras, l.added);
    }

pub invariant_of-self-in-OfExtra : goal.invariant_of-self-in-OfExtra
invariant_of-self-in-OfExtra c =
    let b = c.args.self.now in
    let m = market_of b in
    let kept : Lined (put m (OfExtra c.in-OfExtra.extra)) = subst (λ (e : Entry). Lined (put m e)) c.in-OfExtra.is (lined_put m c.args.entry (book_lined b) c.requires.0 c.requires.1) in
    let l = subst (λ (xs : List Extra). Lined (record { windows = vec_items b.windows; buys = vec_items b.buys; baskets = vec_items b.baskets; extras = xs })) (sym c.push_reserved-in-OfExtra.ensures.items) kept in record {
      few = (
        b.few.0,
        b.few.1,
        b.few.2,
        omega (arith, l.few_extras, c.push_reserved-in-OfExtra.new.self.ok.0),
      );
      room = (
        b.room.0,
        b.room.1,
        b.room.2,
        search rules,
      );
      spans = (l.spans, l.apart);
      asks = (l.buys, l.bought);
      offers = (l.baskets, l.placed, l.looped);
      adds = (l.extras, l.added);
    }
