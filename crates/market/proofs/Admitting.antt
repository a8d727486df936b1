-- Nothing is wrong with the record of an entry that keeps the lines after a market.
use Rattle.std.proofs.Common.{◌≡◌, ℕ, ◌+◌, ◌<◌, ◌≤◌, Bool, true, false, cond, ◌⊎◌, List, [], ◌∷◌, ◌++◌, length, get_or, ℤ, pos, ◌<ℤ◌, sym, refl, ap, ◌∙◌, subst, ⊎_elim, arith}
use Rattle.std.proofs.lemmas.List.{get_or_append_left, get_or_push, length_push}
use Rattle.std.proofs.lemmas.Int.{ints}
use Rattle.std.proofs.lemmas.Bool.{le-leb}
use Rattle.market.specs.declared.entries.Basket.{Basket}
use Rattle.market.specs.declared.entries.Buy.{Buy}
use Rattle.market.specs.declared.entries.Entry.{Entry}
use Rattle.market.specs.declared.entries.Entry.TheVariants.{OfWindow, OfBuy, OfBasket, OfExtra}
use Rattle.market.specs.declared.entries.Extra.{Extra}
use Rattle.market.specs.declared.entries.Role.{Role}
use Rattle.market.specs.declared.entries.Role.TheVariants.{Child, Substitute}
use Rattle.market.specs.declared.entries.Service.{Service}
use Rattle.market.specs.declared.entries.Service.TheVariants.{Response, Balancing, Quick, Slow}
use Rattle.market.specs.declared.entries.Window.{Window}
use Rattle.market.specs.declared.faults.Fault.{Fault}
use Rattle.market.specs.declared.faults.Fault.TheVariants.{Record, OutsideLimits, Absent, TableFull, WindowOverlaps, LoopBroken}
use Rattle.market.specs.Files.{kind_in, role_kind}
use Rattle.market.specs.Lawful.{GoodPrice, GoodQuantities, GoodWindow, GoodBuy, GoodBasket, GoodExtra, GoodLoop, Lawful}
use Rattle.market.specs.Market.{Market, no_window, no_buy, no_basket, no_extra, window_at, basket_at, Share, put}
use Rattle.market.specs.Reading.{field, kind_of, a_child, a_substitute}
use Rattle.market.specs.Services.{terms}
use Rattle.market.specs.Wrong.{Between, Price, Quantities, Disallowed, Has}
use Rattle.market.proofs.Deciding.{same_service}
use Rattle.market.proofs.Fields.{dec_le, same_pos, fields_cover}
use Rattle.market.proofs.Returning.{Spells, SpellsSix, Good, price_within}

-- the lines on the last entry of a market
pub good_last : (m : Market) (e : Entry) → Lawful (put m e) → Good m e
good_last m (OfWindow w) l =
    let ws = m.windows in
    subst GoodWindow (get_or_push ws w no_window (length ws) refl) (l.windows (length ws) (omega (arith, length_push ws w)))
good_last m (OfBuy e) l =
    let n = length m.buys in
    let g = subst (GoodBuy (put m (OfBuy e))) (get_or_push m.buys e no_buy n refl) (l.buys n (omega (arith, length_push m.buys e))) in
    record { window = g.window; product = g.product; some = g.some; most = g.most; family = g.family; price = g.price }
good_last m (OfBasket b) l =
    let n = length m.baskets in
    let g = subst (GoodBasket (put m (OfBasket b))) (get_or_push m.baskets b no_basket n refl) (l.baskets n (omega (arith, length_push m.baskets b))) in
    record { unit = g.unit; unit_most = g.unit_most; window = g.window; ring = g.ring; quantities = g.quantities; price = g.price }
good_last m (OfExtra e) l =
    let n = length m.extras in
    let g = subst (GoodExtra (put m (OfExtra e))) (get_or_push m.extras e no_extra n refl) (l.extras n (omega (arith, length_push m.extras e))) in
    record { basket = g.basket; some = g.some; quantities = g.quantities; price = g.price }

pub few_windows : (m : Market) (e : Entry) → Lawful (put m e) → length m.windows ≤ 32
few_windows m (OfWindow w) l = omega (arith, l.few_windows, length_push m.windows w)
few_windows m (OfBuy e) l = l.few_windows
few_windows m (OfBasket b) l = l.few_windows
few_windows m (OfExtra e) l = l.few_windows

pub few_baskets : (m : Market) (e : Entry) → Lawful (put m e) → length m.baskets ≤ 96
few_baskets m (OfWindow w) l = l.few_baskets
few_baskets m (OfBuy e) l = l.few_baskets
few_baskets m (OfBasket b) l = omega (arith, l.few_baskets, length_push m.baskets b)
few_baskets m (OfExtra e) l = l.few_baskets

-- numbers that are in a record as they are in the entry
between_pos : (low high n : ℕ) (z : ℤ) → z ≡ pos n → low ≤ n → n ≤ high → Between (pos low) (pos high) z
between_pos low high n z is a b = rw is ((dec_le (pos low) (pos n)).0 (le-leb low n a), (dec_le (pos n) (pos high)).0 (le-leb n high b))

price_is : (s : Service) (y z : ℤ) → z ≡ y → GoodPrice s y → Price z
price_is s y z is g = rw is (price_within s y g)

not_below : (s : Service) (y z : ℤ) → z ≡ y → GoodPrice s y → z <ℤ (terms s).floor → ⊥
not_below s y z is g h = let at : y <ℤ (terms s).floor = rw is at h in grind (arith, ints, g.least)

quantities_are : (s : Service) (qs : List ℕ) (zs : List ℤ) (i : ℕ) → GoodQuantities s qs → SpellsSix qs zs i → Quantities zs i
quantities_are s qs zs i g h p l = between_pos 0 999 (get_or qs p 0) (field zs (i + p)) (h p l) (omega arith) (g.most p l)

allowed : (s : Service) (qs : List ℕ) (zs : List ℤ) (i j : ℕ) (y : ℤ) → GoodQuantities s qs → SpellsSix qs zs i → field zs j ≡ y → GoodPrice s y → Disallowed s zs i j → ⊥
allowed s qs zs i j y g h is price x =
    ⊎_elim
    (λ (q : (p : ℕ) × (p < 6) × (((terms s).products ≤ p) × (field zs (i + p) ≡ pos 0 → ⊥))). q.2.1 (h q.0 q.1 ∙ ap pos (g.lacking q.0 q.1 q.2.0)))
    (λ (q : field zs j <ℤ (terms s).floor). not_below s y (field zs j) is price q)
    x

number_range : (s : Service) → Between (pos 1) (pos 4) (pos (terms s).number)
number_range Response = between_pos 1 4 1 _ refl (omega arith) (omega arith)
number_range Balancing = between_pos 1 4 2 _ refl (omega arith) (omega arith)
number_range Quick = between_pos 1 4 3 _ refl (omega arith) (omega arith)
number_range Slow = between_pos 1 4 4 _ refl (omega arith) (omega arith)

permit_range : (b : Bool) → Between (pos 0) (pos 1) (pos (cond b 1 0))
permit_range true = between_pos 0 1 1 _ refl (omega arith) (omega arith)
permit_range false = between_pos 0 1 0 _ refl (omega arith) (omega arith)

-- nothing is wrong with the record of a window
module _ (m : Market) (w : Window) (zs : List ℤ) (l : Lawful (put m (OfWindow w))) (s : Spells (OfWindow w) zs) where
  window_free : (g : Fault) → Has m (kind_of 1) zs g → ⊥
  window_free (Record f) x = x
  window_free OutsideLimits x =
      let g = good_last m (OfWindow w) l in
      x (
        rw s.0 (number_range w.service),
        (
          between_pos 0 49 w.start (field zs 1) s.1 (omega arith) (omega (arith, g.some, g.within)),
          (
            between_pos 1 50 w.length (field zs 2) s.2 g.some (omega (arith, g.within)),
            rw (s.1, s.2) ((dec_le (pos (w.start + w.length)) (pos 50)).0 (le-leb (w.start + w.length) 50 g.within)),
          ),
        ),
      )
  window_free Absent x = x
  window_free TableFull x = omega (arith, x, l.few_windows, length_push m.windows w)
  window_free WindowOverlaps x =
      let ws = m.windows in
      let n = length ws in
      let k = x.0 in
      let longer = length_push ws w in
      let old : get_or (ws ++ w ∷ []) k no_window ≡ window_at m k = get_or_append_left ws (w ∷ []) no_window k x.1 in
      let new : get_or (ws ++ w ∷ []) n no_window ≡ w = get_or_push ws w no_window n refl in
      let same : (window_at m k).service ≡ w.service = same_service _ _ (same_pos _ _ (x.2.0 ∙ s.0)) in
      let hour = x.2.1.0 in
      let share : Share (window_at m k) w = (hour, x.2.1.1, fields_cover w zs s.1 s.2 hour x.2.1.2) in
      l.apart k n (λ e. omega (arith, x.1)) (omega (arith, x.1)) (omega arith) (ap (λ v. v.service) old ∙ same ∙ ap (λ v. v.service) (sym new))
      (subst (λ (v : Window). Share v (get_or (ws ++ w ∷ []) n no_window)) (sym old) (subst (λ (v : Window). Share (window_at m k) v) (sym new) share))
  window_free LoopBroken x = x

-- nor of a buy
module _ (m : Market) (e : Buy) (zs : List ℤ) (l : Lawful (put m (OfBuy e))) (s : Spells (OfBuy e) zs) where
  buy_free : (g : Fault) → Has m (kind_of 2) zs g → ⊥
  buy_free (Record f) x = x
  buy_free OutsideLimits x =
      let g = good_last m (OfBuy e) l in
      x (
        between_pos 1 9999 e.quantity (field zs 2) s.2 g.some g.most,
        (
          price_is (window_at m e.window).service e.price (field zs 3) s.3 g.price,
          (between_pos 0 64 e.family (field zs 4) s.4 (omega arith) g.family, rw s.5 (permit_range e.permit)),
        ),
      )
  buy_free Absent x =
      let g = good_last m (OfBuy e) l in
      ⊎_elim (λ no_one. no_one (e.window, s.0, g.window))
      (λ y.
      let same : y.0 ≡ e.window = same_pos y.0 e.window (sym y.1 ∙ s.0) in
      let here = (window_at m e.window).service in
      let z = subst (λ (k : ℕ). ((n : ℕ) × (field zs 1 ≡ pos n) × (n < (terms (window_at m k).service).products) → ⊥) ⊎ (field zs 3 <ℤ (terms (window_at m k).service).floor)) same y.2 in
      ⊎_elim (λ no_one. no_one (e.product, s.1, g.product)) (λ low. not_below here e.price (field zs 3) s.3 g.price low) z)
      x
  buy_free TableFull x = omega (arith, x, l.few_buys, length_push m.buys e)
  buy_free WindowOverlaps x = x
  buy_free LoopBroken x = x

-- two baskets of one loop, by other names
loop_at : (m : Market) (a b x y : Basket) → a ≡ x → b ≡ y → ((a.ring ≡ 0 → ⊥) → a.ring ≡ b.ring → GoodLoop m a b) → (x.ring ≡ 0 → ⊥) → x.ring ≡ y.ring → GoodLoop m x y
loop_at m a b x y p q h =
    subst (λ (c : Basket). (c.ring ≡ 0 → ⊥) → c.ring ≡ y.ring → GoodLoop m c y) p
    (subst (λ (c : Basket). (a.ring ≡ 0 → ⊥) → a.ring ≡ c.ring → GoodLoop m a c) q h)

-- nor of a basket
module _ (m : Market) (b : Basket) (zs : List ℤ) (l : Lawful (put m (OfBasket b))) (s : Spells (OfBasket b) zs) where
  basket_free : (g : Fault) → Has m (kind_of 3) zs g → ⊥
  basket_free (Record f) x = x
  basket_free OutsideLimits x =
      let g = good_last m (OfBasket b) l in
      let here = (window_at m b.window).service in
      x (
        between_pos 1 65535 b.unit (field zs 0) s.0 g.unit g.unit_most,
        (
          between_pos 0 255 b.ring (field zs 2) s.2 (omega arith) g.ring,
          (quantities_are here b.quantities zs 3 g.quantities s.3, price_is here b.price (field zs 9) s.4 g.price),
        ),
      )
  basket_free Absent x =
      let g = good_last m (OfBasket b) l in
      ⊎_elim (λ no_one. no_one (b.window, s.1, g.window))
      (λ y.
      let same : y.0 ≡ b.window = same_pos y.0 b.window (sym y.1 ∙ s.1) in
      let here = (window_at m b.window).service in
      allowed here b.quantities zs 3 9 b.price g.quantities s.3 s.4 g.price (subst (λ (k : ℕ). Disallowed (window_at m k).service zs 3 9) same y.2))
      x
  basket_free TableFull x = omega (arith, x, l.few_baskets, length_push m.baskets b)
  basket_free WindowOverlaps x = x
  basket_free LoopBroken x =
      let bs = m.baskets in
      let n = length bs in
      let k = x.0 in
      let longer = length_push bs b in
      let old : get_or (bs ++ b ∷ []) k no_basket ≡ basket_at m k = get_or_append_left bs (b ∷ []) no_basket k x.1 in
      let new : get_or (bs ++ b ∷ []) n no_basket ≡ b = get_or_push bs b no_basket n refl in
      let pair = loop_at (put m (OfBasket b)) (get_or (bs ++ b ∷ []) k no_basket) (get_or (bs ++ b ∷ []) n no_basket) (basket_at m k) b old new (l.loops k n (λ e. omega (arith, x.1)) (omega (arith, x.1)) (omega arith)) in
      let same : (basket_at m k).ring ≡ b.ring = same_pos _ _ (x.2.1.0 ∙ s.2) in
      let good = pair (λ z. x.2.0 (s.2 ∙ ap pos (sym same ∙ z))) same in
      ⊎_elim (λ other. other (ap pos good.unit ∙ sym s.0))
      (λ share. good.apart (subst (λ (v : ℕ). Share (window_at m (basket_at m k).window) (window_at m v)) (same_pos share.0 b.window (sym share.1 ∙ s.1)) share.2))
      x.2.1.1

-- nor of a child or a substitute
module _ (m : Market) (e : Extra) (zs : List ℤ) (l : Lawful (put m (OfExtra e))) (s : Spells (OfExtra e) zs) where
  child_free : (g : Fault) → Has m a_child zs g → ⊥
  child_free (Record f) x = x
  child_free OutsideLimits x =
      let g = good_last m (OfExtra e) l in
      let here = (window_at m (basket_at m e.basket).window).service in
      x (
        quantities_are here e.quantities zs 1 g.quantities s.1,
        (
          (λ none. g.some (λ p h. same_pos (get_or e.quantities p 0) 0 (sym (s.1 p h) ∙ none p h))),
          price_is here e.price (field zs 7) s.2 g.price,
        ),
      )
  child_free Absent x =
      let g = good_last m (OfExtra e) l in
      ⊎_elim (λ no_one. no_one (e.basket, s.0, g.basket))
      (λ y.
      let same : y.0 ≡ e.basket = same_pos y.0 e.basket (sym y.1 ∙ s.0) in
      let here = (window_at m (basket_at m e.basket).window).service in
      allowed here e.quantities zs 1 7 e.price g.quantities s.1 s.2 g.price (subst (λ (k : ℕ). Disallowed (window_at m (basket_at m k).window).service zs 1 7) same y.2))
      x
  child_free TableFull x = omega (arith, x, l.few_extras, length_push m.extras e)
  child_free WindowOverlaps x = x
  child_free LoopBroken x = x

  substitute_free : (g : Fault) → Has m a_substitute zs g → ⊥
  substitute_free (Record f) x = x
  substitute_free OutsideLimits x = child_free OutsideLimits x
  substitute_free Absent x = child_free Absent x
  substitute_free TableFull x = child_free TableFull x
  substitute_free WindowOverlaps x = x
  substitute_free LoopBroken x = x

  extra_free : (r : Role) (g : Fault) → Has m (kind_of (role_kind r)) zs g → ⊥
  extra_free Child g x = child_free g x
  extra_free Substitute g x = substitute_free g x

pub free : (m : Market) (e : Entry) (zs : List ℤ) → Lawful (put m e) → Spells e zs → (g : Fault) → Has m (kind_of (kind_in e)) zs g → ⊥
free m (OfWindow w) zs l s = window_free m w zs l s
free m (OfBuy e) zs l s = buy_free m e zs l s
free m (OfBasket b) zs l s = basket_free m b zs l s
free m (OfExtra e) zs l s = extra_free m e zs l s e.role
