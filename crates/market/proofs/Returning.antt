-- An entry that keeps the lines is what its own record spells, and nothing is wrong with that record.
use Rattle.std.proofs.Common.{◌≡◌, ℕ, zero, suc, ◌+◌, ◌<◌, ◌≤◌, Bool, true, false, cond, eqb, ltb, List, [], ◌∷◌, ◌++◌, map, length, get_or, ℤ, pos, negsuc, sym, refl, ap, ◌∙◌, ⊎_elim, arith, ext_get_or}
use Rattle.std.proofs.lemmas.List.{get_or_append_left, get_or_push, get_or-map, length-map}
use Rattle.std.proofs.lemmas.Int.{ints}
use Rattle.std.proofs.lemmas.Bool.{cases_lt, cond-true, cond-false, lt-ltb, le-ltb}
use Rattle.records.specs.Write.{padded}
use Rattle.market.specs.declared.entries.Basket.{Basket}
use Rattle.market.specs.declared.entries.Buy.{Buy}
use Rattle.market.specs.declared.entries.Entry.{Entry}
use Rattle.market.specs.declared.entries.Entry.TheVariants.{OfWindow, OfBuy, OfBasket, OfExtra}
use Rattle.market.specs.declared.entries.Extra.{Extra}
use Rattle.market.specs.declared.entries.Role.{Role}
use Rattle.market.specs.declared.entries.Role.TheVariants.{Child, Substitute}
use Rattle.market.specs.declared.entries.Service.{Service}
use Rattle.market.specs.declared.entries.Service.TheVariants.{Response, Balancing, Quick, Slow}
use Rattle.market.specs.declared.entries.Window.{Window}
use Rattle.market.specs.Files.{kind_in, role_kind, spelt}
use Rattle.market.specs.Lawful.{GoodPrice, GoodQuantities, GoodWindow, GoodBuy, GoodBasket, GoodExtra}
use Rattle.market.specs.Lines.{price_ok}
use Rattle.market.specs.Market.{Market, window_at}
use Rattle.market.specs.Reading.{fitted, byte_of, small_of, price_of, field, quantities_of, window_of, buy_of, basket_of, extra_of, entry_of, kind_of}
use Rattle.market.specs.Services.{terms, service_of}
use Rattle.market.specs.Wrong.{Price}
use Rattle.market.proofs.Deciding.{six}
use Rattle.market.proofs.Fields.{dec_between, six_at}

-- a record's fields are those of the entry
abbrev pub SpellsSix : List ℕ → List ℤ → ℕ → Type 0
SpellsSix qs zs i = (p : ℕ) → p < 6 → field zs (i + p) ≡ pos (get_or qs p 0)

abbrev pub Spells : Entry → List ℤ → Type 0
Spells (OfWindow w) zs = (field zs 0 ≡ pos (terms w.service).number) × (field zs 1 ≡ pos w.start) × (field zs 2 ≡ pos w.length)
Spells (OfBuy e) zs = (field zs 0 ≡ pos e.window) × (field zs 1 ≡ pos e.product) × (field zs 2 ≡ pos e.quantity) × (field zs 3 ≡ e.price) × (field zs 4 ≡ pos e.family) × (field zs 5 ≡ pos (cond e.permit 1 0))
Spells (OfBasket b) zs = (field zs 0 ≡ pos b.unit) × (field zs 1 ≡ pos b.window) × (field zs 2 ≡ pos b.ring) × SpellsSix b.quantities zs 3 × (field zs 9 ≡ b.price)
Spells (OfExtra e) zs = (field zs 0 ≡ pos e.basket) × SpellsSix e.quantities zs 1 × (field zs 7 ≡ e.price)

padded_at : (n i : ℕ) (zs : List ℤ) → i < n → field (padded n zs) i ≡ field zs i
unfolding padded
padded_at zero i zs h = absurd (omega arith)
padded_at (suc n) zero [] h = refl
padded_at (suc n) zero (z ∷ zs) h = refl
padded_at (suc n) (suc i) [] h = padded_at n i [] (omega arith)
padded_at (suc n) (suc i) (z ∷ zs) h = padded_at n i zs (omega arith)

quantity_at : (qs : List ℕ) (z : ℤ) (p : ℕ) → p < length qs → get_or (map pos qs ++ z ∷ []) p (pos 0) ≡ pos (get_or qs p 0)
quantity_at qs z p h = get_or_append_left (map pos qs) (z ∷ []) (pos 0) p (omega (arith, length-map qs pos)) ∙ get_or-map pos qs p 0 (pos 0) h

price_at : (qs : List ℕ) (z : ℤ) → length qs ≡ 6 → get_or (map pos qs ++ z ∷ []) 6 (pos 0) ≡ z
price_at qs z h = get_or_push (map pos qs) z (pos 0) 6 (length-map qs pos ∙ h)

-- how many quantities an entry has
abbrev Six : Entry → Type 0
Six (OfWindow w) = Unit {0}
Six (OfBuy e) = Unit {0}
Six (OfBasket b) = length b.quantities ≡ 6
Six (OfExtra e) = length e.quantities ≡ 6

pub spells : (e : Entry) → Six e → Spells e (padded 16 (spelt e))
spells (OfWindow w) h = let at = λ (i : ℕ) (l : i < 16). padded_at 16 i (spelt (OfWindow w)) l in (at 0 (omega arith), at 1 (omega arith), at 2 (omega arith))
spells (OfBuy e) h =
    let at = λ (i : ℕ) (l : i < 16). padded_at 16 i (spelt (OfBuy e)) l in
    (at 0 (omega arith), at 1 (omega arith), at 2 (omega arith), at 3 (omega arith), at 4 (omega arith), at 5 (omega arith))
spells (OfBasket b) h =
    let qs = b.quantities in
    let at = λ (i : ℕ) (l : i < 16). padded_at 16 i (spelt (OfBasket b)) l in
    let q = λ (p : ℕ) (l : p < 6). quantity_at qs b.price p (omega arith) in (
      at 0 (omega arith),
      at 1 (omega arith),
      at 2 (omega arith),
      six (λ p. field (padded 16 (spelt (OfBasket b))) (3 + p) ≡ pos (get_or qs p 0)) (at 3 (omega arith) ∙ q 0 (omega arith)) (at 4 (omega arith) ∙ q 1 (omega arith)) (at 5 (omega arith) ∙ q 2 (omega arith)) (at 6 (omega arith) ∙ q 3 (omega arith)) (at 7 (omega arith) ∙ q 4 (omega arith)) (at 8 (omega arith) ∙ q 5 (omega arith)),
      at 9 (omega arith) ∙ price_at qs b.price h,
    )
spells (OfExtra e) h =
    let qs = e.quantities in
    let at = λ (i : ℕ) (l : i < 16). padded_at 16 i (spelt (OfExtra e)) l in
    let q = λ (p : ℕ) (l : p < 6). quantity_at qs e.price p (omega arith) in (
      at 0 (omega arith),
      six (λ p. field (padded 16 (spelt (OfExtra e))) (1 + p) ≡ pos (get_or qs p 0)) (at 1 (omega arith) ∙ q 0 (omega arith)) (at 2 (omega arith) ∙ q 1 (omega arith)) (at 3 (omega arith) ∙ q 2 (omega arith)) (at 4 (omega arith) ∙ q 3 (omega arith)) (at 5 (omega arith) ∙ q 4 (omega arith)) (at 6 (omega arith) ∙ q 5 (omega arith)),
      at 7 (omega arith) ∙ price_at qs e.price h,
    )

-- a number that fits comes back
fit_back : (top n : ℕ) → n ≤ top → fitted top (pos n) ≡ n
fit_back top n h =
    ⊎_elim (λ (l : n < top). cond-true (ltb n top) n top (lt-ltb n top l))
    (λ (l : top ≤ n). cond-false (ltb n top) n top (le-ltb n top l) ∙ omega arith)
    (cases_lt n top)

pub price_within : (s : Service) (z : ℤ) → GoodPrice s z → Price z
price_within Response z g = (g.least, g.most)
price_within Balancing z g = (grind (arith, ints, g.least), g.most)
price_within Quick z g = (grind (arith, ints, g.least), g.most)
price_within Slow z g = (grind (arith, ints, g.least), g.most)

price_back : (s : Service) (z : ℤ) → GoodPrice s z → price_of z ≡ z
price_back s z g = cond-true (price_ok z) z (pos 0) ((dec_between (negsuc 99998) (pos 99999) z).1 (price_within s z g))

service_back : (s : Service) → service_of (byte_of (pos (terms s).number)) ≡ s
service_back Response = refl
service_back Balancing = refl
service_back Quick = refl
service_back Slow = refl

permit_back : (b : Bool) → eqb (byte_of (pos (cond b 1 0))) 1 ≡ b
permit_back true = refl
permit_back false = refl

pub products_six : (s : Service) → (terms s).products ≤ 6
products_six Response = omega arith
products_six Balancing = omega arith
products_six Quick = omega arith
products_six Slow = omega arith

quantities_back : (s : Service) (qs : List ℕ) (zs : List ℤ) (i : ℕ) → GoodQuantities s qs → SpellsSix qs zs i → quantities_of zs i ≡ qs
quantities_back s qs zs i g h =
    ext_get_or 0 (quantities_of zs i) qs (sym g.six)
    (λ p l. six_at zs i p l ∙ ap small_of (h p l) ∙ fit_back 65535 (get_or qs p 0) (omega (arith, g.most p l)))

window_back : (w : Window) (zs : List ℤ) → GoodWindow w → Spells (OfWindow w) zs → window_of zs ≡ w
window_back w zs g s =
    let a = ap (λ z. service_of (byte_of z)) s.0 ∙ service_back w.service in
    let b = ap byte_of s.1 ∙ fit_back 255 w.start (omega (arith, g.within)) in
    let c = ap byte_of s.2 ∙ fit_back 255 w.length (omega (arith, g.within)) in
    λ i. record { service = a i; start = b i; length = c i }

buy_back : (m : Market) → length m.windows ≤ 32 → (e : Buy) (zs : List ℤ) → GoodBuy m e → Spells (OfBuy e) zs → buy_of zs ≡ e
buy_back m few e zs g s =
    let a = ap byte_of s.0 ∙ fit_back 255 e.window (omega (arith, g.window)) in
    let b = ap byte_of s.1 ∙ fit_back 255 e.product (omega (arith, g.product, products_six (window_at m e.window).service)) in
    let c = ap small_of s.2 ∙ fit_back 65535 e.quantity (omega (arith, g.most)) in
    let d = ap price_of s.3 ∙ price_back _ e.price g.price in
    let f = ap byte_of s.4 ∙ fit_back 255 e.family (omega (arith, g.family)) in
    let h = ap (λ z. eqb (byte_of z) 1) s.5 ∙ permit_back e.permit in
    λ i. record { window = a i; product = b i; quantity = c i; price = d i; family = f i; permit = h i }

basket_back : (m : Market) → length m.windows ≤ 32 → (b : Basket) (zs : List ℤ) → GoodBasket m b → Spells (OfBasket b) zs → basket_of zs ≡ b
basket_back m few b zs g s =
    let u = ap small_of s.0 ∙ fit_back 65535 b.unit g.unit_most in
    let w = ap byte_of s.1 ∙ fit_back 255 b.window (omega (arith, g.window)) in
    let r = ap byte_of s.2 ∙ fit_back 255 b.ring g.ring in
    let q = quantities_back _ b.quantities zs 3 g.quantities s.3 in
    let p = ap price_of s.4 ∙ price_back _ b.price g.price in
    λ i. record { unit = u i; window = w i; ring = r i; quantities = q i; price = p i }

extra_back : (m : Market) → length m.baskets ≤ 96 → (e : Extra) (r : Role) (zs : List ℤ) → e.role ≡ r → GoodExtra m e → Spells (OfExtra e) zs → extra_of r zs ≡ e
extra_back m few e r zs is g s =
    let b = ap byte_of s.0 ∙ fit_back 255 e.basket (omega (arith, g.basket)) in
    let q = quantities_back _ e.quantities zs 1 g.quantities s.1 in
    let p = ap price_of s.2 ∙ price_back _ e.price g.price in
    λ i. record { role = sym is i; basket = b i; quantities = q i; price = p i }

extra_entry : (m : Market) → length m.baskets ≤ 96 → (e : Extra) (r : Role) (zs : List ℤ) → e.role ≡ r → GoodExtra m e → Spells (OfExtra e) zs → entry_of (kind_of (role_kind r)) zs ≡ OfExtra e
extra_entry m few e Child zs is g s = ap OfExtra (extra_back m few e Child zs is g s)
extra_entry m few e Substitute zs is g s = ap OfExtra (extra_back m few e Substitute zs is g s)

-- the lines on one entry after a market
abbrev pub Good : Market → Entry → Type 0
Good m (OfWindow w) = GoodWindow w
Good m (OfBuy e) = GoodBuy m e
Good m (OfBasket b) = GoodBasket m b
Good m (OfExtra e) = GoodExtra m e

pub six_good : (m : Market) (e : Entry) → Good m e → Six e
six_good m (OfWindow w) g = tt
six_good m (OfBuy e) g = tt
six_good m (OfBasket b) g = g.quantities.six
six_good m (OfExtra e) g = g.quantities.six

-- the entry that its record spells is the entry
pub entry_back : (m : Market) → length m.windows ≤ 32 → length m.baskets ≤ 96 → (e : Entry) (zs : List ℤ) → Good m e → Spells e zs → entry_of (kind_of (kind_in e)) zs ≡ e
entry_back m fw fb (OfWindow w) zs g s = ap OfWindow (window_back w zs g s)
entry_back m fw fb (OfBuy e) zs g s = ap OfBuy (buy_back m fw e zs g s)
entry_back m fw fb (OfBasket b) zs g s = ap OfBasket (basket_back m fw b zs g s)
entry_back m fw fb (OfExtra e) zs g s = extra_entry m fb e e.role zs refl g s
