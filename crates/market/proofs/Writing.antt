-- An entry that keeps the lines can be written as a record, and is read back from it with nothing wrong.
use Rattle.std.proofs.Common.{◌≡◌, ℕ, suc, ◌+◌, ◌<◌, ◌≤◌, Bool, true, false, cond, List, [], ◌∷◌, ◌++◌, map, length, get_or, ℤ, pos, negsuc, Ok, refl, ap, ◌∙◌, arith, w32, SFits}
use Rattle.std.specs.List.{AllByRecursion}
use Rattle.std.proofs.lemmas.List.{length_push, length-map}
use Rattle.std.proofs.lemmas.Int.{ints}
use Rattle.records.specs.Read.{read}
use Rattle.records.specs.Write.{encode, padded, written, Writable}
use Rattle.records.proofs.Writing.{reads_back}
use Rattle.market.specs.declared.entries.Entry.{Entry}
use Rattle.market.specs.declared.entries.Entry.TheVariants.{OfWindow, OfBuy, OfBasket, OfExtra}
use Rattle.market.specs.declared.entries.Role.{Role}
use Rattle.market.specs.declared.entries.Role.TheVariants.{Child, Substitute}
use Rattle.market.specs.declared.entries.Service.{Service}
use Rattle.market.specs.declared.entries.Service.TheVariants.{Response, Balancing, Quick, Slow}
use Rattle.market.specs.declared.faults.Fault.{Fault}
use Rattle.market.specs.Files.{kinds, kind_in, role_kind, spelt}
use Rattle.market.specs.Lawful.{Lawful}
use Rattle.market.specs.Market.{Market, window_at, basket_at, put}
use Rattle.market.specs.Reading.{entry_of, kind_of}
use Rattle.market.specs.Services.{terms}
use Rattle.market.specs.Wrong.{Price, Faulty}
use Rattle.market.proofs.Admitting.{good_last, few_windows, few_baskets, free}
use Rattle.market.proofs.Returning.{Good, six_good, spells, entry_back, price_within, products_six}

-- the numbers of an entry that keeps the lines have room in 4 bytes
small_fits : (n : ℕ) → n ≤ 65535 → SFits w32 (pos n)
small_fits n h = record { sfits = omega arith }

price_fits : (z : ℤ) → Price z → SFits w32 z
price_fits (pos n) h = record { sfits = let l : n ≤ 99999 = omega (arith, ints, h.1) in omega arith }
price_fits (negsuc n) h = record { sfits = let l : n ≤ 99998 = omega (arith, ints, h.0) in omega arith }

quantities_fit : (qs : List ℕ) (z : ℤ) → ((p : ℕ) → p < length qs → get_or qs p 0 ≤ 999) → SFits w32 z → AllByRecursion (SFits w32) (map pos qs ++ z ∷ [])
quantities_fit [] z h f = (f, tt)
quantities_fit (q ∷ qs) z h f = (small_fits q (omega (arith, h 0 (omega arith))), quantities_fit qs z (λ p l. h (suc p) (omega arith)) f)

number_small : (s : Service) → (terms s).number ≤ 4
number_small Response = omega arith
number_small Balancing = omega arith
number_small Quick = omega arith
number_small Slow = omega arith

permit_small : (b : Bool) → cond b 1 0 ≤ 1
permit_small true = omega arith
permit_small false = omega arith

six_long : (qs : List ℕ) (z : ℤ) → length qs ≡ 6 → length (map pos qs ++ z ∷ []) ≡ 7
six_long qs z h = length_push (map pos qs) z ∙ ap (λ n. n + 1) (length-map qs pos ∙ h)

extra_writable : (r : Role) (zs : List ℤ) → length zs ≡ 8 → AllByRecursion (SFits w32) zs → Writable kinds (role_kind r) zs
extra_writable Child zs h f = record { count = 8; counted = refl; few = omega arith; mapped = omega arith; fit = f }
extra_writable Substitute zs h f = record { count = 8; counted = refl; few = omega arith; mapped = omega arith; fit = f }

writable : (m : Market) → length m.windows ≤ 32 → length m.baskets ≤ 96 → (e : Entry) → Good m e → Writable kinds (kind_in e) (spelt e)
writable m fw fb (OfWindow w) g =
    record {
      count = 3;
      counted = refl;
      few = omega arith;
      mapped = omega arith;
      fit = (
        small_fits (terms w.service).number (omega (arith, number_small w.service)),
        (small_fits w.start (omega (arith, g.within)), (small_fits w.length (omega (arith, g.within)), tt)),
      );
    }
writable m fw fb (OfBuy e) g =
    let s = (window_at m e.window).service in
    record {
      count = 6;
      counted = refl;
      few = omega arith;
      mapped = omega arith;
      fit = (
        small_fits e.window (omega (arith, g.window)),
        (
          small_fits e.product (omega (arith, g.product, products_six s)),
          (
            small_fits e.quantity (omega (arith, g.most)),
            (
              price_fits e.price (price_within s e.price g.price),
              (small_fits e.family (omega (arith, g.family)), (small_fits (cond e.permit 1 0) (omega (arith, permit_small e.permit)), tt)),
            ),
          ),
        ),
      );
    }
writable m fw fb (OfBasket b) g =
    let long = six_long b.quantities b.price g.quantities.six in
    let most = g.quantities.most in
    record {
      count = 10;
      counted = refl;
      few = omega arith;
      mapped = omega arith;
      fit = (
        small_fits b.unit g.unit_most,
        (
          small_fits b.window (omega (arith, g.window)),
          (
            small_fits b.ring (omega (arith, g.ring)),
            quantities_fit b.quantities b.price (λ p l. most p (omega (arith, g.quantities.six))) (price_fits b.price (price_within (window_at m b.window).service b.price g.price)),
          ),
        ),
      );
    }
writable m fw fb (OfExtra e) g =
    let long = six_long e.quantities e.price g.quantities.six in
    let most = g.quantities.most in
    extra_writable e.role (spelt (OfExtra e)) (omega arith) (
      small_fits e.basket (omega (arith, g.basket)),
      quantities_fit e.quantities e.price (λ p l. most p (omega (arith, g.quantities.six))) (price_fits e.price (price_within (window_at m (basket_at m e.basket).window).service e.price g.price)),
    )

pub lawful_writable : (m : Market) (e : Entry) → Lawful (put m e) → Writable kinds (kind_in e) (spelt e)
lawful_writable m e l = writable m (few_windows m e l) (few_baskets m e l) e (good_last m e l)

-- an entry that keeps the lines is read from its bytes, and nothing is wrong with it there
pub reads_entry : (m : Market) (e : Entry) (rest : List ℕ) → Lawful (put m e) → read kinds (encode (kind_in e) (spelt e) ++ rest) ≡ Ok (written (kind_in e) (spelt e))
reads_entry m e rest l = reads_back kinds (kind_in e) (spelt e) rest (lawful_writable m e l)

pub not_faulty : (m : Market) (e : Entry) (f : Fault) → Lawful (put m e) → Faulty m (written (kind_in e) (spelt e)) f → ⊥
not_faulty m e f l x = free m e (padded 16 (spelt e)) l (spells e (six_good m e (good_last m e l))) f x.0

pub returned : (m : Market) (e : Entry) → Lawful (put m e) → entry_of (kind_of (kind_in e)) (padded 16 (spelt e)) ≡ e
returned m e l = let g = good_last m e l in entry_back m (few_windows m e l) (few_baskets m e l) e (padded 16 (spelt e)) g (spells e (six_good m e g))
