-- An entry that was read has its numbers within their limits.
use Rattle.std.proofs.Common.{◌≡◌, ℕ, ◌+◌, ◌≤◌, Bool, true, false, cond, eqb, leb, List, length, ℤ, pos, negsuc, Ok, Err, sym, refl, ap, ◌∙◌, arith, w64, SFits, to_z, of_z}
use lib.IntN.{nat_abs}
use Rattle.std.proofs.lemmas.Int.{to_z-of_z}
use Rattle.std.proofs.lemmas.Bool.{and_parts, and_from, leb-true, cond-true}
use Rattle.std.proofs.lemmas.Bool.Decides.{nat_tests}
use Rattle.records.specs.Read.{Content}
use Rattle.market.specs.declared.entries.Entry.{Entry}
use Rattle.market.specs.declared.entries.Entry.TheVariants.{OfWindow, OfBuy, OfBasket, OfExtra}
use Rattle.market.specs.declared.entries.Role.{Role}
use Rattle.market.specs.declared.entries.Role.TheVariants.{Child, Substitute}
use Rattle.market.specs.declared.faults.Fault.{Fault}
use Rattle.market.specs.declared.faults.Fault.TheVariants.{OutsideLimits}
use Rattle.market.specs.Lines.{between, price_ok, window_ok, buy_ok, six_ok, basket_ok, extra_ok, entry_ok}
use Rattle.market.specs.Reading.{fitted, byte_of, read_basket, field, price_of, small_of, is_quantity, are_quantities, quantities_of, window_of, window_limits, buy_of, buy_limits, basket_of, basket_limits, extra_of, extra_limits, limited, limits, limits_of, entry_of, entry_in, read_entry, mapped, by_kind, kind_of, Kind, a_window, a_buy, a_basket, a_child, a_substitute}

fit : (low high top : ℕ) (z : ℤ) → high ≤ top → between (pos low) (pos high) z ≡ true → (leb low (fitted top z) ≡ true) × (leb (fitted top z) high ≡ true)
fit low high top (pos n) h e = (grind (arith, nat_tests), grind (arith, nat_tests))
fit low high top (negsuc n) h e = grind (arith, nat_tests)

fit_price : (z : ℤ) → price_ok z ≡ true → price_ok (price_of z) ≡ true
fit_price z h = ap price_ok (cond-true (price_ok z) z (pos 0) h) ∙ h

fit_quantities : (zs : List ℤ) (i : ℕ) → are_quantities zs i ≡ true → six_ok (quantities_of zs i) ≡ true
fit_quantities zs i h =
    let one : (z : ℤ) → is_quantity z ≡ true → leb (small_of z) 999 ≡ true = λ z e. (fit 0 999 65535 z (omega arith) e).1 in
    let a = and_parts _ _ h in
    let b = and_parts _ _ a.1 in
    let c = and_parts _ _ b.1 in
    let d = and_parts _ _ c.1 in
    let e = and_parts _ _ d.1 in
    and_from (eqb (length (quantities_of zs i)) 6) _ refl
    (and_from _ _ (one (field zs i) a.0)
    (and_from _ _ (one (field zs (i + 1)) b.0)
    (and_from _ _ (one (field zs (i + 2)) c.0)
    (and_from _ _ (one (field zs (i + 3)) d.0)
    (and_from _ _ (one (field zs (i + 4)) e.0) (one (field zs (i + 5)) e.1))))))

fit_window : (zs : List ℤ) → window_limits zs ≡ true → window_ok (window_of zs) ≡ true
fit_window zs h =
    let a = and_parts (between (pos 1) (pos 4) (field zs 0)) _ h in
    let b = and_parts (between (pos 0) (pos 49) (field zs 1)) _ a.1 in
    let c = and_parts (between (pos 1) (pos 50) (field zs 2)) _ b.1 in
    and_from _ _ (fit 1 50 255 (field zs 2) (omega arith) c.0).0 c.1

fit_basket : (zs : List ℤ) → basket_limits zs ≡ true → basket_ok (basket_of zs) ≡ true
fit_basket zs h =
    let a = and_parts _ _ h in
    let b = and_parts _ _ a.1 in
    let c = and_parts _ _ b.1 in
    let u = fit 1 65535 65535 (field zs 0) (omega arith) a.0 in
    and_from _ _ u.0 (and_from _ _ u.1 (and_from _ _ (fit 0 255 255 (field zs 2) (omega arith) b.0).1 (and_from _ _ (fit_quantities zs 3 c.0) (fit_price (field zs 9) c.1))))

fit_buy : (zs : List ℤ) → buy_limits zs ≡ true → buy_ok (buy_of zs) ≡ true
fit_buy zs h =
    let a = and_parts _ _ h in
    let b = and_parts _ _ a.1 in
    let c = and_parts _ _ b.1 in
    let q = fit 1 9999 65535 (field zs 2) (omega arith) a.0 in
    and_from _ _ q.0 (and_from _ _ q.1 (and_from _ _ (fit 0 64 255 (field zs 4) (omega arith) c.0).1 (fit_price (field zs 3) b.0)))

fit_extra : (role : Role) (zs : List ℤ) → extra_limits zs ≡ true → extra_ok (extra_of role zs) ≡ true
fit_extra role zs h =
    let a = and_parts _ _ h in
    let b = and_parts _ _ a.1 in
    and_from _ _ (fit_quantities zs 1 a.0) (and_from _ _ b.0 (fit_price (field zs 7) b.1))

pub fits : (k : Kind) (zs : List ℤ) → limits_of k zs ≡ true → entry_ok (entry_of k zs) ≡ true
fits a_window zs = fit_window zs
fits a_buy zs = fit_buy zs
fits a_basket zs = fit_basket zs
fits a_child zs = fit_extra Child zs
fits a_substitute zs = fit_extra Substitute zs

pub entry_fits : (e : Content) → limits e ≡ true → entry_ok (entry_in e) ≡ true
entry_fits e = fits (kind_of e.kind) e.fields

-- what a reading gives
by_tests : {A : Type 0} (a b c d : Bool) (f : Kind → A) → cond a (f a_window) (cond b (f a_buy) (cond c (f a_basket) (cond d (f a_child) (f a_substitute)))) ≡ f (cond a a_window (cond b a_buy (cond c a_basket (cond d a_child a_substitute))))
by_tests true b c d f = refl
by_tests false true c d f = refl
by_tests false false true d f = refl
by_tests false false false true f = refl
by_tests false false false false f = refl

mapped_limited : {A : Type 0} (b : Bool) (x : A) (f : A → Entry) → mapped f (limited b x) ≡ limited b (f x)
mapped_limited true x f = refl
mapped_limited false x f = refl

pub read_entry_is : (e : Content) → read_entry e ≡ limited (limits e) (entry_in e)
read_entry_is e =
    let zs = e.fields in
    (λ i. by_kind e.kind (mapped_limited (window_limits zs) (window_of zs) OfWindow i) (mapped_limited (buy_limits zs) (buy_of zs) OfBuy i) (mapped_limited (basket_limits zs) (basket_of zs) OfBasket i) (mapped_limited (extra_limits zs) (extra_of Child zs) OfExtra i) (mapped_limited (extra_limits zs) (extra_of Substitute zs) OfExtra i))
    ∙ by_tests (eqb e.kind 1) (eqb e.kind 2) (eqb e.kind 3) (eqb e.kind 4) (λ k. limited (limits_of k zs) (entry_of k zs))

pub limited_ok : {A : Type 0} (b : Bool) (x y : A) → limited b x ≡ Ok y → (b ≡ true) × (x ≡ y)
limited_ok true x y h = (refl, grind arith)
limited_ok false x y h = grind arith

pub read_ok : (e : Content) (i : Entry) → read_entry e ≡ Ok i → (limits e ≡ true) × (entry_in e ≡ i)
read_ok e i h = limited_ok (limits e) (entry_in e) i (sym (read_entry_is e) ∙ h)

limited_err : {A : Type 0} (b : Bool) (x : A) (f : Fault) → limited b x ≡ Err f → (b ≡ false) × (OutsideLimits ≡ f)
limited_err true x f h = grind arith
limited_err false x f h = (refl, grind arith)

pub read_err : (e : Content) (f : Fault) → read_entry e ≡ Err f → (limits e ≡ false) × (OutsideLimits ≡ f)
read_err e f h = limited_err (limits e) (entry_in e) f (sym (read_entry_is e) ∙ h)

pub read_entry_fits : (e : Content) (i : Entry) → read_entry e ≡ Ok i → entry_ok i ≡ true
read_entry_fits e i h =
    let p = read_ok e i h in
    ap entry_ok (sym p.1) ∙ entry_fits e p.0

-- a number within its limits, in fewer bits
pub fewer_bits : (low high top : ℕ) (z y : ℤ) → high ≤ top → top ≤ 65535 → between (pos low) (pos high) z ≡ true → z ≡ y → nat_abs (to_z w64 (of_z w64 y)) ≡ fitted top z
fewer_bits low high top (pos n) y h k e s =
    let l : n ≤ high = leb-true n high (and_parts (leb low n) _ e).1 in
    let f : SFits w64 (pos n) = record { sfits = omega arith } in
    let t : n ≡ fitted top (pos n) = grind (arith, nat_tests) in
    ap (λ x. nat_abs (to_z w64 (of_z w64 x))) (sym s) ∙ ap nat_abs (to_z-of_z w64 (pos n) f) ∙ t
fewer_bits low high top (negsuc n) y h k e s = grind arith

-- a basket whose numbers are those of its record
pub basket_read : (zs : List ℤ) (unit window ring : ℕ) (qs : List ℕ) (price : ℤ)
    → between (pos 1) (pos 65535) (field zs 0) ≡ true → between (pos 0) (pos 255) (field zs 2) ≡ true → are_quantities zs 3 ≡ true → price_ok (field zs 9) ≡ true
    → unit ≡ small_of (field zs 0) → window ≡ byte_of (field zs 1) → ring ≡ byte_of (field zs 2) → qs ≡ quantities_of zs 3 → price ≡ price_of (field zs 9)
    → read_basket zs ≡ Ok (record { unit = unit; window = window; ring = ring; quantities = qs; price = price })
basket_read zs unit window ring qs price a b c d u w r q p =
    cond-true (basket_limits zs) _ _ (and_from _ _ a (and_from _ _ b (and_from _ _ c d)))
    ∙ sym (λ i. Ok (record { unit = u i; window = w i; ring = r i; quantities = q i; price = p i }))
