-- The tests of a record's fields decide what they are named for.
use Rattle.std.proofs.Common.{◌≡◌, ℕ, zero, suc, ◌+◌, ◌<◌, ◌≤◌, Bool, true, false, cond, not, ◌&&◌, ◌||◌, eqb, ltb, leb, ◌⊎◌, List, get_or, ℤ, pos, negsuc, ◌+ℤ◌, ◌≤ℤ◌, ◌<ℤ◌, Decides, sym, refl, ap, ◌∙◌, inl, inr, ⊎_elim, add-zero, arith}
use lib.Signed.{le_z, lt_z}
use Rattle.std.proofs.lemmas.Int.{ints}
use Rattle.std.proofs.lemmas.Bool.{lt-ltb, ltb-true, and_parts, le-leb, leb-true, leb-false, cond-true, both_ways, cases_lt}
use Rattle.std.proofs.lemmas.Bool.Decides.{nat_tests, Decides-and, Decides-or, Decides-not, Decides-ltb, Decides-at}
use Rattle.numbers.proofs.Searches.{any_decides_below}
use Rattle.market.specs.declared.entries.Service.{Service}
use Rattle.market.specs.declared.entries.Service.TheVariants.{Response, Balancing, Quick, Slow}
use Rattle.market.specs.declared.entries.Window.{Window}
use Rattle.market.specs.Market.{Covers}
use Rattle.market.specs.Services.{terms, service_of}
use Rattle.market.specs.Lines.{between, price_ok}
use Rattle.market.specs.Reading.{fitted, byte_of, small_of, price_of, field, is_quantity, quantities_of, limits_of, window_limits, buy_limits, basket_limits, extra_limits, Kind, a_window, a_buy, a_basket, a_child, a_substitute}
use Rattle.market.specs.Tests.{strays, unfit}
use Rattle.market.specs.Wrong.{CoversFields, Between, Within, Names, Disallowed}
use Rattle.market.proofs.Deciding.{dec_leb, dec_six, six}

pub dec_le : (a b : ℤ) → Decides (le_z a b) (a ≤ℤ b)
dec_le a b = ((λ h. grind (arith, ints)), (λ h. grind (arith, ints)))

pub dec_lt : (a b : ℤ) → Decides (lt_z a b) (a <ℤ b)
dec_lt a b = ((λ h. grind (arith, ints)), (λ h. grind (arith, ints)))

pub and_if : {P Q : Type 0} (x y : Bool) → Decides x P → (x ≡ true → Decides y Q) → Decides (x && y) (P × Q)
and_if true y d e = ((λ h. (d.0 refl, (e refl).0 h)), (λ h. (e refl).1 h.1))
and_if false y d e = ((λ h. grind arith), (λ h. d.1 h.0))

pub or_if : {P Q : Type 0} (x y : Bool) → Decides x P → (x ≡ false → Decides y Q) → Decides (x || y) (P ⊎ Q)
or_if true y d e = ((λ h. inl (d.0 refl)), (λ h. refl))
or_if false y d e = ((λ h. inr ((e refl).0 h)), (λ h. ⊎_elim (λ p. absurd (both_ways false refl (d.1 p))) (λ q. (e refl).1 q) h))

pub dec_between : (low high z : ℤ) → Decides (between low high z) (Between low high z)
dec_between low high z = Decides-and (le_z low z) (le_z z high) (dec_le low z) (dec_le z high)

sum_fits : (y z : ℤ) → between (pos 0) (pos 49) y ≡ true → between (pos 1) (pos 50) z ≡ true → Decides (leb (byte_of y + byte_of z) 50) ((y +ℤ z) ≤ℤ pos 50)
sum_fits (pos a) (pos b) h k =
    let p = and_parts (leb 0 a) (leb a 49) h in
    let q = and_parts (leb 1 b) (leb b 50) k in
    let s : byte_of (pos a) ≡ a = cond-true (ltb a 255) a 255 ((Decides-ltb a 255).1 (omega (arith, leb-true a 49 p.1))) in
    let t : byte_of (pos b) ≡ b = cond-true (ltb b 255) b 255 ((Decides-ltb b 255).1 (omega (arith, leb-true b 50 q.1))) in
    rw (s, t) (dec_le (pos (a + b)) (pos 50))
sum_fits (pos a) (negsuc b) h k = grind arith
sum_fits (negsuc a) z h k = grind arith

small_zero : (z : ℤ) → Decides (eqb (small_of z) 0) (z ≡ pos 0)
small_zero (pos n) = ((λ h. ap pos (grind (arith, nat_tests))), (λ h. grind (arith, nat_tests)))
small_zero (negsuc n) = ((λ h. grind (arith, nat_tests)), (λ h. grind (arith, nat_tests)))

dec_window : (zs : List ℤ) → Decides (window_limits zs) (Within a_window zs)
dec_window zs =
    and_if (between (pos 1) (pos 4) (field zs 0)) _ (dec_between (pos 1) (pos 4) (field zs 0))
    (λ _. and_if (between (pos 0) (pos 49) (field zs 1)) _ (dec_between (pos 0) (pos 49) (field zs 1))
    (λ h. and_if (between (pos 1) (pos 50) (field zs 2)) _ (dec_between (pos 1) (pos 50) (field zs 2))
    (λ k. sum_fits (field zs 1) (field zs 2) h k)))

dec_buy : (zs : List ℤ) → Decides (buy_limits zs) (Within a_buy zs)
dec_buy zs =
    Decides-and _ _ (dec_between (pos 1) (pos 9999) (field zs 2)) (Decides-and _ _ (dec_between (negsuc 99998) (pos 99999) (field zs 3))
    (Decides-and _ _ (dec_between (pos 0) (pos 64) (field zs 4)) (dec_between (pos 0) (pos 1) (field zs 5))))

dec_basket : (zs : List ℤ) → Decides (basket_limits zs) (Within a_basket zs)
dec_basket zs =
    Decides-and _ _ (dec_between (pos 1) (pos 65535) (field zs 0)) (Decides-and _ _ (dec_between (pos 0) (pos 255) (field zs 2))
    (Decides-and _ _ (dec_six (λ p. is_quantity (field zs (3 + p))) (λ p. Between (pos 0) (pos 999) (field zs (3 + p))) (λ p. dec_between (pos 0) (pos 999) (field zs (3 + p))))
    (dec_between (negsuc 99998) (pos 99999) (field zs 9))))

dec_extra : (zs : List ℤ) → Decides (extra_limits zs) (Within a_child zs)
dec_extra zs =
    Decides-and _ _ (dec_six (λ p. is_quantity (field zs (1 + p))) (λ p. Between (pos 0) (pos 999) (field zs (1 + p))) (λ p. dec_between (pos 0) (pos 999) (field zs (1 + p))))
    (Decides-and _ _ (Decides-not _ (dec_six (λ p. eqb (small_of (field zs (1 + p))) 0) (λ p. field zs (1 + p) ≡ pos 0) (λ p. small_zero (field zs (1 + p)))))
    (dec_between (negsuc 99998) (pos 99999) (field zs 7)))

pub dec_limits : (k : Kind) (zs : List ℤ) → Decides (limits_of k zs) (Within k zs)
dec_limits a_window zs = dec_window zs
dec_limits a_buy zs = dec_buy zs
dec_limits a_basket zs = dec_basket zs
dec_limits a_child zs = dec_extra zs
dec_limits a_substitute zs = dec_extra zs

pub same_pos : (a b : ℕ) → pos a ≡ pos b → a ≡ b
same_pos a b e = grind arith

pub names_byte : (z : ℤ) (n : ℕ) → n ≤ 255 → byte_of z < n → z ≡ pos (byte_of z)
names_byte (pos k) n h l = ap pos (grind (arith, nat_tests))
names_byte (negsuc k) n h l = absurd (omega arith)

pub byte_names : (z : ℤ) (k n : ℕ) → n ≤ 255 → z ≡ pos k → k < n → byte_of z ≡ k
byte_names z k n h e l = ap byte_of e ∙ cond-true (ltb k 255) k 255 ((Decides-ltb k 255).1 (omega arith))

pub dec_names : (z : ℤ) (n : ℕ) → n ≤ 255 → Decides (leb n (byte_of z)) (Names z n → ⊥)
dec_names z n h = (
  (λ t x. let l = leb-true n (byte_of z) t in omega (arith, byte_names z x.0 n h x.1 x.2)),
  (λ no_one. ⊎_elim (λ (l : byte_of z < n). absurd (no_one (byte_of z, names_byte z n h l, l))) (λ (l : n ≤ byte_of z). le-leb n (byte_of z) l) (cases_lt (byte_of z) n)),
)

-- an entry that names z, and of which f decides P at the number
pub dec_at : (z : ℤ) (n : ℕ) (f : ℕ → Bool) (P : ℕ → Type 0) → n ≤ 255 → ((k : ℕ) → Decides (f k) (P k)) → Decides (leb n (byte_of z) || f (byte_of z)) ((Names z n → ⊥) ⊎ ((k : ℕ) × (z ≡ pos k) × P k))
dec_at z n f P h each =
    or_if (leb n (byte_of z)) (f (byte_of z)) (dec_names z n h)
    (λ t.
    let e = names_byte z n h (leb-false n (byte_of z) t) in (
      (λ y. (byte_of z, e, (each (byte_of z)).0 y)),
      (λ x. ap f (same_pos (byte_of z) x.0 (sym e ∙ x.1)) ∙ (each x.0).1 x.2),
    ))

pub six_at : (zs : List ℤ) (i p : ℕ) → p < 6 → get_or (quantities_of zs i) p 0 ≡ small_of (field zs (i + p))
six_at zs i = six (λ p. get_or (quantities_of zs i) p 0 ≡ small_of (field zs (i + p))) (ap (λ k. small_of (field zs k)) (sym (add-zero i))) refl refl refl refl refl

dec_strays : (n : ℕ) (zs : List ℤ) (i : ℕ) → Decides (strays n (quantities_of zs i)) ((p : ℕ) × (p < 6) × ((n ≤ p) × (field zs (i + p) ≡ pos 0 → ⊥)))
dec_strays n zs i =
    any_decides_below 6 (λ p. leb n p && not (eqb (get_or (quantities_of zs i) p 0) 0)) (λ p. (n ≤ p) × (field zs (i + p) ≡ pos 0 → ⊥))
    (λ p l. Decides-and (leb n p) _ (dec_leb n p) (Decides-not _ (Decides-at _ _ (ap (λ q. eqb q 0) (six_at zs i p l)) (small_zero (field zs (i + p))))))

pub dec_unfit : (s : Service) (zs : List ℤ) (i j : ℕ) → between (negsuc 99998) (pos 99999) (field zs j) ≡ true → Decides (unfit s (quantities_of zs i) (price_of (field zs j))) (Disallowed s zs i j)
dec_unfit s zs i j h =
    Decides-or (strays (terms s).products (quantities_of zs i)) _ (dec_strays (terms s).products zs i)
    (Decides-at _ _ (ap (λ z. lt_z z (terms s).floor) (cond-true (between (negsuc 99998) (pos 99999) (field zs j)) (field zs j) (pos 0) h)) (dec_lt (field zs j) (terms s).floor))

pub dec_price : (z floor : ℤ) → between (negsuc 99998) (pos 99999) z ≡ true → Decides (lt_z (price_of z) floor) (z <ℤ floor)
dec_price z floor h = Decides-at _ _ (ap (λ y. lt_z y floor) (cond-true (between (negsuc 99998) (pos 99999) z) z (pos 0) h)) (dec_lt z floor)

pub products_few : (s : Service) → (terms s).products ≤ 255
products_few Response = omega arith
products_few Balancing = omega arith
products_few Quick = omega arith
products_few Slow = omega arith

-- a number within its limits is the one that is read
pub written : (low high top : ℕ) (z : ℤ) → high ≤ top → between (pos low) (pos high) z ≡ true → z ≡ pos (fitted top z)
written low high top (pos n) h e = ap pos (grind (arith, nat_tests))
written low high top (negsuc n) h e = grind arith

pub written_price : (z : ℤ) → price_ok z ≡ true → z ≡ price_of z
written_price z h = sym (cond-true (price_ok z) z (pos 0) h)

numbered : (n : ℕ) → 1 ≤ n → n ≤ 4 → (terms (service_of n)).number ≡ n
numbered zero h k = absurd (omega arith)
numbered (suc zero) h k = refl
numbered (suc (suc zero)) h k = refl
numbered (suc (suc (suc zero))) h k = refl
numbered (suc (suc (suc (suc zero)))) h k = refl
numbered (suc (suc (suc (suc (suc n))))) h k = absurd (omega arith)

pub service_written : (z : ℤ) → between (pos 1) (pos 4) z ≡ true → z ≡ pos (terms (service_of (byte_of z))).number
service_written (pos n) h =
    let p = and_parts (leb 1 n) (leb n 4) h in
    let s : byte_of (pos n) ≡ n = cond-true (ltb n 255) n 255 (lt-ltb n 255 (omega (arith, leb-true n 4 p.1))) in
    ap pos (sym (rw s (numbered n (leb-true 1 n p.0) (leb-true n 4 p.1))))
service_written (negsuc n) h = grind arith

pub permit_written : (z : ℤ) → between (pos 0) (pos 1) z ≡ true → z ≡ pos (cond (eqb (byte_of z) 1) 1 0)
permit_written (pos zero) h = refl
permit_written (pos (suc zero)) h = refl
permit_written (pos (suc (suc n))) h = grind (arith, nat_tests)
permit_written (negsuc n) h = grind arith

-- the half hours of a window, by its numbers and by its record's
pub covers_fields : (w : Window) (zs : List ℤ) → field zs 1 ≡ pos w.start → field zs 2 ≡ pos w.length → (h : ℕ) → Covers w h → CoversFields zs h
covers_fields w zs a b h c = rw (a, b) ((dec_le (pos w.start) (pos h)).0 (le-leb w.start h c.0), (dec_lt (pos h) (pos (w.start + w.length))).0 (lt-ltb h (w.start + w.length) c.1))

pub fields_cover : (w : Window) (zs : List ℤ) → field zs 1 ≡ pos w.start → field zs 2 ≡ pos w.length → (h : ℕ) → CoversFields zs h → Covers w h
fields_cover w zs a b h c =
    let d : (pos w.start ≤ℤ pos h) × (pos h <ℤ (pos w.start +ℤ pos w.length)) = rw (a, b) at c in
    (leb-true w.start h ((dec_le (pos w.start) (pos h)).1 d.0), ltb-true h (w.start + w.length) ((dec_lt (pos h) (pos (w.start + w.length))).1 d.1))
