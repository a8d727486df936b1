-- The fault that the tests find is the first that applies to the record.
use Rattle.std.proofs.Common.{◌≡◌, ℕ, ◌<◌, ◌≤◌, Bool, true, false, not, ◌||◌, leb, ◌⊎◌, List, length, ℤ, pos, negsuc, ◌<ℤ◌, Some, None, Ok, Err, Decides, Option, sym, refl, ap, ◌∙◌, subst, inl, inr, ⊎_elim, arith}
use lib.Signed.{lt_z}
use Rattle.std.proofs.lemmas.Bool.{and_parts, or_parts, leb-true, leb-false, both_ways}
use Rattle.std.proofs.lemmas.Bool.Decides.{Decides-like, Decides-or, not_from_Decides}
use Rattle.numbers.proofs.Searches.{any_decides_below}
use Rattle.records.specs.Read.{Content}
use Rattle.market.specs.declared.entries.Entry.{Entry}
use Rattle.market.specs.declared.entries.Basket.{Basket}
use Rattle.market.specs.declared.entries.Window.{Window}
use Rattle.market.specs.declared.faults.Fault.{Fault}
use Rattle.market.specs.declared.faults.Fault.TheVariants.{Record, OutsideLimits, Absent, TableFull, WindowOverlaps, LoopBroken}
use Rattle.market.specs.Lines.{between, all_zero}
use Rattle.market.specs.Market.{Market, window_at, basket_at, Covers, Share}
use Rattle.market.specs.Reading.{byte_of, price_of, field, are_quantities, quantities_of, window_of, basket_of, limits_of, entry_of, limits, entry_in, read_entry, kind_of, Kind, a_window, a_buy, a_basket, a_child, a_substitute}
use Rattle.market.specs.Services.{terms}
use Rattle.market.specs.Tests.{clash, breaks, unfit, absent, full, overlapping, breaking, first, fault}
use Rattle.market.specs.Wrong.{CoversFields, Names, Disallowed, Missing, Full, Overlaps, Breaks, Beside, Has, number, Faulty}
use Rattle.market.proofs.Books.{Lined}
use Rattle.market.proofs.Deciding.{dec_leb, same_service, dec_clash, dec_breaks}
use Rattle.market.proofs.Fields.{dec_limits, dec_names, names_byte, same_pos, dec_at, dec_unfit, dec_price, products_few, written, service_written, covers_fields, fields_cover}
use Rattle.market.proofs.Fitting.{fits, read_ok, read_err}
use Rattle.market.proofs.Pushing.{admitted}

never : Decides false ⊥
never = ((λ h. both_ways false refl h), (λ x. absurd x))

module _ (m : Market) (few_windows : length m.windows ≤ 255) (few_baskets : length m.baskets ≤ 255) (zs : List ℤ) where
  dec_missing_extra : limits_of a_child zs ≡ true → Decides (absent m (entry_of a_child zs)) (Missing m a_child zs)
  dec_missing_extra h =
      let price = (and_parts (not (all_zero (quantities_of zs 1))) _ (and_parts (are_quantities zs 1) _ h).1).1 in
      dec_at (field zs 0) (length m.baskets) (λ b. unfit (window_at m (basket_at m b).window).service (quantities_of zs 1) (price_of (field zs 7))) (λ b. Disallowed (window_at m (basket_at m b).window).service zs 1 7) few_baskets
      (λ b. dec_unfit (window_at m (basket_at m b).window).service zs 1 7 price)

  pub dec_missing : (k : Kind) → limits_of k zs ≡ true → Decides (absent m (entry_of k zs)) (Missing m k zs)
  dec_missing a_window h = never
  dec_missing a_buy h =
      let price = (and_parts (between (negsuc 99998) (pos 99999) (field zs 3)) _ (and_parts (between (pos 1) (pos 9999) (field zs 2)) _ h).1).0 in
      dec_at (field zs 0) (length m.windows) (λ w. leb (terms (window_at m w).service).products (byte_of (field zs 1)) || lt_z (price_of (field zs 3)) (terms (window_at m w).service).floor)
      (λ w. (Names (field zs 1) (terms (window_at m w).service).products → ⊥) ⊎ (field zs 3 <ℤ (terms (window_at m w).service).floor)) few_windows
      (λ w. Decides-or _ _ (dec_names (field zs 1) (terms (window_at m w).service).products (products_few (window_at m w).service)) (dec_price (field zs 3) (terms (window_at m w).service).floor price))
  dec_missing a_basket h =
      let price = (and_parts (are_quantities zs 3) _ (and_parts (between (pos 0) (pos 255) (field zs 2)) _ (and_parts (between (pos 1) (pos 65535) (field zs 0)) _ h).1).1).1 in
      dec_at (field zs 1) (length m.windows) (λ w. unfit (window_at m w).service (quantities_of zs 3) (price_of (field zs 9))) (λ w. Disallowed (window_at m w).service zs 3 9) few_windows
      (λ w. dec_unfit (window_at m w).service zs 3 9 price)
  dec_missing a_child h = dec_missing_extra h
  dec_missing a_substitute h = dec_missing_extra h

  dec_full : (k : Kind) → Decides (full m (entry_of k zs)) (Full m k)
  dec_full a_window = dec_leb 32 (length m.windows)
  dec_full a_buy = dec_leb 64 (length m.buys)
  dec_full a_basket = dec_leb 96 (length m.baskets)
  dec_full a_child = dec_leb 96 (length m.extras)
  dec_full a_substitute = dec_leb 96 (length m.extras)

module _ (m : Market) (lined : Lined m) (zs : List ℤ) where
  long : (w : ℕ) → w < length m.windows → 1 ≤ (window_at m w).length
  long w l = leb-true _ _ (and_parts (leb 1 (window_at m w).length) _ (lined.spans w l)).0

  -- a window of the market against the record of another
  dec_beside_window : (v : Window) → 1 ≤ v.length → limits_of a_window zs ≡ true → Decides (clash v (window_of zs)) ((pos (terms v.service).number ≡ field zs 0) × ((h : ℕ) × Covers v h × CoversFields zs h))
  dec_beside_window v some h =
      let w = window_of zs in
      let p = and_parts (between (pos 1) (pos 4) (field zs 0)) _ h in
      let q = and_parts (between (pos 0) (pos 49) (field zs 1)) _ p.1 in
      let r = and_parts (between (pos 1) (pos 50) (field zs 2)) _ q.1 in
      let is = service_written (field zs 0) p.0 in
      let starts = written 0 49 255 (field zs 1) (omega arith) q.0 in
      let lasts = written 1 50 255 (field zs 2) (omega arith) r.0 in
      Decides-like _
      (λ x. (ap (λ s. pos (terms s).number) x.0 ∙ sym is, (x.1.0, x.1.1, covers_fields w zs starts lasts x.1.0 x.1.2)))
      (λ x. (same_service v.service w.service (same_pos _ _ (x.0 ∙ is)), (x.1.0, x.1.1, fields_cover w zs starts lasts x.1.0 x.1.2)))
      (dec_clash v w some (leb-true _ _ (and_parts (leb 1 w.length) _ (fits a_window zs h)).0))

  dec_overlaps : (k : Kind) → limits_of k zs ≡ true → Decides (overlapping m (entry_of k zs)) (Overlaps m k zs)
  dec_overlaps a_window h =
      any_decides_below (length m.windows) (λ i. clash (window_at m i) (window_of zs)) (λ i. (pos (terms (window_at m i).service).number ≡ field zs 0) × ((h : ℕ) × Covers (window_at m i) h × CoversFields zs h))
      (λ i l. dec_beside_window (window_at m i) (long i l) h)
  dec_overlaps a_buy h = never
  dec_overlaps a_basket h = never
  dec_overlaps a_child h = never
  dec_overlaps a_substitute h = never

  -- a basket of the market against the record of another
  dec_beside : (a : Basket) → a.window < length m.windows → limits_of a_basket zs ≡ true → absent m (entry_of a_basket zs) ≡ false → Decides (breaks m.windows a (basket_of zs)) ((field zs 2 ≡ pos 0 → ⊥) × ((pos a.ring ≡ field zs 2) × Beside m a zs))
  dec_beside a there h n =
      let b = basket_of zs in
      let p = and_parts (between (pos 1) (pos 65535) (field zs 0)) _ h in
      let q = and_parts (between (pos 0) (pos 255) (field zs 2)) _ p.1 in
      let x = or_parts (leb (length m.windows) (byte_of (field zs 1))) _ n in
      let here = leb-false _ _ x.0 in
      let unit = written 1 65535 65535 (field zs 0) (omega arith) p.0 in
      let window = names_byte (field zs 1) (length m.windows) (omega (arith, lined.few_windows)) here in
      let ring = written 0 255 255 (field zs 2) (omega arith) q.0 in
      Decides-like _
      (λ y. (
        (λ z. y.0 (same_pos _ _ (sym ring ∙ z))),
        (
          ap pos y.1.0 ∙ sym ring,
          ⊎_elim (λ other. inl (λ e. other (same_pos _ _ (e ∙ unit)))) (λ share. inr (b.window, window, share)) y.1.1,
        ),
      ))
      (λ y. (
        (λ z. y.0 (ring ∙ ap pos z)),
        (
          same_pos _ _ (y.1.0 ∙ ring),
          ⊎_elim (λ other. inl (λ e. other (ap pos e ∙ sym unit)))
              (λ share. inr (subst (λ (w : ℕ). Share (window_at m a.window) (window_at m w)) (same_pos share.0 b.window (sym share.1 ∙ window)) share.2))
              y.1.1,
        ),
      ))
      (dec_breaks m.windows a b (long a.window there) (long b.window here))

  dec_broken : (k : Kind) → limits_of k zs ≡ true → absent m (entry_of k zs) ≡ false → Decides (breaking m (entry_of k zs)) (Breaks m k zs)
  dec_broken a_window h n = never
  dec_broken a_buy h n = never
  dec_broken a_basket h n =
      any_decides_below (length m.baskets) (λ i. breaks m.windows (basket_at m i) (basket_of zs)) (λ i. (field zs 2 ≡ pos 0 → ⊥) × ((pos (basket_at m i).ring ≡ field zs 2) × Beside m (basket_at m i) zs))
      (λ i l. dec_beside (basket_at m i) (leb-false _ _ (or_parts (leb (length m.windows) (basket_at m i).window) _ (lined.placed i l)).0) h n)
  dec_broken a_child h n = never
  dec_broken a_substitute h n = never

-- none of a lower number
below : (m : Market) (k : Kind) (zs : List ℤ) (n : ℕ) → (6 < n → Has m k zs OutsideLimits → ⊥) → (7 < n → Has m k zs Absent → ⊥) → (8 < n → Has m k zs TableFull → ⊥) → (9 < n → Has m k zs WindowOverlaps → ⊥) → (10 < n → Has m k zs LoopBroken → ⊥) → (g : Fault) → number g < n → Has m k zs g → ⊥
below m k zs n a b c d e (Record f) h x = x
below m k zs n a b c d e OutsideLimits h x = a h x
below m k zs n a b c d e Absent h x = b h x
below m k zs n a b c d e TableFull h x = c h x
below m k zs n a b c d e WindowOverlaps h x = d h x
below m k zs n a b c d e LoopBroken h x = e h x

-- what the tests say
abbrev Says : Market → Kind → List ℤ → Option Fault → Type 0
Says m k zs None = Unit {0}
Says m k zs (Some f) = Has m k zs f × ((g : Fault) → number g < number f → Has m k zs g → ⊥)

says : (m : Market) (k : Kind) (zs : List ℤ) (b7 b8 b9 b10 : Bool) → (Has m k zs OutsideLimits → ⊥) → Decides b7 (Missing m k zs) → Decides b8 (Full m k) → Decides b9 (Overlaps m k zs) → (b7 ≡ false → Decides b10 (Breaks m k zs))
    → Says m k zs (first b7 Absent (first b8 TableFull (first b9 WindowOverlaps (first b10 LoopBroken None))))
says m k zs true b8 b9 b10 d6 d7 d8 d9 d10 =
    (d7.0 refl, below m k zs 7 (λ _. d6) (λ h. absurd (omega arith)) (λ h. absurd (omega arith)) (λ h. absurd (omega arith)) (λ h. absurd (omega arith)))
says m k zs false true b9 b10 d6 d7 d8 d9 d10 =
    (d8.0 refl, below m k zs 8 (λ _. d6) (λ _. not_from_Decides false d7 refl) (λ h. absurd (omega arith)) (λ h. absurd (omega arith)) (λ h. absurd (omega arith)))
says m k zs false false true b10 d6 d7 d8 d9 d10 =
    (d9.0 refl, below m k zs 9 (λ _. d6) (λ _. not_from_Decides false d7 refl) (λ _. not_from_Decides false d8 refl) (λ h. absurd (omega arith)) (λ h. absurd (omega arith)))
says m k zs false false false true d6 d7 d8 d9 d10 =
    ((d10 refl).0 refl, below m k zs 10 (λ _. d6) (λ _. not_from_Decides false d7 refl) (λ _. not_from_Decides false d8 refl) (λ _. not_from_Decides false d9 refl) (λ h. absurd (omega arith)))
says m k zs false false false false d6 d7 d8 d9 d10 = tt

judged_says : (m : Market) → Lined m → (k : Kind) (zs : List ℤ) → limits_of k zs ≡ true → Says m k zs (fault m (entry_of k zs))
judged_says m lined k zs h =
    says m k zs (absent m (entry_of k zs)) (full m (entry_of k zs)) (overlapping m (entry_of k zs)) (breaking m (entry_of k zs))
    (λ out. out ((dec_limits k zs).0 h)) (dec_missing m (omega (arith, lined.few_windows)) (omega (arith, lined.few_baskets)) zs k h) (dec_full m (omega (arith, lined.few_windows)) (omega (arith, lined.few_baskets)) zs k) (dec_overlaps m lined zs k h) (dec_broken m lined zs k h)

pub faulty_outside : (m : Market) (e : Content) → limits e ≡ false → Faulty m e OutsideLimits
faulty_outside m e h =
    let k = kind_of e.kind in (
      not_from_Decides (limits e) (dec_limits k e.fields) h,
      below m k e.fields 6 (λ l. absurd (omega arith)) (λ l. absurd (omega arith)) (λ l. absurd (omega arith)) (λ l. absurd (omega arith)) (λ l. absurd (omega arith)),
    )

pub faulty_some : (m : Market) → Lined m → (e : Content) (f : Fault) → limits e ≡ true → fault m (entry_in e) ≡ Some f → Faulty m e f
faulty_some m lined e f h is = rw is at (judged_says m lined (kind_of e.kind) e.fields h)

-- what a reading and the tests tell of a record
module _ (m : Market) (lined : Lined m) (e : Content) where
  pub took_outside : (f : Fault) → Err f ≡ read_entry e → Faulty m e f
  took_outside f h =
      let p = read_err e f (sym h) in
      subst (λ (g : Fault). Faulty m e g) p.1 (faulty_outside m e p.0)

  pub took_faulty : (i : Entry) (f : Fault) → Ok i ≡ read_entry e → Some f ≡ fault m i → Faulty m e f
  took_faulty i f h k =
      let p = read_ok e i (sym h) in
      faulty_some m lined e f p.0 (ap (fault m) p.1 ∙ sym k)

pub took_admits : (m : Market) (e : Content) (i : Entry) → Ok i ≡ read_entry e → None ≡ fault m i → (limits e ≡ true) × (absent m (entry_in e) ≡ false) × (i ≡ entry_in e)
took_admits m e i h k =
    let p = read_ok e i (sym h) in
    (p.0, (admitted m (entry_in e) (ap (fault m) p.1 ∙ sym k)).there, sym p.1)
