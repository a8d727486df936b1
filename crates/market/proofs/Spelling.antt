-- The entry that a record spells is written as that record.
use Rattle.std.proofs.Common.{◌≡◌, ℕ, zero, suc, ◌+◌, ◌≤◌, true, false, not, leb, List, [], ◌∷◌, length, take, drop, ℤ, pos, Some, Option, sym, refl, ap, ◌∙◌, add-one, arith}
use Rattle.std.proofs.lemmas.List.{drop_more}
use Rattle.std.proofs.lemmas.Bool.{and_parts, or_parts, leb-false}
use Rattle.records.specs.Read.{Content, field_count}
use Rattle.records.specs.Write.{encode}
use Rattle.market.specs.Files.{kinds, kind_in, spelt}
use Rattle.market.specs.Lines.{between, price_ok, all_zero}
use Rattle.market.specs.Market.{Market, window_at}
use Rattle.market.specs.Reading.{byte_of, small_of, field, is_quantity, are_quantities, quantities_of, limits, limits_of, entry_of, entry_in, kind_of, Kind, a_window, a_buy, a_basket, a_child, a_substitute}
use Rattle.market.specs.Services.{terms}
use Rattle.market.specs.Tests.{absent}
use Rattle.market.proofs.Fields.{names_byte, products_few, written, written_price, service_written, permit_written}

-- the number of a kind, and how many fields it has
abbrev number_of : Kind → ℕ
number_of a_window = 1
number_of a_buy = 2
number_of a_basket = 3
number_of a_child = 4
number_of a_substitute = 5

abbrev count_of : Kind → ℕ
count_of a_window = 3
count_of a_buy = 6
count_of a_basket = 10
count_of a_child = 8
count_of a_substitute = 8

inside : (a b : ℕ) → ◌≡◌ {A = Option ℕ} (Some a) (Some b) → a ≡ b
inside a b e = grind arith

-- a record of one of the kinds has its number and its count of fields
known : (k count : ℕ) → field_count kinds k ≡ Some count → (number_of (kind_of k) ≡ k) × (count_of (kind_of k) ≡ count)
known zero count e = grind arith
known (suc zero) count e = (refl, inside 3 count e)
known (suc (suc zero)) count e = (refl, inside 6 count e)
known (suc (suc (suc zero))) count e = (refl, inside 10 count e)
known (suc (suc (suc (suc zero)))) count e = (refl, inside 8 count e)
known (suc (suc (suc (suc (suc zero))))) count e = (refl, inside 8 count e)
known (suc (suc (suc (suc (suc (suc k)))))) count e = grind arith

count_few : (k : Kind) → count_of k ≤ 16
count_few a_window = omega arith
count_few a_buy = omega arith
count_few a_basket = omega arith
count_few a_child = omega arith
count_few a_substitute = omega arith

-- n fields from the field k on
abbrev firsts : ℕ → ℕ → List ℤ → List ℤ
firsts zero k zs = []
firsts (suc n) k zs = field zs k ∷ firsts n (suc k) zs

take_firsts : (n k : ℕ) (zs : List ℤ) → n + k ≤ length zs → take n (drop k zs) ≡ firsts n k zs
take_firsts zero k zs h = refl
take_firsts (suc n) k zs h =
    ap (take (suc n)) (drop_more zs k (pos 0) (omega arith) ∙ ap (λ j. field zs k ∷ drop j zs) (add-one k))
    ∙ ap (λ l. field zs k ∷ l) (take_firsts n (suc k) zs (omega arith))

kind_of_entry : (k : Kind) (zs : List ℤ) → kind_in (entry_of k zs) ≡ number_of k
kind_of_entry a_window zs = refl
kind_of_entry a_buy zs = refl
kind_of_entry a_basket zs = refl
kind_of_entry a_child zs = refl
kind_of_entry a_substitute zs = refl

quantity_written : (z : ℤ) → is_quantity z ≡ true → z ≡ pos (small_of z)
quantity_written z h = written 0 999 65535 z (omega arith) h

extra_written : (m : Market) → length m.baskets ≤ 255 → (k : Kind) (zs : List ℤ) → limits_of a_child zs ≡ true → absent m (entry_of a_child zs) ≡ false → firsts 8 0 zs ≡ spelt (entry_of a_child zs)
extra_written m fb k zs h a =
    let p = and_parts (are_quantities zs 1) _ h in
    let q = and_parts (not (all_zero (quantities_of zs 1))) _ p.1 in
    let x = or_parts (leb (length m.baskets) (byte_of (field zs 0))) _ a in
    let w0 = names_byte (field zs 0) (length m.baskets) fb (leb-false _ _ x.0) in
    let a0 = and_parts (is_quantity (field zs 1)) _ p.0 in
    let a1 = and_parts (is_quantity (field zs 2)) _ a0.1 in
    let a2 = and_parts (is_quantity (field zs 3)) _ a1.1 in
    let a3 = and_parts (is_quantity (field zs 4)) _ a2.1 in
    let a4 = and_parts (is_quantity (field zs 5)) _ a3.1 in
    let q0 = quantity_written (field zs 1) a0.0 in
    let q1 = quantity_written (field zs 2) a1.0 in
    let q2 = quantity_written (field zs 3) a2.0 in
    let q3 = quantity_written (field zs 4) a3.0 in
    let q4 = quantity_written (field zs 5) a4.0 in
    let q5 = quantity_written (field zs 6) a4.1 in
    let pr = written_price (field zs 7) q.1 in
    λ i. w0 i ∷ q0 i ∷ q1 i ∷ q2 i ∷ q3 i ∷ q4 i ∷ q5 i ∷ pr i ∷ []

-- the fields of a record that a book takes are those of the entry that it spells
spelled : (m : Market) → length m.windows ≤ 255 → length m.baskets ≤ 255 → (k : Kind) (zs : List ℤ) → limits_of k zs ≡ true → absent m (entry_of k zs) ≡ false → firsts (count_of k) 0 zs ≡ spelt (entry_of k zs)
spelled m fw fb a_window zs h a =
    let p = and_parts (between (pos 1) (pos 4) (field zs 0)) _ h in
    let q = and_parts (between (pos 0) (pos 49) (field zs 1)) _ p.1 in
    let r = and_parts (between (pos 1) (pos 50) (field zs 2)) _ q.1 in
    let s = service_written (field zs 0) p.0 in
    let t = written 0 49 255 (field zs 1) (omega arith) q.0 in
    let u = written 1 50 255 (field zs 2) (omega arith) r.0 in
    λ i. s i ∷ t i ∷ u i ∷ []
spelled m fw fb a_buy zs h a =
    let p = and_parts (between (pos 1) (pos 9999) (field zs 2)) _ h in
    let q = and_parts (price_ok (field zs 3)) _ p.1 in
    let r = and_parts (between (pos 0) (pos 64) (field zs 4)) _ q.1 in
    let s = (window_at m (byte_of (field zs 0))).service in
    let x = or_parts (leb (length m.windows) (byte_of (field zs 0))) _ a in
    let y = or_parts (leb (terms s).products (byte_of (field zs 1))) _ x.1 in
    let w0 = names_byte (field zs 0) (length m.windows) fw (leb-false _ _ x.0) in
    let w1 = names_byte (field zs 1) (terms s).products (products_few s) (leb-false _ _ y.0) in
    let w2 = written 1 9999 65535 (field zs 2) (omega arith) p.0 in
    let w3 = written_price (field zs 3) q.0 in
    let w4 = written 0 64 255 (field zs 4) (omega arith) r.0 in
    let w5 = permit_written (field zs 5) r.1 in
    λ i. w0 i ∷ w1 i ∷ w2 i ∷ w3 i ∷ w4 i ∷ w5 i ∷ []
spelled m fw fb a_basket zs h a =
    let p = and_parts (between (pos 1) (pos 65535) (field zs 0)) _ h in
    let q = and_parts (between (pos 0) (pos 255) (field zs 2)) _ p.1 in
    let r = and_parts (are_quantities zs 3) _ q.1 in
    let x = or_parts (leb (length m.windows) (byte_of (field zs 1))) _ a in
    let w0 = written 1 65535 65535 (field zs 0) (omega arith) p.0 in
    let w1 = names_byte (field zs 1) (length m.windows) fw (leb-false _ _ x.0) in
    let w2 = written 0 255 255 (field zs 2) (omega arith) q.0 in
    let a0 = and_parts (is_quantity (field zs 3)) _ r.0 in
    let a1 = and_parts (is_quantity (field zs 4)) _ a0.1 in
    let a2 = and_parts (is_quantity (field zs 5)) _ a1.1 in
    let a3 = and_parts (is_quantity (field zs 6)) _ a2.1 in
    let a4 = and_parts (is_quantity (field zs 7)) _ a3.1 in
    let q0 = quantity_written (field zs 3) a0.0 in
    let q1 = quantity_written (field zs 4) a1.0 in
    let q2 = quantity_written (field zs 5) a2.0 in
    let q3 = quantity_written (field zs 6) a3.0 in
    let q4 = quantity_written (field zs 7) a4.0 in
    let q5 = quantity_written (field zs 8) a4.1 in
    let pr = written_price (field zs 9) r.1 in
    λ i. w0 i ∷ w1 i ∷ w2 i ∷ q0 i ∷ q1 i ∷ q2 i ∷ q3 i ∷ q4 i ∷ q5 i ∷ pr i ∷ []
spelled m fw fb a_child zs h a = extra_written m fb a_child zs h a
spelled m fw fb a_substitute zs h a = extra_written m fb a_substitute zs h a

-- the bytes of a record that a book takes are those of the entry
pub as_written : (m : Market) → length m.windows ≤ 255 → length m.baskets ≤ 255 → (c : Content) (count : ℕ) → field_count kinds c.kind ≡ Some count → length c.fields ≡ 16 → limits c ≡ true → absent m (entry_in c) ≡ false
    → encode c.kind (take count c.fields) ≡ encode (kind_in (entry_in c)) (spelt (entry_in c))
as_written m fw fb c count is long h a =
    let k = kind_of c.kind in
    let zs = c.fields in
    let n = known c.kind count is in
    let own : take count zs ≡ spelt (entry_in c) = ap (λ j. take j zs) (sym n.1) ∙ take_firsts (count_of k) 0 zs (omega (arith, long, count_few k)) ∙ spelled m fw fb k zs h a in
    let kind : c.kind ≡ kind_in (entry_in c) = sym n.0 ∙ sym (kind_of_entry k zs) in
    λ i. encode (kind i) (own i)
