-- A record is read exactly where its encoding stands, and encodings are unique. Assumes nothing.
use Rattle.std.proofs.Common.{◌≡◌, ℕ, zero, suc, ◌+◌, ◌-◌, ◌*◌, ◌/◌, ◌%◌, ◌^◌, Bool, true, false, cond, eqb, ltb, List, [], ◌∷◌, ◌++◌, length, take, drop, replicate, pos, Some, Ok, Err, Result, sym, refl, ap, ◌∙◌, subst, arith, take-append-drop, length-take, length-take-le, w32, w64, SFits, to_z}
use borrow.Author.Gap.{read_sfits}
use lib.Count.{ones}
use Rattle.std.proofs.lemmas.List.{drop_at}
use Rattle.std.proofs.lemmas.Bool.{ltb-false}
use Rattle.std.specs.List.{AllByRecursion}
use Rattle.records.specs.declared.Fault.{Fault}
use Rattle.records.specs.declared.Kind.{Kind}
use Rattle.records.specs.Bytes.{big_endian, is_narrow, width, value}
use Rattle.records.specs.Read.{field_count, fields, Content, body, read}
use Rattle.records.specs.Write.{Byte, encode, padded, written, FitsKind, Spelt, Stands, Unique}
use Rattle.records.proofs.Bodies.{inside, body_passed, read_fits}
use Rattle.records.proofs.Places.{fields_length}
use Rattle.records.proofs.Rewriting.{all_take, begins}
use Rattle.records.proofs.Tails.{fields_tail, encode_more, padded_more}
use Rattle.records.proofs.Writing.{reads_back}

-- what is read has room where it is written
fits_at : (short narrow : Bool) (x y : ℕ) → SFits (cond narrow w32 w64) (cond short (pos 0) (cond narrow (to_z w32 x) (to_z w64 y)))
fits_at true true x y = record { sfits = omega arith }
fits_at true false x y = record { sfits = omega arith }
fits_at false true x y = read_sfits w32 x
fits_at false false x y = read_sfits w64 y

fields_fit : (kind n map : ℕ) (bs : List ℕ) → AllByRecursion (FitsKind kind) (fields kind n map bs)
unfolding fields
fields_fit kind zero map bs = tt
fields_fit kind (suc n) map bs =
    elim (eqb (map % 2) 0) as (λ b. AllByRecursion (FitsKind kind) (cond b (pos 0 ∷ fields kind n (map / 2) bs) (value kind bs ∷ fields kind n (map / 2) (drop (width kind) bs)))) [
      | true ↦ (fits_at true (is_narrow kind) 0 0, fields_fit kind n (map / 2) bs)
      | false ↦ (fits_at (ltb (length bs) (width kind)) (is_narrow kind) (big_endian 0 (take 4 bs)) (big_endian 0 (take 8 bs)), fields_fit kind n (map / 2) (drop (width kind) bs))
    ]

-- a record's own fields: those past its kind's are 0
pub record Own (kinds : List Kind) (c : Content) : Type 0 where
  pub count : ℕ
  pub counted : field_count kinds c.kind ≡ Some count
  pub long : length c.fields ≡ 16
  pub parts : c.fields ≡ take count c.fields ++ replicate (16 - count) (pos 0)
  pub fit : AllByRecursion (FitsKind c.kind) c.fields

body_own : (kinds : List Kind) (kind map : ℕ) (rest : List ℕ) (c : Content) → body kind map rest (field_count kinds kind) ≡ Ok c → Own kinds c
body_own kinds kind map rest c h =
    let by = body_passed kind map rest (field_count kinds kind) c h in
    let count = by.count in
    let held = take (width kind * ones map) rest in
    let zs = fields kind 16 map held in
    let none : map / 2 ^ count ≡ 0 = omega (arith, ltb-false 0 (map / 2 ^ count) by.none_beyond) in
    subst (Own kinds) by.is
    (record {
      count = count;
      counted = by.counted;
      long = fields_length kind 16 map held;
      parts = sym (take-append-drop count zs) ∙ ap (λ l. take count zs ++ l) (fields_tail count 16 kind map held none);
      fit = fields_fit kind 16 map held;
    })

pub read_own : (kinds : List Kind) (bs : List ℕ) (c : Content) → read kinds bs ≡ Ok c → Own kinds c
read_own kinds [] c h = absurd cc
read_own kinds (x ∷ []) c h = absurd cc
read_own kinds (x ∷ y ∷ []) c h = absurd cc
read_own kinds (kind ∷ high ∷ low ∷ rest) c h = body_own kinds kind (high * 256 + low) rest c h

pub spelt : (kinds : List Kind) (bs : List ℕ) (c : Content) → AllByRecursion Byte bs → read kinds bs ≡ Ok c → Spelt kinds bs c
spelt kinds bs c all h =
    let own = read_own kinds bs c h in
    let zs = c.fields in
    let few = take own.count zs in
    let short = length-take own.count zs in
    let same : encode c.kind zs ≡ encode c.kind few = ap (encode c.kind) own.parts ∙ encode_more c.kind few (16 - own.count) in
    let begin : take c.size bs ≡ encode c.kind few = begins kinds bs c all h ∙ same in
    let size : c.size ≡ length (encode c.kind few) = sym (length-take-le c.size bs (read_fits kinds bs c h).1) ∙ ap length begin in
    let whole : zs ≡ padded 16 few = own.parts ∙ ap (λ k. few ++ replicate k (pos 0)) (omega (arith, short, own.long)) ∙ sym (padded_more 16 few (omega (arith, short, own.long))) in
    record {
      fields = few;
      rest = drop c.size bs;
      writable = record { count = own.count; counted = own.counted; few = omega (arith, short); mapped = omega (arith, short, own.long); fit = all_take (FitsKind c.kind) own.count zs own.fit };
      bytes = sym (take-append-drop c.size bs) ∙ ap (λ l. l ++ drop c.size bs) begin;
      says = λ i. record { kind = c.kind; fields = whole i; size = size i };
    }

read_spelt : (kinds : List Kind) (bs : List ℕ) (c : Content) → Spelt kinds bs c → read kinds bs ≡ Ok c
read_spelt kinds bs c s = ap (read kinds) s.bytes ∙ reads_back kinds c.kind s.fields s.rest s.writable ∙ ap Ok (sym s.says)

pub unspelt : (kinds : List Kind) (bs : List ℕ) (e : Fault) → read kinds bs ≡ Err e → (c : Content) → Spelt kinds bs c → ⊥
unspelt kinds bs e h c s =
    let both : ◌≡◌ {A = Result Content Fault} (Err e) (Ok c) = sym h ∙ read_spelt kinds bs c s in
    absurd cc

pub stands : Stands
stands kinds bs c all = (spelt kinds bs c all, read_spelt kinds bs c)

pub unique : Unique
unique kinds j k ys zs more rest v w e =
    let same : written j ys ≡ written k zs = inside _ _ (sym (reads_back kinds j ys more v) ∙ ap (read kinds) e ∙ reads_back kinds k zs rest w) in (
      ap (λ c. c.kind) same,
      ap (λ c. c.fields) same,
      sym (drop_at (encode j ys) more _ refl) ∙ (λ i. drop (same i).size (e i)) ∙ drop_at (encode k zs) rest _ refl,
    )
