-- What the head of some bytes is, by their length. Assumes nothing.
use Rattle.std.proofs.Common.{◌≡◌, ℕ, suc, ◌+◌, ◌-◌, ◌*◌, ◌/◌, ◌^◌, ◌≤◌, Bool, true, false, cond, ltb, List, [], ◌∷◌, length, get_or, take, drop, Some, None, Ok, Err, Option, Result, sym, refl, ap, ◌∙◌, subst, arith, length-take-le, take_all}
use lib.Count.{ones}
use Rattle.std.proofs.lemmas.Bool.{le-ltb, ltb-false, cond-false}
use Rattle.records.specs.declared.Fault.{Fault}
use Rattle.records.specs.declared.Fault.TheVariants.{CutShort, BitBeyond, ZeroField}
use Rattle.records.specs.declared.Kind.{Kind}
use Rattle.records.specs.Bytes.{width}
use Rattle.records.specs.Read.{read, body, field_count, has_zero, values, fields, Content}

-- `rest` as the slice pattern has it
pub read_long : (kinds : List Kind) (bs : List ℕ) → 3 ≤ length bs → read kinds bs ≡ body (get_or bs 0 0) (get_or bs 1 0 * 256 + get_or bs 2 0) (take (length bs - 3) (drop 3 bs)) (field_count kinds (get_or bs 0 0))
read_long kinds [] h = absurd (omega arith)
read_long kinds (a ∷ []) h = absurd (omega arith)
read_long kinds (a ∷ b ∷ []) h = absurd (omega arith)
read_long kinds (a ∷ b ∷ c ∷ bs) h = ap (λ t. body a (b * 256 + c) t (field_count kinds a)) (sym (take_all _ bs (omega arith)))

pub read_some : (kinds : List Kind) (bs : List ℕ) (map count : ℕ) → 3 ≤ length bs → map ≡ get_or bs 1 0 * 256 + get_or bs 2 0 → Some count ≡ field_count kinds (get_or bs 0 0) → read kinds bs ≡ body (get_or bs 0 0) map (take (length bs - 3) (drop 3 bs)) (Some count)
read_some kinds bs map count long e k = read_long kinds bs long ∙ (λ i. body (get_or bs 0 0) (sym e i) (take (length bs - 3) (drop 3 bs)) (sym k i))

-- the tests that are passed, in their order: `held` is what the code cuts off as the fields
module _ (kind map count : ℕ) (rest held : List ℕ) (long : width kind * ones map ≤ length rest) (inside : ltb 0 (map / 2 ^ count) ≡ false) (cut : held ≡ take (width kind * ones map) rest) where
  abbrev last : List ℕ → Bool → Result Content Fault
  last bs b = cond b (Err ZeroField) (Ok (record { kind = kind; fields = fields kind 16 map bs; size = 3 + width kind * ones map }))

  passed : body kind map rest (Some count) ≡ last held (has_zero (values kind (ones map) held))
  passed =
      cond-false _ (Err CutShort) _ (le-ltb (length rest) (width kind * ones map) long)
      ∙ cond-false _ (Err BitBeyond) _ inside
      ∙ ap (λ bs. last bs (has_zero (values kind (ones map) bs))) (sym cut)

  pub held_length : length held ≡ width kind * ones map
  held_length = ap length cut ∙ length-take-le (width kind * ones map) rest long

  pub body_ok : has_zero (values kind (ones map) held) ≡ false → body kind map rest (Some count) ≡ Ok (record { kind = kind; fields = fields kind 16 map held; size = 3 + length held })
  body_ok e = passed ∙ ap (last held) e ∙ ap (λ n. Ok (record { kind = kind; fields = fields kind 16 map held; size = 3 + n })) (sym held_length)

-- a record that is read has passed every test
pub inside : (x y : Content) → ◌≡◌ {A = Result Content Fault} (Ok x) (Ok y) → x ≡ y
inside x y h = cc

pub passed_test : (b : Bool) (x : Fault) (r : Result Content Fault) (c : Content) → cond b (Err x) r ≡ Ok c → (b ≡ false) × (r ≡ Ok c)
passed_test true x r c h = absurd cc
passed_test false x r c h = (refl, h)

pub record Passed (kind map : ℕ) (rest : List ℕ) (o : Option ℕ) (c : Content) : Type 0 where
  pub count : ℕ
  pub counted : o ≡ Some count
  pub long : width kind * ones map ≤ length rest
  pub none_beyond : ltb 0 (map / 2 ^ count) ≡ false
  pub none_zero : has_zero (values kind (ones map) (take (width kind * ones map) rest)) ≡ false
  pub is : record { kind = kind; fields = fields kind 16 map (take (width kind * ones map) rest); size = 3 + width kind * ones map } ≡ c

pub body_passed : (kind map : ℕ) (rest : List ℕ) (o : Option ℕ) (c : Content) → body kind map rest o ≡ Ok c → Passed kind map rest o c
body_passed kind map rest None c h = absurd cc
body_passed kind map rest (Some count) c h =
    let size = width kind * ones map in
    let first = passed_test (ltb (length rest) size) CutShort _ c h in
    let second = passed_test (ltb 0 (map / 2 ^ count)) BitBeyond _ c first.1 in
    let third = passed_test (has_zero (values kind (ones map) (take size rest))) ZeroField _ c second.1 in
    record { count = count; counted = refl; long = ltb-false (length rest) size first.0; none_beyond = second.0; none_zero = third.0; is = inside _ c third.1 }

-- it lies within the bytes, and has at least a head
pub read_fits : (kinds : List Kind) (bs : List ℕ) (c : Content) → read kinds bs ≡ Ok c → (3 ≤ c.size) × (c.size ≤ length bs)
read_fits kinds [] c h = absurd cc
read_fits kinds (x ∷ []) c h = absurd cc
read_fits kinds (x ∷ y ∷ []) c h = absurd cc
read_fits kinds (kind ∷ high ∷ low ∷ rest) c h =
    let p = body_passed kind (high * 256 + low) rest (field_count kinds kind) c h in
    subst (λ c. (3 ≤ c.size) × (c.size ≤ suc (suc (suc (length rest))))) p.is (omega arith, omega (arith, p.long))
