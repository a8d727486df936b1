-- What stands at the head of some bytes: a record, or a fault.
use Rattle.std.specs.Prelude.{ℕ, zero, suc, ◌+◌, ◌*◌, ◌/◌, ◌%◌, ◌^◌, Bool, false, cond, ◌||◌, List, [], ◌∷◌, length, take, drop, ℤ, pos, negsuc, Some, None, Ok, Err, Option, Result, ◌==◌, count_ones, nat_lt}
use Rattle.records.specs.declared.Fault.{Fault}
use Rattle.records.specs.declared.Fault.TheVariants.{CutShort, UnknownKind, BitBeyond, ZeroField}
use Rattle.records.specs.declared.Kind.{Kind}
use Rattle.records.specs.declared.Record.{Record}
use Rattle.records.specs.Bytes.{value, width}

-- how many fields a kind has, where it is among these: the first entry of its number counts
abbrev pub field_count : List Kind → ℕ → Option ℕ
field_count [] k = None
field_count (e ∷ es) k = cond (e.number == k) (Some e.fields) (field_count es k)

-- the first n fields that the bytes hold
abbrev pub values : ℕ → ℕ → List ℕ → List ℤ
values kind zero bs = []
values kind (suc n) bs = value kind bs ∷ values kind n (drop (width kind) bs)

-- the fields for the lowest n bits of a map, from bit 0 up: what the bytes hold where the bit stands, else 0
unfoldable pub fields : ℕ → ℕ → ℕ → List ℕ → List ℤ
fields kind zero map bs = []
fields kind (suc n) map bs = cond (map % 2 == 0) (pos 0 ∷ fields kind n (map / 2) bs) (value kind bs ∷ fields kind n (map / 2) (drop (width kind) bs))

abbrev pub is_zero : ℤ → Bool
is_zero (pos n) = n == 0
is_zero (negsuc n) = false

abbrev pub has_zero : List ℤ → Bool
has_zero [] = false
has_zero (z ∷ zs) = is_zero z || has_zero zs

-- what a record says: its kind, its sixteen fields, and how many bytes it takes
pub record Content : Type 0 where
  pub kind : ℕ
  pub fields : List ℤ
  pub size : ℕ

-- what stands in the bytes after the map, where the kind has this many fields
abbrev pub body : ℕ → ℕ → List ℕ → Option ℕ → Result Content Fault
body kind map rest None = Err UnknownKind
body kind map rest (Some count) =
    let size : ℕ = width kind * count_ones map in
    let held : List ℕ = take size rest in
    cond (nat_lt (length rest) size) (Err CutShort)
    (cond (nat_lt 0 (map / 2 ^ count)) (Err BitBeyond)
    (cond (has_zero (values kind (count_ones map) held)) (Err ZeroField)
    (Ok (record { kind = kind; fields = fields kind 16 map held; size = 3 + size }))))

-- what stands at the head of some bytes, where records are of these kinds
abbrev pub read : List Kind → List ℕ → Result Content Fault
read kinds [] = Err CutShort
read kinds (a ∷ []) = Err CutShort
read kinds (a ∷ b ∷ []) = Err CutShort
read kinds (kind ∷ high ∷ low ∷ rest) = body kind (high * 256 + low) rest (field_count kinds kind)

-- what a record says
abbrev pub content : Record → Content
content r = record { kind = r.kind; fields = fields r.kind 16 r.map.bits r.bytes.now; size = 3 + length r.bytes.now }
