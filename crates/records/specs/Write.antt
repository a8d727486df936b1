-- A record as bytes, and how reading and writing belong together.
use Rattle.std.specs.Prelude.{◌≡◌, ℕ, zero, suc, ◌+◌, ◌*◌, ◌/◌, ◌%◌, ◌<◌, ◌≤◌, cond, List, [], ◌∷◌, ◌++◌, length, drop, ℤ, pos, Some, Ok, FitsSigned}
use Rattle.std.specs.Int.{w32, w64}
use Rattle.std.proofs.Common.{of_z}
use Rattle.std.specs.List.{AllByRecursion}
use Rattle.records.specs.declared.Kind.{Kind}
use Rattle.records.specs.Bytes.{is_narrow}
use Rattle.records.specs.Read.{field_count, is_zero, read, Content}

-- x in n bytes, big-endian
unfoldable pub digits : ℕ → ℕ → List ℕ
digits zero x = []
digits (suc n) x = digits n (x / 256) ++ (x % 256) ∷ []

-- a field's bytes
abbrev pub field_bytes : ℕ → ℤ → List ℕ
field_bytes kind z = cond (is_narrow kind) (digits 4 (of_z w32 z)) (digits 8 (of_z w64 z))

-- a bit for each field that is not 0, from bit 0 up
abbrev pub map_of : List ℤ → ℕ
map_of [] = 0
map_of (z ∷ zs) = cond (is_zero z) 0 1 + 2 * map_of zs

-- the fields that are not 0, one after another
abbrev pub packed : ℕ → List ℤ → List ℕ
packed kind [] = []
packed kind (z ∷ zs) = cond (is_zero z) [] (field_bytes kind z) ++ packed kind zs

-- a record of this kind with these fields, from bit 0 up, as bytes
abbrev pub encode : ℕ → List ℤ → List ℕ
encode kind zs = kind ∷ map_of zs / 256 ∷ map_of zs % 256 ∷ packed kind zs

-- n fields, those that are not given being 0
unfoldable pub padded : ℕ → List ℤ → List ℤ
padded zero zs = []
padded (suc n) [] = pos 0 ∷ padded n []
padded (suc n) (z ∷ zs) = z ∷ padded n zs

-- what such a record says: an absent field is 0
abbrev pub written : ℕ → List ℤ → Content
written kind zs = record { kind = kind; fields = padded 16 zs; size = length (encode kind zs) }

-- the number has room in a field of this kind
abbrev pub FitsKind : ℕ → ℤ → Type 0
FitsKind kind z = FitsSigned (cond (is_narrow kind) w32 w64) z

-- a file of these kinds may hold a record of this kind with these fields:
-- no more than the kind has, nor than the map has bits, and each with room
pub record Writable (kinds : List Kind) (kind : ℕ) (zs : List ℤ) : Type 0 where
  pub count : ℕ
  pub counted : field_count kinds kind ≡ Some count
  pub few : length zs ≤ count
  pub mapped : length zs ≤ 16
  pub fit : AllByRecursion (FitsKind kind) zs

-- the bytes begin with the encoding of a record that says c
pub record Spelt (kinds : List Kind) (bs : List ℕ) (c : Content) : Type 0 where
  pub fields : List ℤ
  pub rest : List ℕ
  pub writable : Writable kinds c.kind fields
  pub bytes : bs ≡ encode c.kind fields ++ rest
  pub says : c ≡ written c.kind fields

abbrev pub Byte : ℕ → Type 0
Byte b = b < 256

-- reading gives back what was written, whatever comes after it
abbrev pub ReadsBack : Type 0
ReadsBack = (kinds : List Kind) (kind : ℕ) (zs : List ℤ) (rest : List ℕ) → Writable kinds kind zs → read kinds (encode kind zs ++ rest) ≡ Ok (written kind zs)

-- writing gives back the bytes that were read
abbrev pub WritesBack : Type 0
WritesBack = (kinds : List Kind) (bs : List ℕ) (c : Content) → AllByRecursion Byte bs → read kinds bs ≡ Ok c → bs ≡ encode c.kind c.fields ++ drop c.size bs

-- a record is read exactly where its encoding stands
abbrev pub Stands : Type 0
Stands = (kinds : List Kind) (bs : List ℕ) (c : Content) → AllByRecursion Byte bs → (read kinds bs ≡ Ok c → Spelt kinds bs c) × (Spelt kinds bs c → read kinds bs ≡ Ok c)

-- no two records that differ, in kind or in a field, begin the same bytes, and they end at the same place
abbrev pub Unique : Type 0
Unique = (kinds : List Kind) (j k : ℕ) (ys zs : List ℤ) (more rest : List ℕ) → Writable kinds j ys → Writable kinds k zs → encode j ys ++ more ≡ encode k zs ++ rest
    → (j ≡ k) × (padded 16 ys ≡ padded 16 zs) × (more ≡ rest)
