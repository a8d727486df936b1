-- How a number stands in the bytes of a field.
use Rattle.std.specs.Prelude.{ℕ, ◌+◌, ◌*◌, Bool, cond, ◌&&◌, List, [], ◌∷◌, length, take, ℤ, pos, nat_lt}
use Rattle.std.specs.Int.{w32, w64}
use Rattle.std.proofs.Common.{to_z}

-- big-endian, after what came before
abbrev pub big_endian : ℕ → List ℕ → ℕ
big_endian n [] = n
big_endian n (b ∷ bs) = big_endian (n * 256 + b) bs

-- the signed number in the first 4 bytes, and in the first 8
abbrev pub narrow : List ℕ → ℤ
narrow bs = to_z w32 (big_endian 0 (take 4 bs))

abbrev pub wide : List ℕ → ℤ
wide bs = to_z w64 (big_endian 0 (take 8 bs))

-- the fields of kinds 1 to 7 have 4 bytes, those of all others 8
abbrev pub is_narrow : ℕ → Bool
is_narrow kind = nat_lt 0 kind && nat_lt kind 8

abbrev pub width : ℕ → ℕ
width kind = cond (is_narrow kind) 4 8

abbrev pub signed : ℕ → List ℕ → ℤ
signed kind bs = cond (is_narrow kind) (narrow bs) (wide bs)

-- the field that some bytes begin with; one whose bytes are not there is 0
abbrev pub value : ℕ → List ℕ → ℤ
value kind bs = cond (nat_lt (length bs) (width kind)) (pos 0) (signed kind bs)
