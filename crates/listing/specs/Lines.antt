-- The lines of a listing, in bytes.
use Rattle.std.specs.Prelude.{ℕ, suc, cond, List, [], ◌∷◌, ◌++◌, ℤ, codes, decimal}
use Rattle.std.specs.Fmt.{signed_decimal}
use Rattle.records.specs.Read.{Content, is_zero}

-- a field that stands: its bit and its value
abbrev pub field_text : ℕ → ℤ → List ℕ
field_text bit z = codes " " ++ (decimal bit ++ (codes "=" ++ signed_decimal z))

-- an absent field is 0 and leaves no trace
abbrev pub standing_text : ℕ → ℤ → List ℕ
standing_text bit z = cond (is_zero z) [] (field_text bit z)

-- the fields that stand, the first of these having this bit
abbrev pub fields_text : ℕ → List ℤ → List ℕ
fields_text bit [] = []
fields_text bit (z ∷ zs) = standing_text bit z ++ fields_text (suc bit) zs

-- a record that stands at a place: the place, the kind, the fields
abbrev pub head_text : ℕ → ℕ → List ℕ
head_text place kind = decimal place ++ (codes " kind " ++ (decimal kind ++ codes ":"))

abbrev pub line_text : ℕ → Content → List ℕ
line_text place c = head_text place c.kind ++ (fields_text 0 c.fields ++ codes "\n")

-- how many records there are, where all are listed
abbrev pub count_text : ℕ → List ℕ
count_text n = codes "records: " ++ (decimal n ++ codes "\n")

-- the fault's number, and its place
abbrev pub fault_text : ℕ → ℕ → List ℕ
fault_text number place = codes "fault " ++ (decimal number ++ (codes " at " ++ (decimal place ++ codes "\n")))
