-- What a record of a clearing file says, and when it is in order, as tests.
use Rattle.std.specs.Prelude.{ℕ, ◌+◌, ◌-◌, ◌/◌, ◌%◌, Bool, true, false, cond, not, ◌&&◌, List, [], ◌∷◌, ◌++◌, length, replicate, ℤ, pos, negsuc, Some, None, fold, Option, ◌==◌, int_le, int_lt, nat_lt, slice_index_or, slice_set}
use Rattle.records.specs.Read.{Content, is_zero}
use Rattle.records.specs.Write.{encode}
use Rattle.market.specs.Market.{Market, window_at}
use Rattle.market.specs.Services.{terms}
use Rattle.clearing.specs.declared.marks.Mark.{Mark}
use Rattle.clearing.specs.declared.marks.Mark.TheVariants.{Parts, Price}

-- kind 6 is a variable and its parts, kind 7 a line and its price
abbrev pub mark_of : Content → Mark
mark_of c = cond (c.kind == 6) (Parts (slice_index_or c.fields 0 (pos 0)) (slice_index_or c.fields 1 (pos 0))) (Price (slice_index_or c.fields 0 (pos 0)) (slice_index_or c.fields 1 (pos 0)))

-- variables rise, then lines rise; the first of each rises over nothing
abbrev pub rises : Option Mark → Mark → Bool
rises None x = true
rises (Some (Parts v p)) (Parts w q) = int_lt v w
rises (Some (Parts v p)) (Price l y) = true
rises (Some (Price k x)) (Parts w q) = false
rises (Some (Price k x)) (Price l y) = int_lt k l

-- parts are 1 to 10,000, a price is not 0 and within ±99,999
abbrev pub in_limits : Mark → Bool
in_limits (Parts v p) = int_le (pos 1) p && int_le p (pos 10000)
in_limits (Price l y) = not (is_zero y) && (int_le (negsuc 99998) y && int_le y (pos 99999))

-- the variable is that of an entered buy, parent, child or substitute
abbrev pub is_order : Market → ℕ → Bool
is_order m v = cond (nat_lt v 64) (nat_lt v (length m.buys)) (cond (nat_lt v 160) (nat_lt (v - 64) (length m.baskets)) (nat_lt (v - 160) (length m.extras)))

-- the line has a window and a product, and the price is not below the service's floor
abbrev pub is_line : Market → ℕ → ℤ → Bool
is_line m l y = nat_lt (l / 6) (length m.windows) && (nat_lt (l % 6) (terms (window_at m (l / 6)).service).products && int_le (terms (window_at m (l / 6)).service).floor y)

abbrev pub is_named : Market → Mark → Bool
is_named m (Parts (pos v) p) = is_order m v
is_named m (Parts (negsuc v) p) = false
is_named m (Price (pos l) y) = is_line m l y
is_named m (Price (negsuc l) y) = false

-- where in the scratch it stands, and what stands there
abbrev pub to_index : ℕ → ℤ → ℕ
to_index from (pos n) = from + n
to_index from (negsuc n) = from

abbrev pub place_of : Mark → ℕ
place_of (Parts v p) = to_index 0 v
place_of (Price l y) = to_index 256 l

abbrev pub amount_of : Mark → ℤ
amount_of (Parts v p) = p
amount_of (Price l y) = y

-- its record: the kind, the number that it names, and its amount
abbrev pub kind_of : Mark → ℕ
kind_of (Parts v p) = 6
kind_of (Price l y) = 7

abbrev pub number_of : Mark → ℤ
number_of (Parts v p) = v
number_of (Price l y) = l

-- the bytes of marks, one record after the other
abbrev pub bytes_of : List Mark → List ℕ
bytes_of [] = []
bytes_of (x ∷ xs) = encode (kind_of x) (number_of x ∷ amount_of x ∷ []) ++ bytes_of xs

-- 448 zeros, and each mark's amount at its place
abbrev pub zeros : List ℤ
zeros = replicate 448 (pos 0)

abbrev pub marked : List Mark → List ℤ
marked xs = fold (λ numbers x. slice_set numbers (place_of x) (amount_of x)) zeros xs

-- its place is one of the 448, and its amount fits 32 bits
abbrev pub fits : Mark → Bool
fits (Parts (pos v) p) = nat_lt v 256 && (int_le (pos 0) p && int_le p (pos 10000))
fits (Parts (negsuc v) p) = false
fits (Price (pos l) y) = nat_lt l 192 && (int_le (negsuc 99998) y && int_le y (pos 99999))
fits (Price (negsuc l) y) = false
