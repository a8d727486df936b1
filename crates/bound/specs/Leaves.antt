-- The bound of a leaf, summed in a fixed order. A product or a running sum past ±10^18 leaves none.
use Rattle.std.specs.Prelude.{ℕ, zero, suc, ◌+◌, cond, List, [], ◌∷◌, ℤ, pos, ◌+ℤ◌, ◌-ℤ◌, ◌*ℤ◌, Some, None, Option, nat_le, unsigned_abs}
use Rattle.std.specs.Int.{int_max}
use Rattle.bound.specs.declared.leaf.Weight.{Weight}
use Rattle.bound.specs.Tables.{Table, most}

-- z, unless it is past the limit
abbrev pub kept : ℤ → Option ℤ
kept z = cond (nat_le (unsigned_abs z) most) (Some z) None

-- the second of what the first gives, where it gives anything
abbrev pub after : Option ℤ → (ℤ → Option ℤ) → Option ℤ
after None f = None
after (Some z) f = f z

-- the product, the sum and the difference of two numbers
abbrev pub times : ℤ → ℤ → Option ℤ
times a b = kept (a *ℤ b)

abbrev pub plus : ℤ → ℤ → Option ℤ
plus a b = kept (a +ℤ b)

abbrev pub less : ℤ → ℤ → Option ℤ
less a b = kept (a -ℤ b)

-- one product more, and one less
abbrev pub more : ℤ → ℤ → ℤ → Option ℤ
more sum a b = after (times a b) (plus sum)

abbrev pub fewer : ℤ → ℤ → ℤ → Option ℤ
fewer rest a b = after (times a b) (less rest)

-- a step at each weight in turn, from z on
abbrev pub each : (ℤ → Weight → Option ℤ) → List Weight → ℤ → Option ℤ
each step [] z = Some z
each step (w ∷ ws) z = after (step z w) (each step ws)

-- the sum of weight × right side
abbrev pub add_side : Table → ℤ → Weight → Option ℤ
add_side t sum w = more sum w.weight (t.side w.row)

abbrev pub sides : Table → List Weight → Option ℤ
sides t ws = each (add_side t) ws (pos 0)

-- v's rest: scale × objective number, less each weight × coefficient in turn
abbrev pub take_coefficient : Table → ℕ → ℤ → Weight → Option ℤ
take_coefficient t v rest w = fewer rest w.weight (t.coefficient w.row v)

abbrev pub rest_of : Table → List Weight → ℕ → Option ℤ
rest_of t ws v = after (times t.scale (t.objective v)) (each (take_coefficient t v) ws)

-- v's part: the greater of rest × low and rest × high
abbrev pub peak : Table → ℕ → ℤ → Option ℤ
peak t v rest = after (times rest (t.low v)) (λ a. after (times rest (t.high v)) (λ b. Some (int_max a b)))

abbrev pub part : Table → List Weight → ℕ → Option ℤ
part t ws v = after (rest_of t ws v) (peak t v)

-- the sum, and the parts of `count` variables from v on
abbrev pub parts : Table → List Weight → ℕ → ℕ → ℤ → Option ℤ
parts t ws zero v sum = Some sum
parts t ws (suc count) v sum = after (part t ws v) (λ p. after (plus sum p) (parts t ws count (v + 1)))

-- the weighted right sides, and then the part of each variable
abbrev pub leaf_bound : Table → List Weight → Option ℤ
leaf_bound t ws = after (sides t ws) (parts t ws t.variables 0)
