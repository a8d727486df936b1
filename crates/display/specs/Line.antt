-- The text of the panel's line, and how text is put into a buffer.
use Rattle.std.specs.Prelude.{◌≡◌, ℕ, ◌+◌, cond, List, ◌++◌, length, take, drop, Some, None, codes, decimal, Option, nat_lt}

-- a number in decimal, or a dash where there is none
abbrev pub shown : Option ℕ → List ℕ
shown (Some n) = decimal n
shown None = codes "-"

-- `GAP n COST n` and a newline
abbrev pub line : Option ℕ → Option ℕ → List ℕ
line gap cost = codes "GAP " ++ (shown gap ++ (codes " COST " ++ (shown cost ++ codes "\n")))

-- how many bytes are written: the line's, or none where the buffer has fewer than 64
abbrev pub line_length : ℕ → Option ℕ → Option ℕ → Option ℕ
line_length room gap cost = cond (nat_lt room 64) None (Some (length (line gap cost)))

-- the line opens the buffer, and all else in it is as it was; a buffer of fewer than 64 bytes is untouched
abbrev pub with_line : List ℕ → Option ℕ → Option ℕ → List ℕ
with_line was gap cost = cond (nat_lt (length was) 64) was (line gap cost ++ drop (length (line gap cost)) was)

-- `piece` stands at `at` and ends at `end`; all else is as it was
pub record Put (was then : List ℕ) (at : ℕ) (piece : List ℕ) (end : ℕ) : Type 0 where
  pub ends : end ≡ at + length piece
  pub is : then ≡ take at was ++ (piece ++ drop (at + length piece) was)
