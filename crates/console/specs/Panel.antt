-- What the panel shows: the two gaps in whole pence, rounded up, on one line.
use Rattle.std.specs.Prelude.{◌≡◌, ℕ, ◌+◌, ◌*◌, ◌/◌, cond, List, length, ℤ, pos, negsuc, ◌≤ℤ◌, Some, None, Ok, Err, Option, Result, nat_lt}
use Rattle.display.specs.Line.{line, with_line}
use Rattle.console.specs.declared.faults.Fault.TheVariants.{BufferTooShort}
use Rattle.console.specs.declared.faults.Refusal.{Refusal}
use Rattle.console.specs.Standing.{Standing, gap, price_gap}

-- an amount over n + 1, rounded up; a gap that stands is never below 0
abbrev pub up : ℕ → ℤ → ℕ
up n (pos a) = (a + n) / (n + 1)
up n (negsuc a) = 0

abbrev pub in_pence : ℕ → Option ℤ → Option ℕ
in_pence n None = None
in_pence n (Some z) = Some (up n z)

-- the gap in pence, 10,000 grains each, and the price gap, 10,000,000 each
abbrev pub gap_pence : Standing → Option ℕ
gap_pence s = in_pence 9999 (gap s)

abbrev pub cost_pence : Standing → Option ℕ
cost_pence s = in_pence 9999999 (price_gap s)

-- the pence that are shown are not below the gaps that stand
pub record ShownNotBelow (s : Standing) : Type 0 where
  pub gaps : (g : ℤ) (n : ℕ) → gap s ≡ Some g → gap_pence s ≡ Some n → g ≤ℤ pos (10000 * n)
  pub price_gaps : (g : ℤ) (n : ℕ) → price_gap s ≡ Some g → cost_pence s ≡ Some n → g ≤ℤ pos (10000000 * n)

-- the length of the line, or a refusal where the buffer has fewer than 64 bytes
abbrev pub panel_answer : Standing → ℕ → Result ℕ Refusal
panel_answer s room = cond (nat_lt room 64) (Err (record { fault = BufferTooShort; place = 0 })) (Ok (length (line (gap_pence s) (cost_pence s))))

-- the buffer after it: the line opens it, and all else is as it was
abbrev pub panel_buffer : Standing → List ℕ → List ℕ
panel_buffer s was = with_line was (gap_pence s) (cost_pence s)

-- a line of bytes after the panel was asked to write into its first `room` bytes
abbrev pub panel_in : Standing → ℕ → List ℕ → List ℕ
panel_in s room was = cond (nat_lt room 64) was (panel_buffer s was)
