-- The clearing that a clearing file offers.
use Rattle.std.specs.Prelude.{ℕ, ◌≤◌, List, length, Ok}
use Rattle.market.specs.Market.{Market}
use Rattle.clearing.specs.Files.{Reads}
use Rattle.clearing.specs.Verdicts.{Keeps}
use Rattle.console.specs.declared.held.Held.{Held}

-- A clearing that keeps every rule, with its welfare and its cost.
abbrev pub Kept : Market → Held → Type 0
Kept m h = Keeps m h.numbers (record { welfare = h.welfare; cost = h.cost })

-- The file is accepted and h is its clearing: there is scratch enough, the file is not too long, its bytes are those of h's parts and prices in order, and h keeps every rule.
pub record Clears (m : Market) (file : List ℕ) (room : ℕ) (h : Held) : Type 0 where
  pub enough : 448 ≤ room
  pub short : length file ≤ 65535
  pub reads : Reads m file (Ok tt) h.numbers
  pub kept : Kept m h
