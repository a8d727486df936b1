-- A whole past: what each market file and each call is answered, from the files and the calls alone, and what the gaps promise all along.
use Rattle.std.specs.Prelude.{◌≡◌, ℕ, ◌+◌, ◌<◌, min, List, [], ◌∷◌, length, take, replicate, ℤ, Result, slice_index_or}
use Rattle.std.specs.Borrow.{Bor}
use Rattle.bound.specs.Checks.{checked}
use Rattle.bound.specs.Piles.{EveryPileIsBounded}
use Rattle.market.specs.declared.faults.Refusal as entries
use Rattle.market.specs.Files.{Visit, AfterFiles}
use Rattle.market.specs.Lawful.{Lawful}
use Rattle.market.specs.Market.{Market, empty}
use Rattle.auction.specs.Acceptance.{acceptance}
use Rattle.auction.specs.Pricing.{pricing}
use Rattle.console.specs.declared.call.Answer as answers
use Rattle.console.specs.declared.call.Answer.TheVariants as an
use Rattle.console.specs.declared.call.Call.{Call}
use Rattle.console.specs.declared.call.Call.TheVariants.{Clearing, Tree, Price, Panel}
use Rattle.console.specs.declared.faults.Refusal.{Refusal}
use Rattle.console.specs.Law.{GapCovers, PriceGapCovers}
use Rattle.console.specs.Panel.{panel_answer, panel_in, ShownNotBelow}
use Rattle.console.specs.Past.{no_call, Came}
use Rattle.console.specs.Standing.{Standing, parts_of}
use Rattle.console.specs.Steps.{accepted, bounded, priced, told_bound, Cleared}

-- a clearing call with so many numbers of scratch, of which no more than 448 count
pub record ClearedIn (s : Standing) (file : List ℕ) (room : ℕ) (r : Result ℤ Refusal) (t : Standing) : Type 0 where
  pub was : List ℤ
  pub then : List ℤ
  pub lent : length was ≡ min room 448
  pub cleared : Cleared s file was r then t

-- the call, made where s stands, is answered a and leaves t
abbrev pub Answers : Standing → Call → answers.Answer → Standing → Type 0
Answers s (Clearing file room) a t = (r : Result ℤ Refusal) × (a ≡ an.Clearing r) × ClearedIn s file.now room r t
Answers s (Tree file) a t =
    (a ≡ an.Tree (told_bound (checked (acceptance s.market) file.now))) × (t ≡ bounded s (accepted (checked (acceptance s.market) file.now)))
Answers s (Price file) a t =
    (a ≡ an.Price (told_bound (checked (pricing s.market (parts_of s.held)) file.now))) × (t ≡ priced s (accepted (checked (pricing s.market (parts_of s.held)) file.now)))
Answers s (Panel room) a t = (a ≡ an.Panel (panel_answer s room) (panel_in s room (replicate 64 0))) × (t ≡ s)

-- a call of the past is answered as what stands after the calls before it has it, and leaves what stands after it
pub record Answered (m : Market) (past more : List Call) (c : Call) (a : answers.Answer) : Type 0 where
  pub before : Standing
  pub after : Standing
  pub came : Came m past before
  pub comes : Came m more after
  pub says : Answers before c a after

-- the calls on a console closed on the market m
pub record Played (m : Market) (calls : List Call) (out : List answers.Answer) : Type 0 where
  pub count : length out ≡ length calls
  pub each : (k : ℕ) (d : answers.Answer) → k < length calls → Answered m (take k calls) (take (k + 1) calls) (slice_index_or calls k no_call) (slice_index_or out k d)
  -- a past leads to one standing
  pub one : (k : ℕ) (s t : Standing) → Came m (take k calls) s → Came m (take k calls) t → s ≡ t
  -- and no other answer to a call, no other standing after it, follows from the calls before it
  pub only : (k : ℕ) (d : answers.Answer) (s t : Standing) (a : answers.Answer) → k < length calls → Came m (take k calls) s → Answers s (slice_index_or calls k no_call) a t → (slice_index_or out k d ≡ a) × Came m (take (k + 1) calls) t
  -- after every prefix of the calls, a gap that stands covers every rival, and a price gap every price list
  pub gaps : (k : ℕ) (s : Standing) → Came m (take k calls) s → GapCovers s
  pub price_gaps : (k : ℕ) (s : Standing) → Came m (take k calls) s → PriceGapCovers s
  -- and the pence that the panel shows are not below them
  pub shown : (k : ℕ) (s : Standing) → Came m (take k calls) s → ShownNotBelow s

-- each market file with its answer
abbrev pub visits : List (Bor (List ℕ)) → List (Result (Unit {0}) entries.Refusal) → List Visit
visits [] given = []
visits (f ∷ fs) [] = []
visits (f ∷ fs) (a ∷ given) = record { file = f.now; answer = a } ∷ visits fs given

-- market files into an empty book, which is closed, and then calls
pub record Replayed (files : List (Bor (List ℕ))) (calls : List Call) (entered : List (Result (Unit {0}) entries.Refusal)) (out : List answers.Answer) : Type 0 where
  pub market : Market
  pub lawful : Lawful market
  pub count : length entered ≡ length files
  pub files_made : AfterFiles empty (visits files entered) market
  pub played : Played market calls out
  -- over every lawful table and every pile of layers no point exceeds the bound of an accepted tree
  pub piles : EveryPileIsBounded
