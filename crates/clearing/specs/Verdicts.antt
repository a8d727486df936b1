-- The verdict on a clearing file: what it is worth where it keeps every rule, else why and where it is refused.
use Rattle.std.specs.Prelude.{◌≡◌, ℕ, ◌<◌, ◌≤◌, ◌⊎◌, List, ◌++◌, length, take, drop, codes, ℤ, Ok, Err, Result}
use Rattle.std.specs.Fmt.{signed_decimal}
use Rattle.records.specs.declared.Fault.TheVariants.{TooLong}
use Rattle.market.specs.Market.{Market}
use Rattle.rules.specs.declared.faults.Rule.{Rule}
use Rattle.rules.specs.Broken.{FirstBroken}
use Rattle.rules.specs.Clearings.{Clearing, KeepsOrders, welfare}
use Rattle.rules.specs.Prices.{PriceList, KeepsPrices, cost}
use Rattle.rules.specs.Scratch.{parts_in, prices_in}
use Rattle.clearing.specs.declared.faults.Fault.{Fault}
use Rattle.clearing.specs.declared.faults.Fault.TheVariants.{Record, Broken, ScratchTooShort}
use Rattle.clearing.specs.declared.faults.Refusal.{Refusal}
use Rattle.clearing.specs.declared.worth.Worth.{Worth}
use Rattle.clearing.specs.Files.{Reads}

-- Parts of 10,000 and prices in whole pence that keep every rule, with their welfare and their cost.
pub record Keeps (m : Market) (ns : List ℤ) (w : Worth) : Type 0 where
  pub parts : Clearing m 10000 (parts_in ns)
  pub orders : KeepsOrders m 10000 (parts_in ns)
  pub list : PriceList m 1 (prices_in ns)
  pub prices : KeepsPrices m (parts_in ns) 1 (prices_in ns)
  pub welfare_is : w.welfare ≡ welfare m (parts_in ns)
  pub cost_is : w.cost ≡ cost m (parts_in ns) (prices_in ns)

-- the refusal names the first broken rule, at its lowest place
pub record Breaks (m : Market) (ns : List ℤ) (e : Refusal) : Type 0 where
  pub rule : Rule
  pub named : e.fault ≡ Broken rule
  pub first : FirstBroken m (parts_in ns) (prices_in ns) rule e.place

-- what a file of at most 65,535 bytes is answered, and the 448 numbers that it leaves
abbrev pub Told : Market → List ℕ → Result Worth Refusal → List ℤ → Type 0
Told m file (Ok w) ns = Reads m file (Ok tt) ns × Keeps m ns w
Told m file (Err e) ns = Reads m file (Err e) ns ⊎ (Reads m file (Ok tt) ns × Breaks m ns e)

abbrev pub refused_at0 : Fault → Result Worth Refusal
refused_at0 f = Err (record { fault = f; place = 0 })

-- A scratch of fewer than 448 numbers, then a file over 65,535 bytes, is refused and nothing is touched; else the file is read into
-- the first 448 numbers, the others being untouched, and judged.
pub record Judged (m : Market) (file : List ℕ) (was : List ℤ) (r : Result Worth Refusal) (then : List ℤ) : Type 0 where
  pub short : length was < 448 → (r ≡ refused_at0 ScratchTooShort) × (then ≡ was)
  pub long : 448 ≤ length was → 65535 < length file → (r ≡ refused_at0 (Record TooLong)) × (then ≡ was)
  pub told : 448 ≤ length was → length file ≤ 65535 → Told m file r (take 448 then) × (drop 448 then ≡ drop 448 was)

-- how a worth reads
abbrev pub worth_text : Worth → List ℕ
worth_text w = codes "welfare " ++ (signed_decimal w.welfare ++ (codes ", cost " ++ signed_decimal w.cost))
