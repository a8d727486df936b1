-- What is wrong with a record as an entry after a market, in the words of the entry lines. The fields of a record are
-- whole numbers of any size; they are numbered as they stand in the file.
use Rattle.std.specs.Prelude.{◌≡◌, ℕ, ◌+◌, ◌<◌, ◌≤◌, ◌⊎◌, List, length, ℤ, pos, negsuc, ◌+ℤ◌, ◌≤ℤ◌, ◌<ℤ◌, ◌≢◌}
use Rattle.records.specs.Read.{Content}
use Rattle.market.specs.declared.entries.Service.{Service}
use Rattle.market.specs.declared.entries.Basket.{Basket}
use Rattle.market.specs.declared.faults.Fault.{Fault}
use Rattle.market.specs.declared.faults.Fault.TheVariants.{Record, OutsideLimits, Absent, TableFull, WindowOverlaps, LoopBroken}
use Rattle.market.specs.Faults.{code}
use Rattle.market.specs.Market.{Market, window_at, basket_at, Covers, Share}
use Rattle.market.specs.Reading.{Kind, a_window, a_buy, a_basket, a_child, a_substitute, kind_of, field}
use Rattle.market.specs.Services.{terms}

abbrev pub Between : ℤ → ℤ → ℤ → Type 0
Between low high z = (low ≤ℤ z) × (z ≤ℤ high)

-- A price that some service allows.
abbrev pub Price : ℤ → Type 0
Price z = Between (negsuc 99998) (pos 99999) z

-- Six quantities from the field i on.
abbrev pub Quantities : List ℤ → ℕ → Type 0
Quantities zs i = (p : ℕ) → p < 6 → Between (pos 0) (pos 999) (field zs (i + p))

abbrev pub AllZero : List ℤ → ℕ → Type 0
AllZero zs i = (p : ℕ) → p < 6 → field zs (i + p) ≡ pos 0

-- The numbers of an entry are within their limits.
abbrev pub Within : Kind → List ℤ → Type 0
Within a_window zs = Between (pos 1) (pos 4) (field zs 0) × (Between (pos 0) (pos 49) (field zs 1) × (Between (pos 1) (pos 50) (field zs 2) × ((field zs 1 +ℤ field zs 2) ≤ℤ pos 50)))
Within a_buy zs = Between (pos 1) (pos 9999) (field zs 2) × (Price (field zs 3) × (Between (pos 0) (pos 64) (field zs 4) × Between (pos 0) (pos 1) (field zs 5)))
Within a_basket zs = Between (pos 1) (pos 65535) (field zs 0) × (Between (pos 0) (pos 255) (field zs 2) × (Quantities zs 3 × Price (field zs 9)))
Within a_child zs = Quantities zs 1 × ((AllZero zs 1 → ⊥) × Price (field zs 7))
Within a_substitute zs = Quantities zs 1 × ((AllZero zs 1 → ⊥) × Price (field zs 7))

-- z is the number of one of n things.
abbrev pub Names : ℤ → ℕ → Type 0
Names z n = (k : ℕ) × (z ≡ pos k) × (k < n)

-- A quantity on a product that the service lacks, or a price below its least.
abbrev pub Disallowed : Service → List ℤ → ℕ → ℕ → Type 0
Disallowed s zs i j = ((p : ℕ) × (p < 6) × (((terms s).products ≤ p) × (field zs (i + p) ≢ pos 0))) ⊎ (field zs j <ℤ (terms s).floor)

-- A child or substitute names no basket, or has what the service of its basket's window does not allow.
abbrev pub MissingExtra : Market → List ℤ → Type 0
MissingExtra m zs = (Names (field zs 0) (length m.baskets) → ⊥) ⊎ ((b : ℕ) × (field zs 0 ≡ pos b) × Disallowed (window_at m (basket_at m b).window).service zs 1 7)

-- It names what is not there, or has what its service lacks or does not allow.
abbrev pub Missing : Market → Kind → List ℤ → Type 0
Missing m a_window zs = ⊥
Missing m a_buy zs = (Names (field zs 0) (length m.windows) → ⊥) ⊎ ((w : ℕ) × (field zs 0 ≡ pos w) × ((Names (field zs 1) (terms (window_at m w).service).products → ⊥) ⊎ (field zs 3 <ℤ (terms (window_at m w).service).floor)))
Missing m a_basket zs = (Names (field zs 1) (length m.windows) → ⊥) ⊎ ((w : ℕ) × (field zs 1 ≡ pos w) × Disallowed (window_at m w).service zs 3 9)
Missing m a_child zs = MissingExtra m zs
Missing m a_substitute zs = MissingExtra m zs

-- Its table is full.
abbrev pub Full : Market → Kind → Type 0
Full m a_window = 32 ≤ length m.windows
Full m a_buy = 64 ≤ length m.buys
Full m a_basket = 96 ≤ length m.baskets
Full m a_child = 96 ≤ length m.extras
Full m a_substitute = 96 ≤ length m.extras

-- The half hour h is one of those that a window's record names.
abbrev pub CoversFields : List ℤ → ℕ → Type 0
CoversFields zs h = (field zs 1 ≤ℤ pos h) × (pos h <ℤ (field zs 1 +ℤ field zs 2))

-- A window has a half hour of one of its service.
abbrev pub Overlaps : Market → Kind → List ℤ → Type 0
Overlaps m a_window zs = (k : ℕ) × (k < length m.windows) × ((pos (terms (window_at m k).service).number ≡ field zs 0) × ((h : ℕ) × Covers (window_at m k) h × CoversFields zs h))
Overlaps m a_buy zs = ⊥
Overlaps m a_basket zs = ⊥
Overlaps m a_child zs = ⊥
Overlaps m a_substitute zs = ⊥

-- The basket b has another unit than the record, or shares a half hour with the window that it names.
abbrev pub Beside : Market → Basket → List ℤ → Type 0
Beside m b zs = (pos b.unit ≢ field zs 0) ⊎ ((w : ℕ) × (field zs 1 ≡ pos w) × Share (window_at m b.window) (window_at m w))

-- A basket of a loop breaks the loop with one before it.
abbrev pub Breaks : Market → Kind → List ℤ → Type 0
Breaks m a_window zs = ⊥
Breaks m a_buy zs = ⊥
Breaks m a_basket zs = (k : ℕ) × (k < length m.baskets) × ((field zs 2 ≢ pos 0) × ((pos (basket_at m k).ring ≡ field zs 2) × Beside m (basket_at m k) zs))
Breaks m a_child zs = ⊥
Breaks m a_substitute zs = ⊥

-- The fault f applies to the record after the market.
abbrev pub Has : Market → Kind → List ℤ → Fault → Type 0
Has m k zs (Record f) = ⊥
Has m k zs OutsideLimits = Within k zs → ⊥
Has m k zs Absent = Missing m k zs
Has m k zs TableFull = Full m k
Has m k zs WindowOverlaps = Overlaps m k zs
Has m k zs LoopBroken = Breaks m k zs

abbrev pub number : Fault → ℕ
number f = (code f).number

-- The fault of the lowest number that applies.
abbrev pub Faulty : Market → Content → Fault → Type 0
Faulty m c f = Has m (kind_of c.kind) c.fields f × ((g : Fault) → number g < number f → Has m (kind_of c.kind) c.fields g → ⊥)
