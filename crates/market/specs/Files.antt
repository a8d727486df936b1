-- A market file: what its bytes are, and what it does to a market.
use Rattle.std.specs.Prelude.{◌≡◌, ℕ, ◌<◌, ◌≤◌, cond, List, [], ◌∷◌, ◌++◌, map, length, take, drop, ℤ, pos, Ok, Err, Result}
use Rattle.records.specs.declared.Fault.{Fault as RecordFault}
use Rattle.records.specs.declared.Fault.TheVariants.{TooLong}
use Rattle.records.specs.declared.Kind.{Kind}
use Rattle.records.specs.Read.{Content, read}
use Rattle.records.specs.Write.{encode}
use Rattle.market.specs.declared.entries.Entry.{Entry}
use Rattle.market.specs.declared.entries.Entry.TheVariants.{OfWindow, OfBuy, OfBasket, OfExtra}
use Rattle.market.specs.declared.entries.Role.{Role}
use Rattle.market.specs.declared.entries.Role.TheVariants.{Child, Substitute}
use Rattle.market.specs.declared.faults.Fault.{Fault}
use Rattle.market.specs.declared.faults.Fault.TheVariants.{Record}
use Rattle.market.specs.declared.faults.Refusal.{Refusal}
use Rattle.market.specs.Lawful.{Lawful}
use Rattle.market.specs.Market.{Market, put}
use Rattle.market.specs.Services.{terms}
use Rattle.market.specs.Wrong.{Faulty}

-- Windows, buys, baskets, children and substitutes, with how many fields each has.
abbrev pub kinds : List Kind
kinds = record { number = 1; fields = 3 } ∷ record { number = 2; fields = 6 } ∷ record { number = 3; fields = 10 } ∷ record { number = 4; fields = 8 } ∷ record { number = 5; fields = 8 } ∷ []

-- The kind of an entry's record, and its fields in order.
abbrev pub role_kind : Role → ℕ
role_kind Child = 4
role_kind Substitute = 5

abbrev pub kind_in : Entry → ℕ
kind_in (OfWindow w) = 1
kind_in (OfBuy e) = 2
kind_in (OfBasket b) = 3
kind_in (OfExtra e) = role_kind e.role

abbrev pub spelt : Entry → List ℤ
spelt (OfWindow w) = pos (terms w.service).number ∷ pos w.start ∷ pos w.length ∷ []
spelt (OfBuy e) = pos e.window ∷ pos e.product ∷ pos e.quantity ∷ e.price ∷ pos e.family ∷ pos (cond e.permit 1 0) ∷ []
spelt (OfBasket b) = pos b.unit ∷ pos b.window ∷ pos b.ring ∷ map pos b.quantities ++ b.price ∷ []
spelt (OfExtra e) = pos e.basket ∷ map pos e.quantities ++ e.price ∷ []

-- The bytes of entries, one record after the other.
abbrev pub bytes_of : List Entry → List ℕ
bytes_of [] = []
bytes_of (e ∷ es) = encode (kind_in e) (spelt e) ++ bytes_of es

-- Each entry keeps the lines after those before it, and together they make m into n.
abbrev pub Grows : Market → List Entry → Market → Type 0
Grows m [] n = n ≡ m
Grows m (e ∷ es) n = Lawful (put m e) × Grows (put m e) es n

-- What stands next is no record, or one that is at fault after the market.
abbrev pub Stops : Market → Result Content RecordFault → Fault → Type 0
Stops m (Ok c) f = Faulty m c f
Stops m (Err g) f = f ≡ Record g

-- The file ends at q, or it is refused there.
abbrev pub Ends : List ℕ → ℕ → Market → Result (Unit {0}) Refusal → Type 0
Ends file q n (Ok x) = q ≡ length file
Ends file q n (Err x) = (x.place ≡ q) × (q < length file) × Stops n (read kinds (drop q file)) x.fault

-- A file of at most 65,535 bytes makes m into `after`: its bytes up to a place are those of some entries, all of which are
-- kept, and it ends there or is refused for what stands there.
pub record Entered (m : Market) (file : List ℕ) (r : Result (Unit {0}) Refusal) (after : Market) : Type 0 where
  pub entries : List Entry
  pub place : ℕ
  pub bytes : take place file ≡ bytes_of entries
  pub grows : Grows m entries after
  pub ends : Ends file place after r

-- A longer file is refused unread.
abbrev pub too_long : Result (Unit {0}) Refusal
too_long = Err (record { fault = Record TooLong; place = 0 })

-- What entering a file does to m.
abbrev pub Enters : Market → List ℕ → Result (Unit {0}) Refusal → Market → Type 0
Enters m file r after = (65535 < length file → (r ≡ too_long) × (after ≡ m)) × (length file ≤ 65535 → Entered m file r after)

-- A file that is the bytes of entries, each of which keeps the lines after those before it, is accepted, and these are what
-- it enters.
abbrev pub Accepts : Market → List ℕ → Result (Unit {0}) Refusal → Market → Type 0
Accepts m file r after = (es : List Entry) (n : Market) → length file ≤ 65535 → file ≡ bytes_of es → Grows m es n → (r ≡ Ok tt) × (after ≡ n)

-- Entering a file has one outcome.
abbrev pub OneOutcome : Type 0
OneOutcome = (m : Market) (file : List ℕ) (r s : Result (Unit {0}) Refusal) (a b : Market) → Enters m file r a → Enters m file s b → (r ≡ s) × (a ≡ b)

-- A file that was entered, and the answer to it.
pub record Visit : Type 0 where
  pub file : List ℕ
  pub answer : Result (Unit {0}) Refusal

-- Files are entered one after the other, with these answers, and make m into n.
abbrev pub AfterFiles : Market → List Visit → Market → Type 0
AfterFiles m [] n = n ≡ m
AfterFiles m (v ∷ vs) n = (k : Market) × Enters m v.file v.answer k × AfterFiles k vs n

-- The entries that are kept of a file: all, or those before the place at which it is refused.
abbrev pub Kept : List ℕ → Result (Unit {0}) Refusal → List Entry → Type 0
Kept file (Ok x) es = file ≡ bytes_of es
Kept file (Err x) es = take x.place file ≡ bytes_of es

abbrev pub KeptOfEach : List Visit → List (List Entry) → Type 0
KeptOfEach [] [] = Unit {0}
KeptOfEach [] (es ∷ rest) = ⊥
KeptOfEach (v ∷ vs) [] = ⊥
KeptOfEach (v ∷ vs) (es ∷ rest) = Kept v.file v.answer es × KeptOfEach vs rest

abbrev pub in_order : List (List Entry) → List Entry
in_order [] = []
in_order (es ∷ rest) = es ++ in_order rest

-- The market after some files is the market of the entries that are kept of them, in order.
abbrev pub FilesInOrder : Type 0
FilesInOrder = (m : Market) (vs : List Visit) (n : Market) → AfterFiles m vs n → (kept : List (List Entry)) × KeptOfEach vs kept × Grows m (in_order kept) n
