-- The files are read into their numbers.
use Rattle.std.proofs.Common.{◌≡◌, ℕ, zero, suc, ◌<◌, List, [], ◌∷◌, take, drop, ℤ, pos, Some, None, Ok, refl, arith}
use lib.Count.{ones}
use Rattle.numbers.specs.Searches.{any_to}
use Rattle.records.specs.Read.{Content, read, fields}
use Rattle.records.specs.Write.{digits}
use Rattle.market.specs.Figures.{market}
use Rattle.market.specs.Lawful.{Lawful}
use Rattle.market.proofs.Books.{Lined, lined_lawful}
use Rattle.rules.specs.Clearings.{Clearing}
use Rattle.rules.specs.Prices.{PriceList}
use Rattle.rules.specs.Scratch.{parts_in, prices_in}
use Rattle.clearing.specs.declared.marks.Mark.{Mark}
use Rattle.clearing.specs.declared.marks.Mark.TheVariants.{Parts, Price}
use Rattle.clearing.specs.Files.{kinds, fault_of, Reads, InOrder}
use Rattle.clearing.specs.Marks.{bytes_of, marked}
use Rattle.clearing.proofs.Lists.{is_clearing, is_price_list}
use Rattle.clearing.proofs.Numbers.{marked_limits}
use Rattle.figures.specs.Figures.{full_file, full, half_file, half}

none : (P : ℕ → Type 0) (k : ℕ) → k < 0 → P k
none P k h = absurd (omega arith)

one : (P : ℕ → Type 0) → P 0 → (k : ℕ) → k < 1 → P k
one P a zero h = a
one P a (suc k) h = absurd (omega arith)

two : (P : ℕ → Type 0) → P 0 → P 1 → (k : ℕ) → k < 2 → P k
two P a b zero h = a
two P a b (suc zero) h = b
two P a b (suc (suc k)) h = absurd (omega arith)

lined : Lined market
unfolding any_to
lined = record { few_windows = omega arith; few_buys = omega arith; few_baskets = omega arith; few_extras = omega arith; spans = one _ refl; apart = one _ refl; buys = one _ refl; bought = one _ refl; baskets = two _ refl refl; placed = two _ refl refl; looped = two _ refl refl; extras = none _; added = none _ }

lawful : Lawful market
lawful = lined_lawful market lined

-- what a record of two fields says
abbrev said : ℕ → ℤ → ℤ → ℕ → Content
said kind a b size = record { kind = kind; fields = a ∷ b ∷ pos 0 ∷ pos 0 ∷ pos 0 ∷ pos 0 ∷ pos 0 ∷ pos 0 ∷ pos 0 ∷ pos 0 ∷ pos 0 ∷ pos 0 ∷ pos 0 ∷ pos 0 ∷ pos 0 ∷ pos 0 ∷ []; size = size }

abbrev pub in_full : ℕ → List Mark
in_full price = Parts (pos 0) (pos 10000) ∷ Parts (pos 64) (pos 10000) ∷ Parts (pos 65) (pos 10000) ∷ Price (pos 0) (pos price) ∷ []

abbrev pub in_half : List Mark
in_half = Parts (pos 0) (pos 5000) ∷ Parts (pos 64) (pos 10000) ∷ Price (pos 0) (pos 3000) ∷ []

first : (high low : ℕ) → read kinds (drop 0 (full_file high low)) ≡ Ok (said 6 (pos 0) (pos 10000) 7)
unfolding fields ones
first high low = refl

second : (high low : ℕ) → read kinds (drop 7 (full_file high low)) ≡ Ok (said 6 (pos 64) (pos 10000) 11)
unfolding fields ones
second high low = refl

third : (high low : ℕ) → read kinds (drop 18 (full_file high low)) ≡ Ok (said 6 (pos 65) (pos 10000) 11)
unfolding fields ones
third high low = refl

-- a price file of all in full, by its last record
reads_full : (high low price : ℕ) → read kinds (drop 29 (full_file high low)) ≡ Ok (said 7 (pos 0) (pos price) 7)
    → fault_of market (Some (Parts (pos 65) (pos 10000))) (Price (pos 0) (pos price)) ≡ None
    → take 36 (full_file high low) ≡ bytes_of (in_full price) → Reads market (full_file high low) (Ok tt) (full price)
reads_full high low price r f b = record {
  runs = record {
    marks = in_full price;
    place = 36;
    last = Some (Price (pos 0) (pos price));
    run = (said 6 (pos 0) (pos 10000) 7, first high low, refl, refl, (said 6 (pos 64) (pos 10000) 11, second high low, refl, refl, (said 6 (pos 65) (pos 10000) 11, third high low, refl, refl, (said 7 (pos 0) (pos price) 7, r, refl, f, (refl, refl)))));
    ends = refl;
    are = refl;
  };
  bytes = b;
  ordered = (refl, (refl, (refl, (f, tt))));
}

pub reads_7000 : Reads market (full_file 27 88) (Ok tt) (full 7000)
unfolding fields digits ones
reads_7000 = reads_full 27 88 7000 refl refl refl

pub reads_6999 : Reads market (full_file 27 87) (Ok tt) (full 6999)
unfolding fields digits ones
reads_6999 = reads_full 27 87 6999 refl refl refl

pub reads_9000 : Reads market (full_file 35 40) (Ok tt) (full 9000)
unfolding fields digits ones
reads_9000 = reads_full 35 40 9000 refl refl refl

pub reads_9001 : Reads market (full_file 35 41) (Ok tt) (full 9001)
unfolding fields digits ones
reads_9001 = reads_full 35 41 9001 refl refl refl

pub reads_half : Reads market half_file (Ok tt) half
unfolding fields digits ones
reads_half = record {
  runs = record {
    marks = in_half;
    place = 25;
    last = Some (Price (pos 0) (pos 3000));
    run = (said 6 (pos 0) (pos 5000) 7, refl, refl, refl, (said 6 (pos 64) (pos 10000) 11, refl, refl, refl, (said 7 (pos 0) (pos 3000) 7, refl, refl, refl, (refl, refl))));
    ends = refl;
    are = refl;
  };
  bytes = refl;
  ordered = (refl, (refl, (refl, tt)));
}

-- marks in order are a clearing's parts and a price list
pub are_parts : (xs : List Mark) → InOrder market None xs → Clearing market 10000 (parts_in (marked xs))
are_parts xs ok = is_clearing market lawful (marked xs) (marked_limits market lawful xs ok)

pub are_prices : (xs : List Mark) → InOrder market None xs → PriceList market 1 (prices_in (marked xs))
are_prices xs ok = is_price_list market lawful (marked xs) (marked_limits market lawful xs ok)
