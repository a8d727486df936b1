-- The bytes of the small market make that market.
use Rattle.std.proofs.Common.{◌≡◌, ℕ, zero, suc, ◌<◌, false, List, [], ◌∷◌, take, pos, refl, arith}
use Rattle.numbers.specs.Searches.{any_to}
use Rattle.records.specs.Write.{digits}
use Rattle.market.specs.declared.entries.Entry.{Entry}
use Rattle.market.specs.declared.entries.Entry.TheVariants.{OfWindow, OfBuy, OfBasket}
use Rattle.market.specs.declared.entries.Service.TheVariants.{Response}
use Rattle.market.specs.Figures.{bytes, market, Figure}
use Rattle.market.specs.Files.{bytes_of}
use Rattle.market.specs.Market.{Market, empty, put}
use Rattle.market.proofs.Books.{Lined, lined_lawful}

abbrev e_window : Entry
e_window = OfWindow (record { service = Response; start = 0; length = 8 })

abbrev e_buy : Entry
e_buy = OfBuy (record { window = 0; product = 0; quantity = 40; price = pos 9000; family = 0; permit = false })

abbrev e_first : Entry
e_first = OfBasket (record { unit = 1; window = 0; ring = 0; quantities = 20 ∷ 0 ∷ 0 ∷ 0 ∷ 0 ∷ 0 ∷ []; price = pos 3000 })

abbrev e_second : Entry
e_second = OfBasket (record { unit = 2; window = 0; ring = 0; quantities = 20 ∷ 0 ∷ 0 ∷ 0 ∷ 0 ∷ 0 ∷ []; price = pos 7000 })

abbrev entries : List Entry
entries = e_window ∷ e_buy ∷ e_first ∷ e_second ∷ []

none : (P : ℕ → Type 0) (k : ℕ) → k < 0 → P k
none P k h = absurd (omega arith)

one : (P : ℕ → Type 0) → P 0 → (k : ℕ) → k < 1 → P k
one P a zero h = a
one P a (suc k) h = absurd (omega arith)

two : (P : ℕ → Type 0) → P 0 → P 1 → (k : ℕ) → k < 2 → P k
two P a b zero h = a
two P a b (suc zero) h = b
two P a b (suc (suc k)) h = absurd (omega arith)

abbrev m1 : Market
m1 = put empty e_window

abbrev m2 : Market
m2 = put m1 e_buy

abbrev m3 : Market
m3 = put m2 e_first

lined_1 : Lined m1
unfolding any_to
lined_1 = record { few_windows = omega arith; few_buys = omega arith; few_baskets = omega arith; few_extras = omega arith; spans = one _ refl; apart = one _ refl; buys = none _; bought = none _; baskets = none _; placed = none _; looped = none _; extras = none _; added = none _ }

lined_2 : Lined m2
unfolding any_to
lined_2 = record { few_windows = omega arith; few_buys = omega arith; few_baskets = omega arith; few_extras = omega arith; spans = one _ refl; apart = one _ refl; buys = one _ refl; bought = one _ refl; baskets = none _; placed = none _; looped = none _; extras = none _; added = none _ }

lined_3 : Lined m3
unfolding any_to
lined_3 = record { few_windows = omega arith; few_buys = omega arith; few_baskets = omega arith; few_extras = omega arith; spans = one _ refl; apart = one _ refl; buys = one _ refl; bought = one _ refl; baskets = one _ refl; placed = one _ refl; looped = one _ refl; extras = none _; added = none _ }

lined_4 : Lined market
unfolding any_to
lined_4 = record { few_windows = omega arith; few_buys = omega arith; few_baskets = omega arith; few_extras = omega arith; spans = one _ refl; apart = one _ refl; buys = one _ refl; bought = one _ refl; baskets = two _ refl refl; placed = two _ refl refl; looped = two _ refl refl; extras = none _; added = none _ }

are_bytes : take 52 bytes ≡ bytes_of entries
unfolding digits
are_bytes = refl

pub figure : Figure
figure = (
  (λ long. absurd (omega (arith, long))),
  (λ _. record {
    entries = entries;
    place = 52;
    bytes = are_bytes;
    grows = (lined_lawful m1 lined_1, (lined_lawful m2 lined_2, (lined_lawful m3 lined_3, (lined_lawful market lined_4, refl))));
    ends = refl;
  }),
)
