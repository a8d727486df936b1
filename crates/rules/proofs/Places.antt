-- What a search by a test found: places that are the numbers themselves, and the first of a loop.
use Rattle.std.proofs.Common.{◌≡◌, ℕ, ◌+◌, ◌<◌, Bool, true, false, length, Option, Some, None, option_map, Decides, sym, refl, ap, subst, arith}
use Rattle.std.proofs.lemmas.Bool.Decides.{not_from_Decides}
use Rattle.numbers.specs.Searches.{Among, Lowest, Found}
use Rattle.numbers.proofs.Lowest.{lowest_placed}
use Rattle.market.specs.Market.{Market, basket_at}
use Rattle.rules.specs.Broken.{FirstOf}
use Rattle.rules.specs.Places.{Placed}
use Rattle.rules.proofs.Compared.{refutes}

from_none : (found : Option ℕ) → option_map (λ k. 0 + k) found ≡ found
from_none None = refl
from_none (Some v) = ap Some (omega arith)

pub lowest_own : (n : ℕ) (P : ℕ → Type 0) (answers : ℕ → Bool → Type 0) (found : Option ℕ)
    → Found answers n found → ((k : ℕ) (b : Bool) → k < n → answers k b → Decides b (P k)) → Lowest (Among 0 n P) found
lowest_own n P answers found h tells = subst (Lowest (Among 0 n P)) (from_none found) (lowest_placed 0 n P answers found h tells)

-- what a search over the orders of one kind found is the lowest of which the test tells
pub lowest_of : (from n : ℕ) (P : ℕ → Type 0) (answers : ℕ → Bool → Type 0) (place : Option ℕ)
    → Placed from answers n place → ((k : ℕ) (b : Bool) → k < n → answers k b → Decides b (P k)) → Lowest (Among from n P) place
lowest_of from n P answers place h tells = subst (Lowest (Among from n P)) (sym h.is) (lowest_placed from n P answers h.found h.search tells)

-- the first of a loop: what a search below b found, else b
pub first_found : (m : Market) (b : ℕ) (answers : ℕ → Bool → Type 0) (found : Option ℕ) (r : ℕ) → b < length m.baskets → Found answers b found
    → ((k : ℕ) (t : Bool) → k < b → answers k t → Decides t ((basket_at m k).ring ≡ (basket_at m b).ring))
    → (found ≡ None → r ≡ b) → ((v : ℕ) → found ≡ Some v → r ≡ v) → FirstOf m b r
first_found m b answers None r l h tells none some = subst (FirstOf m b) (sym (none refl)) (l, refl, λ d k. not_from_Decides false (tells d false k (h.none refl d k)) refl)
first_found m b answers (Some v) r l h tells none some =
    let few = h.within v refl in
    subst (FirstOf m b) (sym (some v refl)) (omega arith, (tells v true few (h.passes v refl)).0 refl, λ d k. not_from_Decides false (tells d false (omega arith) (h.fails_below v d refl k)) refl)

-- whether a search found any
pub found_any : (n : ℕ) (P : ℕ → Type 0) (answers : ℕ → Bool → Type 0) (found : Option ℕ) (t : Bool) → Found answers n found
    → ((k : ℕ) (b : Bool) → k < n → answers k b → Decides b (P k)) → (found ≡ None → t ≡ false) → ((v : ℕ) → found ≡ Some v → t ≡ true)
    → Decides t ((k : ℕ) × (k < n) × P k)
found_any n P answers None t h tells none some = subst (λ (u : Bool). Decides u ((k : ℕ) × (k < n) × P k)) (sym (none refl))
    (refutes (λ w. not_from_Decides false (tells w.0 false w.1 (h.none refl w.0 w.1)) refl w.2))
found_any n P answers (Some v) t h tells none some =
    let few = h.within v refl in
    subst (λ (u : Bool). Decides u ((k : ℕ) × (k < n) × P k)) (sym (some v refl)) ((λ e. (v, few, (tells v true few (h.passes v refl)).0 refl)), λ w. refl)
