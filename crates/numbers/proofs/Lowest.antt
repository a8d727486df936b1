-- A loop that looks for the lowest entry at which P holds, once for every rule.
use Rattle.std.proofs.Common.{◌≡◌, ℕ, ◌+◌, ◌<◌, ◌≤◌, Bool, true, false, Option, Some, None, option_map, Decides, refl, arith, below_more}
use Rattle.std.proofs.lemmas.Bool.Decides.{not_from_Decides}
use Rattle.numbers.specs.Searches.{Among, Lowest, Passed, Found}

pub passed_more : (P : ℕ → Type 0) (k : ℕ) → Passed P k → (P k → ⊥) → Passed P (k + 1)
passed_more P k h p = below_more (λ j. P j → ⊥) k h p

pub lowest_none : (from n k : ℕ) (P : ℕ → Type 0) → n ≤ k → Passed P k → Lowest (Among from n P) None
lowest_none from n k P l h = λ v w. h w.0 (let g = w.1 in omega arith) w.3

pub lowest_some : (from n k : ℕ) (P : ℕ → Type 0) → k < n → Passed P k → P k → Lowest (Among from n P) (Some (from + k))
lowest_some from n k P l h p = ((k, l, omega arith, p), λ v s w. h w.0 (let e : v ≡ from + w.0 = w.2 in omega arith) w.3)

-- at places that are the entries' own numbers
pub lowest_here : (n k : ℕ) (P : ℕ → Type 0) → k < n → Passed P k → P k → Lowest (Among 0 n P) (Some k)
lowest_here n k P l h p = ((k, l, omega arith, p), λ v s w. h w.0 (let e : v ≡ 0 + w.0 = w.2 in omega arith) w.3)

-- what a search by a test found is the lowest entry of which the test tells
pub lowest_placed : (from n : ℕ) (P : ℕ → Type 0) (answers : ℕ → Bool → Type 0) (found : Option ℕ)
    → Found answers n found → ((k : ℕ) (b : Bool) → k < n → answers k b → Decides b (P k)) → Lowest (Among from n P) (option_map (λ k. from + k) found)
lowest_placed from n P answers None h tells = λ v w. not_from_Decides false (tells w.0 false w.1 (h.none refl w.0 w.1)) refl w.3
lowest_placed from n P answers (Some v) h tells =
    let few = h.within v refl in
    lowest_some from n v P few (λ k l. not_from_Decides false (tells k false (omega arith) (h.fails_below v k refl l)) refl) ((tells v true few (h.passes v refl)).0 refl)
