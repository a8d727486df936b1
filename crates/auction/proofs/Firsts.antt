-- What a search by a test finds is the least number that passes it.
use Rattle.std.proofs.Common.{◌≡◌, ℕ, zero, suc, ◌<◌, Bool, true, false, Option, Some, None, refl, sym, add-one, arith}
use Rattle.std.specs.Option.{unwrap_or}
use Rattle.numbers.specs.Searches.{least, Found}
use Rattle.numbers.proofs.Least.{least_start, least_skip, least_found}

least_none : (p : ℕ → Bool) (n : ℕ) → ((k : ℕ) → k < n → p k ≡ false) → least p n ≡ n
least_none p zero h = least_start p
least_none p (suc n) h = let s = least_skip p n (least_none p n (λ k l. h k (omega arith))) (h n (omega arith)) in rw (← add-one) s

pub found_least : (p : ℕ → Bool) (n : ℕ) (answers : ℕ → Bool → Type 0) (found : Option ℕ)
    → Found answers n found → ((k : ℕ) (b : Bool) → k < n → answers k b → b ≡ p k) → unwrap_or found n ≡ least p n
found_least p n answers None f tells = sym (least_none p n (λ k l. sym (tells k false l (f.none refl k l))))
found_least p n answers (Some v) f tells =
    let l = f.within v refl in
    sym (least_found p n v l (least_none p v (λ k g. sym (tells k false (omega arith) (f.fails_below v k refl g)))) (sym (tells v true l (f.passes v refl))))
