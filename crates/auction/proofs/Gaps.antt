-- What a bound of a programme says of welfare and cost.
use Rattle.std.proofs.Common.{◌≡◌, ℕ, ℤ, pos, ◌+ℤ◌, ◌-ℤ◌, ◌*ℤ◌, neg_ℤ, ◌≤ℤ◌, IfOk, Ok, Err, Result, sym, ap, ◌∙◌, arith}
use lib.IntN.{*ℤ_comm}
use Rattle.std.proofs.lemmas.Int.{ints}
use Rattle.numbers.proofs.Integers.{mul_add, mul_assoc}
use Rattle.rules.specs.Clearings.{welfare}
use Rattle.rules.specs.Prices.{cost}
use Rattle.auction.specs.Theorems.{WelfareStaysBelow, CostsStayAbove}
use Rattle.auction.proofs.Clearings.{point}
use Rattle.auction.proofs.Worth.{objective_is}
use Rattle.auction.proofs.PriceLists.{price_point}
use Rattle.auction.proofs.Costs.{price_objective}

under : (D : ℕ) (b welfare objective : ℤ) → objective ≡ welfare → (pos 10000 *ℤ objective) ≤ℤ (b *ℤ pos D) → (pos 10000 *ℤ welfare) ≤ℤ (pos D *ℤ b)
under D b welfare objective e h = let c = *ℤ_comm b (pos D) in omega (arith, ints)

pub welfare_below : WelfareStaysBelow
welfare_below m good b bounds D some X cl ok = under D b (welfare m X) _ (objective_is m good X) (bounds D X some (point m good D some X cl ok))

above : (D : ℕ) (b held cost objective : ℤ) → objective ≡ neg_ℤ cost → (pos 1000 *ℤ objective) ≤ℤ (b *ℤ pos D)
    → (pos 1000 *ℤ (pos D *ℤ held -ℤ cost)) ≤ℤ (pos D *ℤ (b +ℤ pos 1000 *ℤ held))
above D b held cost objective e h =
    let s = mul_add (pos D) b (pos 1000 *ℤ held) in
    let t = *ℤ_comm b (pos D) in
    let c : pos D *ℤ (pos 1000 *ℤ held) ≡ pos 1000 *ℤ (pos D *ℤ held) =
    sym (mul_assoc (pos D) (pos 1000) held) ∙ ap (λ (z : ℤ). z *ℤ held) (*ℤ_comm (pos D) (pos 1000)) ∙ mul_assoc (pos 1000) (pos D) held in
    omega (arith, ints)

pub costs_above : CostsStayAbove
costs_above m good X b bounds held D some Y list ok = above D b held (cost m X Y) _ (price_objective m good X Y) (bounds D Y some (price_point m good X D Y list ok))

-- what an accepted file proves
pub made_more : {E : Type 0} (P Q : ℤ → Type 0) → ((b : ℤ) → P b → Q b) → (r : Result ℤ E) → IfOk r P → IfOk r Q
made_more P Q f (Ok b) h = f b h
made_more P Q f (Err e) h = h
