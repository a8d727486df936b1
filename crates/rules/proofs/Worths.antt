-- What an order's own numbers are worth is its term in the market's welfare or cost.
use Rattle.std.proofs.Common.{◌≡◌, ℕ, ◌*◌, ◌≤◌, List, get_or, ℤ, pos, ◌+ℤ◌, ◌-ℤ◌, ◌*ℤ◌, ap, ◌∙◌, ap₂, mul-le-mul_right, arith}
use Rattle.std.proofs.lemmas.Int.{ints}
use Rattle.numbers.specs.Sums.{sum_to, Within, Term, Summed}
use Rattle.market.specs.declared.entries.Buy.{Buy}
use Rattle.market.specs.Market.{Market, buy_at}
use Rattle.rules.specs.Clearings.{worth, buy_worth}
use Rattle.rules.specs.Prices.{price_of, product_payment}
use Rattle.rules.proofs.Compared.{cast, cast64, casts, casts_parts}

-- what is at most q × a is at most n × a, where q ≤ n
pub within_more : (q n a : ℕ) (z : ℤ) → q ≤ n → Within (q * a) z → Within (n * a) z
within_more q n a z l w = let h : q * a ≤ n * a = mul-le-mul_right a l in (omega (arith, ints), omega (arith, ints))

pub payment_term : (Y : ℕ → ℤ) (w : ℕ) (qs : List ℕ) (parts : ℤ) (p : ℕ) (u v z : ℤ) → u ≡ price_of Y w p → v ≡ parts → get_or qs p 0 ≤ 999
    → (z ≡ u *ℤ pos (get_or qs p 0) *ℤ v) × Within (get_or qs p 0 * 999990000) z → Term (product_payment Y w qs parts) 998990010000 p z
payment_term Y w qs parts p u v z e f l t = record { is = t.0 ∙ ap₂ (λ a b. a *ℤ pos (get_or qs p 0) *ℤ b) e f; small = within_more (get_or qs p 0) 999 999990000 z l t.1 }

module _ (m : Market) (X : ℕ → ℤ) where
  pub buy_worth_term : (i : ℕ) (o : Buy) (x z : ℤ) → o ≡ buy_at m i → Within 99999 o.price → o.quantity ≤ 9999 → x ≡ X i → Within 10000 x
      → (z ≡ cast o.price *ℤ pos o.quantity *ℤ cast x) × Within (o.quantity * 999990000) z → Term (buy_worth m X) 9998900010000 i z
  buy_worth_term i o x z e u l f v t = record {
    is = t.0 ∙ ap₂ (λ a b. a *ℤ pos o.quantity *ℤ b) (casts o.price u) (casts_parts x v ∙ f) ∙ ap (λ (o : Buy). worth o.price o.quantity (X i)) e;
    small = within_more o.quantity 9999 999990000 z l t.1;
  }

-- what two kinds of orders are worth, or are paid, together
pub both_sums : (f g : ℕ → ℤ) (n k : ℕ) (a b : ℤ) → n ≤ 96 → k ≤ 96 → Summed f 5993940060000 n a → Summed g 5993940060000 k b
    → (cast64 (cast64 a +ℤ cast64 b) ≡ sum_to n f +ℤ sum_to k g) × Within 1150836491520000 (cast64 (cast64 a +ℤ cast64 b))
both_sums f g n k a b few less t u =
    let v = t.small in
    let w = u.small in
    let e : cast64 (cast64 a +ℤ cast64 b) ≡ a +ℤ b = omega (arith, ints) in
    (e ∙ ap₂ ◌+ℤ◌ t.is u.is, (omega (arith, ints), omega (arith, ints)))

-- and what is left of what buys are worth
pub less_sums : (f : ℕ → ℤ) (i : ℕ) (x y z : ℤ) → i ≤ 64 → Summed f 9998900010000 i x → y ≡ z → Within 1150836491520000 y
    → Within 5000000000000000 (cast64 x -ℤ y) × (cast64 (cast64 x -ℤ y) ≡ sum_to i f -ℤ z) × Within 5000000000000000 (cast64 (cast64 x -ℤ y))
less_sums f i x y z few t d s =
    let v = t.small in
    let e : cast64 (cast64 x -ℤ y) ≡ x -ℤ y = omega (arith, ints) in
    ((omega (arith, ints), omega (arith, ints)), e ∙ ap₂ ◌-ℤ◌ t.is d, (omega (arith, ints), omega (arith, ints)))
