-- What an order's own numbers gain is its term in the surplus of its basket and of its loop.
use Rattle.std.proofs.Common.{◌≡◌, ℕ, ◌≤◌, length, ℤ, ◌+ℤ◌, ◌∙◌, ap₂, arith}
use Rattle.std.proofs.lemmas.Int.{ints}
use Rattle.numbers.specs.Sums.{Term, Summed}
use Rattle.market.specs.Market.{Market}
use Rattle.rules.specs.Prices.{parent_surplus, basket_extra, basket_surplus}
use Rattle.rules.proofs.Compared.{cast64}

module _ (m : Market) (X Y : ℕ → ℤ) where
  pub basket_surplus_term : (b : ℕ) (p z : ℤ) → length m.extras ≤ 96 → Term (parent_surplus m X 1 Y) 11987880120000 b p → Summed (basket_extra m X 1 Y b) 11987880120000 (length m.extras) z
      → Term (basket_surplus m X 1 Y) 1162824371640000 b (cast64 (cast64 p +ℤ cast64 z))
  basket_surplus_term b p z few t u =
      let v = t.small in
      let w = u.small in
      let e : cast64 (cast64 p +ℤ cast64 z) ≡ p +ℤ z = omega (arith, ints) in
      record { is = e ∙ ap₂ ◌+ℤ◌ t.is u.is; small = (omega (arith, ints), omega (arith, ints)) }
