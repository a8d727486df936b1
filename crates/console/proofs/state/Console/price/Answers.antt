use Rattle.std.proofs.Common.{◌≡◌, ℤ, Some, Option, ap, ◌∙◌, w64, to_z, of_z, rules}
use Rattle.market.specs.View.{closed_of}
use Rattle.console.specs.Steps.{lower}
use Rattle.console.proofs.Laws.{prices_lower}
use Rattle.console.proofs.state.Console.price.Goals as goal

pub invariant_of-self-2-clause-prices : goal.invariant_of-self-2-clause-prices
invariant_of-self-2-clause-prices c =
    let s = c.args.self.now in
    let x = c.in_ok-bound.bound in
    let a : to_z w64 (of_z w64 c.lesser.result) ≡ c.lesser.result = search rules in
    let b : to_z w64 (of_z w64 x) ≡ x = search rules in
    let e : ◌≡◌ {A = Option ℤ} (Some (to_z w64 (of_z w64 c.lesser.result))) (lower s.price_bound x) = ap Some a ∙ (c.lesser.ensures ∙ ap (lower s.price_bound) b) in
    prices_lower (closed_of s.market) s.held s.price_bound _ x e s.prices c.in_ok-bound.ensures.bounds
