use Rattle.std.proofs.Common.{◌≡◌, ℕ, not, ◌&&◌, eqb, leb, length, get_or, ap, ◌∙◌, rules, tests}
use Rattle.numbers.specs.Searches.{any_to}
use Rattle.std.proofs.lemmas.Iterator.{YieldsList-from_slice}
use Rattle.std.proofs.lemmas.Iterator.Adapters.{YieldsList-from_skip}
use Rattle.std.proofs.lemmas.Iterator.Search.{any_from_yields_List}
use Rattle.market.specs.Services.{terms}
use Rattle.market.proofs.Searching.{any_past}
use Rattle.market.proofs.entries.Service.strays.Goals as goal

pub returns : goal.returns
returns c =
    let qs = c.args.quantities in
    let n = (terms c.args.self).products in
    let f = λ (q : ℕ). not (eqb q 0) in
    let six : length qs ≡ 6 = search rules in
    any_from_yields_List f _ _ c.any.result c.any.ensures.ran (YieldsList-from_skip n (YieldsList-from_slice qs cc) (search rules)) (λ x b q k. search (rules, tests)) ∙ any_past 0 n qs f ∙ ap (λ m. any_to m (λ p. leb n p && f (get_or qs p 0))) six
