use Rattle.std.proofs.Common.{◌∙◌, vec_items, rules, tests}
use Rattle.std.proofs.lemmas.Iterator.{YieldsList-from_slice}
use Rattle.std.proofs.lemmas.Iterator.Search.{any_from_yields_List}
use Rattle.market.specs.declared.entries.Basket.{Basket}
use Rattle.market.specs.Market.{no_basket}
use Rattle.market.specs.Tests.{breaks}
use Rattle.market.proofs.Searching.{any_place}
use Rattle.market.proofs.book.Book.broken.Goals as goal

pub returns : goal.returns
returns c =
    let ws = vec_items c.args.self.now.windows in
    let bs = vec_items c.args.self.now.baskets in
    let f = λ (b : Basket). breaks ws b c.args.basket in
    any_from_yields_List f _ _ c.any.result c.any.ensures.ran (YieldsList-from_slice bs cc) (λ x b q k. search (rules, tests)) ∙ any_place no_basket bs f
