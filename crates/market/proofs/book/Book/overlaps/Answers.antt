use Rattle.std.proofs.Common.{◌∙◌, vec_items, rules, tests}
use Rattle.std.proofs.lemmas.Iterator.{YieldsList-from_slice}
use Rattle.std.proofs.lemmas.Iterator.Search.{any_from_yields_List}
use Rattle.market.specs.declared.entries.Window.{Window}
use Rattle.market.specs.Market.{no_window}
use Rattle.market.specs.Tests.{clash}
use Rattle.market.proofs.Searching.{any_place}
use Rattle.market.proofs.book.Book.overlaps.Goals as goal

pub returns : goal.returns
returns c =
    let ws = vec_items c.args.self.now.windows in
    let f = λ (v : Window). clash v c.args.window in
    any_from_yields_List f _ _ c.any.result c.any.ensures.ran (YieldsList-from_slice ws cc) (λ x b q k. search (rules, tests)) ∙ any_place no_window ws f
