use Rattle.std.proofs.Common.{◌≡◌, ◌==◌, option_map, ap, ◌∙◌, rules, tests}
use Rattle.std.proofs.lemmas.Iterator.{YieldsList-from_slice}
use Rattle.std.proofs.lemmas.Iterator.Search.{find_from_yields_List}
use Rattle.records.proofs.Counts.{count_found}
use Rattle.records.proofs.heads.field_count.Goals as goal

pub returns : goal.returns
returns c =
    let kinds = c.args.kinds.now in
    let number = c.args.number in
    let first = find_from_yields_List (λ k. k.number == number) _ _ c.find.result c.find.ensures.ran (YieldsList-from_slice kinds cc) (λ x b q k. search (rules, tests)) in
    let mapped : c.map.result ≡ option_map (λ k. k.fields) (option_map (λ k. k.now) c.find.result) = search rules in
    mapped ∙ ap (option_map (λ k. k.fields)) first ∙ count_found kinds number
