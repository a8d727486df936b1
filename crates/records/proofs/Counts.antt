-- Looking for a kind among a file's kinds. Assumes nothing.
use Rattle.std.proofs.Common.{◌≡◌, ◌==◌, ℕ, cond, true, false, List, [], ◌∷◌, Some, refl, option_map}
use Rattle.std.specs.List.{find}
use Rattle.records.specs.declared.Kind.{Kind}
use Rattle.records.specs.Read.{field_count}

pub count_found : (kinds : List Kind) (k : ℕ) → option_map (λ e. e.fields) (find (λ e. e.number == k) kinds) ≡ field_count kinds k
count_found [] k = refl
count_found (e ∷ es) k =
    elim (e.number == k) as (λ b. option_map (λ e. e.fields) (cond b (Some e) (find (λ e. e.number == k) es)) ≡ cond b (Some e.fields) (field_count es k)) [ true ↦ refl | false ↦ count_found es k ]
