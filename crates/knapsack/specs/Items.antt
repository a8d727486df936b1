-- The four things that may be packed.
use Rattle.std.specs.Prelude.{ℕ, List, [], ◌∷◌, pos, slice_index_or}
use Rattle.knapsack.specs.declared.items.Item.{Item}

abbrev pub items : List Item
items =
    record { value = pos 40; size = pos 5 } ∷ record { value = pos 30; size = pos 4 } ∷ record { value = pos 50; size = pos 6 } ∷ record { value = pos 10; size = pos 3 } ∷ []

abbrev pub nothing : Item
nothing = record { value = pos 0; size = pos 0 }

-- the thing of a number, or nothing beyond the last
abbrev pub item_at : ℕ → Item
item_at v = slice_index_or items v nothing
