use Rattle.std.proofs.Common.{◌≡◌, ℕ, ◌+◌, ◌-◌, ◌≤◌, length}
use Rattle.records.specs.Readers.{file_of, place_of}
use Rattle.bound.specs.Checks.{next_row, leaf_at, found_at}
use Rattle.bound.proofs.tree.open.Given as goal

-- the weights that are read are of rising rows, and what is left to read decides
abbrev pub invariant-loop-variable : goal.invariant-loop-variable
invariant-loop-variable g l =
    let file = file_of l.initial.reader.reader in
    let t = g.P.Programme.table l.programme in
    let ws = l.leaf.weights.items in
    record {
      same : file_of l.reader.reader ≡ file;
      over : l.leaf.programme.now ≡ l.programme;
      rows : length ws ≤ next_row ws;
      known : next_row ws ≤ t.rows;
      leads : (n : ℕ) × (length file ≤ n + place_of l.reader.reader)
          × (found_at t file (place_of l.initial.reader.reader) ≡ leaf_at n t file ws (place_of l.reader.reader));
    }

abbrev pub decreases-loop-variable : goal.decreases-loop-variable
decreases-loop-variable g l = length (file_of l.reader.reader) - place_of l.reader.reader
