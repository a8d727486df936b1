-- What a fixing means along the path: at the root, after a free variable was held, and after it is released.
use Rattle.std.proofs.Common.{◌≡◌, ℕ, ◌+◌, ◌-◌, ◌<◌, List, [], ◌∷◌, ◌++◌, length, take, ℤ, Result, sym, refl, ap, ◌∙◌, arith, length-append}
use Rattle.std.proofs.lemmas.List.{take_at}
use Rattle.records.specs.Readers.{file_of, place_of}
use Rattle.records.specs.declared.Reader.{Reader}
use Rattle.bound.specs.declared.faults.Refusal.{Refusal}
use Rattle.bound.specs.declared.fixing.Fixing.{Fixing}
use Rattle.bound.specs.declared.fixing.Held.{Held}
use Rattle.bound.specs.Tables.{Table, Small}
use Rattle.bound.specs.Layers.{fixed, holding, place, hold_answer, hold_after, without_last}
use Rattle.bound.specs.Paths.{held_of, count_of, below_of, SamePath}
use Rattle.bound.specs.Checks.{node_at}
use Rattle.bound.proofs.Descent.{held_on, fixed_more, fixed_none}

module _ {P : Type 0} (table : P → Table) where
  pub held_count : (f : Fixing P) → length (held_of f) ≡ count_of f
  held_count f = refl

  -- g is f with v held at z
  pub record Deeper (f g : Fixing P) (v : ℕ) (z : ℤ) : Type 0 where
    pub held : held_of g ≡ held_of f ++ (record { variable = v; value = z } ∷ [])
    pub count : count_of g ≡ count_of f + 1
    pub below : below_of g ≡ below_of f
    pub means : holding (fixed (table (below_of f)) (held_of f)) v z ≡ fixed (table (below_of g)) (held_of g)

  pub deeper : (f g : Fixing P) (v : ℕ) (z y : ℤ) (r : Result (Unit {0}) Refusal) → y ≡ z
      → r ≡ hold_answer (table (below_of f)).variables (held_of f) (record { variable = v; value = y })
      → held_of g ≡ hold_after r (held_of f) (record { variable = v; value = y })
      → below_of g ≡ below_of f → Small z → v < (table (below_of f)).variables → place v (held_of f) ≡ count_of f → count_of f < 64 → Deeper f g v z
  deeper f g v z y r same answers holds below small known free room =
      let t = table (below_of f) in
      let h : Held = record { variable = v; value = z } in
      let free' : place v (held_of f) ≡ length (held_of f) = free ∙ sym (held_count f) in
      let held : held_of g ≡ held_of f ++ (h ∷ []) =
      held_on t.variables (held_of f) h r (held_of g)
      (answers ∙ ap (λ z. hold_answer t.variables (held_of f) (record { variable = v; value = z })) same)
      (holds ∙ ap (λ z. hold_after r (held_of f) (record { variable = v; value = z })) same)
      small known free' (omega (arith, held_count f)) in
      record {
        held = held;
        count = omega (arith, held_count f, held_count g, ap length held, length-append (held_of f) (h ∷ []));
        below = below;
        means = sym (fixed_more t (held_of f) h free') ∙ (λ i. fixed (table (sym below i)) (sym held i));
      }

  -- what was held is released again
  pub back_up : (f g g' k : Fixing P) (v : ℕ) (z : ℤ) → Deeper f g v z → SamePath g g' → held_of k ≡ without_last (held_of g') → below_of k ≡ below_of g' → SamePath f k
  back_up f g g' k v z down kept released below =
      let h : Held = record { variable = v; value = z } in
      let size : length (held_of g') - 1 ≡ length (held_of f) = omega (arith, held_count f, held_count g', kept.1, down.count) in
      let held : held_of k ≡ held_of f =
      released ∙ (λ i. take (size i) ((kept.0 ∙ down.held) i)) ∙ take_at (held_of f) (h ∷ []) (length (held_of f)) (λ i. length (held_of f)) in
      (held, sym (held_count k) ∙ ap length held ∙ held_count f, below ∙ kept.2 ∙ down.below)

  -- nothing is held at the root, so that the root is read over the pile itself
  pub started : (t : Table) (file : List ℕ) (below : P) (f : Fixing P) (reader : Reader) → table below ≡ t → below_of f ≡ below → held_of f ≡ [] → file_of reader ≡ file → place_of reader ≡ 0
      → node_at 64 t file 0 ≡ node_at (64 - count_of f) (fixed (table (below_of f)) (held_of f)) (file_of reader) (place_of reader)
  started t file below f reader means over none reads first =
      let depth : 64 ≡ 64 - count_of f = omega (arith, held_count f, ap length none) in
      let here : t ≡ fixed (table (below_of f)) (held_of f) = sym means ∙ sym (fixed_none (table below)) ∙ (λ i. fixed (table (sym over i)) (sym none i)) in
      λ i. node_at (depth i) (here i) (sym reads i) (sym first i)
