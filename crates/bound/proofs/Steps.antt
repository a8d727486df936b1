-- Steps that may give nothing, one after another, and the turns of a loop over the weights.
use Rattle.std.proofs.Common.{◌≡◌, ℕ, ◌+◌, ◌<◌, ◌≤◌, List, length, get_or, drop, ℤ, Some, None, Option, sym, ap, ◌∙◌}
use Rattle.std.proofs.lemmas.List.{at_drop_more, at_drop_all}
use Rattle.bound.specs.declared.leaf.Weight.{Weight}
use Rattle.bound.specs.Leaves.{after, each}

-- a step that gave z
pub went : (o : Option ℤ) (f : ℤ → Option ℤ) {z : ℤ} → Some z ≡ o → after o f ≡ f z
went o f e = sym (ap (λ x. after x f) e)

-- a step that gave nothing
pub stopped : (o : Option ℤ) (f : ℤ → Option ℤ) → None ≡ o → None ≡ after o f
stopped o f e = ap (λ x. after x f) e

-- with i weights done and y reached, what is left leads to where all of them lead
module _ (step : ℤ → Weight → Option ℤ) (ws : List Weight) (start : ℤ) (i : ℕ) (y : ℤ) (inv : each step (drop i ws) y ≡ each step ws start) where
  pub each_more : (d : Weight) {z : ℤ} → i < length ws → Some z ≡ step y (get_or ws i d) → each step (drop (i + 1) ws) z ≡ each step ws start
  each_more d within made = sym (went (step y (get_or ws i d)) (each step (drop (i + 1) ws)) made) ∙ sym (at_drop_more (λ l. each step l y) ws i d within) ∙ inv

  pub each_stops : (d : Weight) → i < length ws → None ≡ step y (get_or ws i d) → None ≡ each step ws start
  each_stops d within refused =
      stopped (step y (get_or ws i d)) (each step (drop (i + 1) ws)) refused ∙ (sym (at_drop_more (λ l. each step l y) ws i d within) ∙ inv)

  pub each_all : length ws ≤ i → Some y ≡ each step ws start
  each_all past = sym (at_drop_all (λ l. each step l y) ws i past) ∙ inv
