-- The part of one variable, and the turns of the loop over the variables.
use Rattle.std.proofs.Common.{◌≡◌, ℕ, suc, ◌+◌, ◌-◌, ◌<◌, List, ℤ, Some, None, sym, ap, ◌∙◌, arith}
use Rattle.std.specs.Int.{int_max}
use Rattle.bound.specs.declared.leaf.Weight.{Weight}
use Rattle.bound.specs.Tables.{Table}
use Rattle.bound.specs.Leaves.{after, plus, times, rest_of, peak, part, parts}
use Rattle.bound.proofs.Steps.{went, stopped}

pub part_is : (t : Table) (ws : List Weight) (v : ℕ) {r a b : ℤ} → Some r ≡ rest_of t ws v → Some a ≡ times r (t.low v) → Some b ≡ times r (t.high v) → Some (int_max a b) ≡ part t ws v
part_is t ws v {r} rest low high = sym (went (rest_of t ws v) (peak t v) rest ∙ went (times r (t.low v)) _ low ∙ went (times r (t.high v)) _ high)

pub high_refused : (t : Table) (ws : List Weight) (v : ℕ) {r a : ℤ} → Some r ≡ rest_of t ws v → Some a ≡ times r (t.low v) → None ≡ times r (t.high v) → None ≡ part t ws v
high_refused t ws v {r} {a} rest low high =
    stopped (times r (t.high v)) (λ b. Some (int_max a b)) high
    ∙ sym (went (rest_of t ws v) (peak t v) rest ∙ went (times r (t.low v)) (λ a. after (times r (t.high v)) (λ b. Some (int_max a b))) low)

-- with v variables of n done and y reached, what is left leads to where all of them lead
module _ (t : Table) (ws : List Weight) (n : ℕ) (start : ℤ) (v : ℕ) (y : ℤ) (inv : parts t ws (n - v) v y ≡ parts t ws n 0 start) (within : v < n) where
  -- from v on, its part comes first
  turn : parts t ws n 0 start ≡ after (part t ws v) (λ p. after (plus y p) (parts t ws (n - (v + 1)) (v + 1)))
  turn =
      let left : n - v ≡ suc (n - (v + 1)) = omega arith in
      sym inv ∙ ap (λ k. parts t ws k v y) left

  pub part_refused : None ≡ part t ws v → None ≡ parts t ws n 0 start
  part_refused refused = stopped (part t ws v) _ refused ∙ sym turn

  module _ {p : ℤ} (made : Some p ≡ part t ws v) where
    turn_sum : parts t ws n 0 start ≡ after (plus y p) (parts t ws (n - (v + 1)) (v + 1))
    turn_sum = turn ∙ went (part t ws v) _ made

    pub sum_refused : None ≡ plus y p → None ≡ parts t ws n 0 start
    sum_refused refused = stopped (plus y p) _ refused ∙ sym turn_sum

    pub parts_more : {z : ℤ} → Some z ≡ plus y p → parts t ws (n - (v + 1)) (v + 1) z ≡ parts t ws n 0 start
    parts_more added = sym (turn_sum ∙ went (plus y p) _ added)
