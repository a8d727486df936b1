-- Which row stands at which number.
use Rattle.std.proofs.Common.{◌≡◌, ℕ, ◌+◌, ◌-◌, ◌*◌, ◌/◌, ◌%◌, ◌<◌, ◌≤◌, true, cond, not, ltb, length, ap, ◌∙◌, ap₂, arith}
use Rattle.std.proofs.lemmas.Bool.{cond-true, cond-false, cond_both, lt-ltb, le-ltb, ne_eqb, ltb-true, ltb-false, and_from}
use Rattle.market.specs.Market.{Market, basket_at, extra_at, is_child}
use Rattle.auction.specs.Acceptance.{row_at, child_row, substitutes_row, loop_row, unit_row, looped}
use Rattle.auction.specs.declared.rows.Row.{Row}
use Rattle.auction.specs.declared.rows.Row.TheVariants.{Line, Child, Substitutes, Family, AtMostFirst, AtLeastFirst, Unit, Zero}

-- what holds of every row that the table lists holds at every number
pub at_each : (m : Market) (P : Row → Type 0)
    → ((l : ℕ) → l < 192 → P (Line l)) → ((k : ℕ) → k < 96 → P (child_row m k)) → ((b : ℕ) → b < 96 → P (substitutes_row m b))
    → ((f : ℕ) → 1 ≤ f → f ≤ 64 → P (Family f)) → ((b s : ℕ) → b < 96 → P (loop_row m b s)) → ((b : ℕ) → P (unit_row m b))
    → (r : ℕ) → P (row_at m r)
at_each m P a b c d e f r =
    cond_both (ltb r 192) _ _ P (λ t. a r (ltb-true r 192 t)) (λ t.
    let t1 : 192 ≤ r = ltb-false r 192 t in
    cond_both (ltb r 288) _ _ P (λ u. b (r - 192) (let u1 = ltb-true r 288 u in omega arith)) (λ u.
    let u1 : 288 ≤ r = ltb-false r 288 u in
    cond_both (ltb r 384) _ _ P (λ v. c (r - 288) (let v1 = ltb-true r 384 v in omega arith)) (λ v.
    let v1 : 384 ≤ r = ltb-false r 384 v in
    cond_both (ltb r 448) _ _ P (λ w. let w1 = ltb-true r 448 w in d (r - 383) (omega arith) (omega arith)) (λ w.
    let w1 : 448 ≤ r = ltb-false r 448 w in
    cond_both (ltb r 640) _ _ P (λ x. e ((r - 448) / 2) ((r - 448) % 2) (let x1 = ltb-true r 640 x in omega arith)) (λ x.
    let x1 : 640 ≤ r = ltb-false r 640 x in
    f (r - 640))))))

past : (r n : ℕ) (x y : Row) → n ≤ r → cond (ltb r n) x y ≡ y
past r n x y h = cond-false (ltb r n) x y (le-ltb r n h)

within : (r n : ℕ) (x y : Row) → r < n → cond (ltb r n) x y ≡ x
within r n x y h = cond-true (ltb r n) x y (lt-ltb r n h)

module _ (m : Market) where
  pub row_line : (l : ℕ) → l < 192 → row_at m l ≡ Line l
  row_line l h = within l 192 _ _ h

  pub row_child : (k : ℕ) → k < 96 → k < length m.extras → is_child (extra_at m k).role ≡ true → row_at m (192 + k) ≡ Child k
  row_child k h g t =
      let e : 192 + k - 192 ≡ k = omega arith in
      past (192 + k) 192 _ _ (omega arith) ∙ within (192 + k) 288 _ _ (omega arith) ∙ ap (child_row m) e
      ∙ cond-true _ (Child k) Zero (and_from _ _ (lt-ltb k (length m.extras) g) t)

  pub row_substitutes : (b : ℕ) → b < 96 → b < length m.baskets → row_at m (288 + b) ≡ Substitutes b
  row_substitutes b h g =
      let e : 288 + b - 288 ≡ b = omega arith in
      past (288 + b) 192 _ _ (omega arith) ∙ past (288 + b) 288 _ _ (omega arith) ∙ within (288 + b) 384 _ _ (omega arith) ∙ ap (substitutes_row m) e
      ∙ within b (length m.baskets) _ _ g

  pub row_family : (f : ℕ) → 1 ≤ f → f ≤ 64 → row_at m (383 + f) ≡ Family f
  row_family f g h =
      let e : 383 + f - 383 ≡ f = omega arith in
      past (383 + f) 192 _ _ (omega arith) ∙ past (383 + f) 288 _ _ (omega arith) ∙ past (383 + f) 384 _ _ (omega arith) ∙ within (383 + f) 448 _ _ (omega arith) ∙ ap Family e

  loop_at : (b s r : ℕ) → b < 96 → s < 2 → 448 + (2 * b + s) ≡ r → row_at m r ≡ loop_row m b s
  loop_at b s r h k e =
      let p : (r - 448) / 2 ≡ b = omega arith in
      let q : (r - 448) % 2 ≡ s = omega arith in
      past r 192 _ _ (omega arith) ∙ past r 288 _ _ (omega arith) ∙ past r 384 _ _ (omega arith) ∙ past r 448 _ _ (omega arith) ∙ within r 640 _ _ (omega arith) ∙ ap₂ (loop_row m) p q

  is_looped : (b : ℕ) → b < length m.baskets → ((basket_at m b).ring ≡ 0 → ⊥) → looped m b ≡ true
  is_looped b g d = and_from _ _ (lt-ltb b (length m.baskets) g) (ap not (ne_eqb (basket_at m b).ring 0 d))

  pub row_at_most : (b : ℕ) → b < 96 → b < length m.baskets → ((basket_at m b).ring ≡ 0 → ⊥) → row_at m (448 + 2 * b) ≡ AtMostFirst b
  row_at_most b h g d = loop_at b 0 (448 + 2 * b) h (omega arith) (omega arith) ∙ cond-true (looped m b) (AtMostFirst b) Zero (is_looped b g d)

  pub row_at_least : (b : ℕ) → b < 96 → b < length m.baskets → ((basket_at m b).ring ≡ 0 → ⊥) → row_at m (449 + 2 * b) ≡ AtLeastFirst b
  row_at_least b h g d = loop_at b 1 (449 + 2 * b) h (omega arith) (omega arith) ∙ cond-true (looped m b) (AtLeastFirst b) Zero (is_looped b g d)

  pub row_unit : (b : ℕ) → b < 96 → b < length m.baskets → row_at m (640 + b) ≡ Unit b
  row_unit b h g =
      let e : 640 + b - 640 ≡ b = omega arith in
      past (640 + b) 192 _ _ (omega arith) ∙ past (640 + b) 288 _ _ (omega arith) ∙ past (640 + b) 384 _ _ (omega arith) ∙ past (640 + b) 448 _ _ (omega arith) ∙ past (640 + b) 640 _ _ (omega arith)
      ∙ ap (unit_row m) e ∙ within b (length m.baskets) _ _ g
