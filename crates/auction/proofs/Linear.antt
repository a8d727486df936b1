-- What a row's numbers and right side come to at prices Y over D, and its laws: it is linear in both.
use Rattle.std.proofs.Common.{◌≡◌, ℕ, zero, suc, ◌+◌, ◌-◌, ◌*◌, ◌/◌, ◌%◌, ◌<◌, Bool, true, false, cond, eqb, List, get_or, ℤ, pos, ◌+ℤ◌, ◌-ℤ◌, ◌*ℤ◌, neg_ℤ, sym, refl, ap, ◌∙◌, ap₂, arith}
use lib.IntN.{zero-*ℤ, *ℤ_comm}
use Rattle.std.proofs.lemmas.Int.{ints}
use Rattle.std.proofs.lemmas.Bool.{eq-eqb, ne_eqb, cond-true, cond-false}
use Rattle.numbers.specs.Sums.{sum_to}
use Rattle.numbers.proofs.Integers.{mul_assoc, add_mul, mul_add, neg_mul, mul_neg, one_mul}
use Rattle.numbers.proofs.Sums.{sum_ext, sum_zero, sum_add, sum_neg, sum_split, sum_short}
use Rattle.numbers.proofs.Weighted.{weighted_neg, sum_times}
use Rattle.auction.specs.Orders.{sell_on, total, order_value}
use Rattle.auction.specs.Acceptance.{only}
use Rattle.auction.proofs.Spread.{sum_only, sum_none}
use Rattle.auction.proofs.Worth.{total_sum}

-- terms that are 0 outside a run of 6
pub sum_run : (w : ℕ) (f : ℕ → ℤ) → w < 32 → ((l : ℕ) → (w ≡ l / 6 → ⊥) → f l ≡ pos 0) → sum_to 192 f ≡ sum_to 6 (λ p. f (6 * w + p))
sum_run w f h z =
    let e : 6 * w + (192 - 6 * w) ≡ 192 = omega arith in
    let s = ap (λ (n : ℕ). sum_to n f) e in
    let t = sum_split (6 * w) (192 - 6 * w) f in
    let a = sum_zero (6 * w) f (λ i l. z i (λ x. omega arith)) in
    let b = sum_short 6 (192 - 6 * w) (λ p. f (6 * w + p)) (omega arith) (λ i l. z (6 * w + i) (λ x. omega arith)) in
    omega (arith, ints)

-- what a sell's quantities come to at prices Y
pub sell_sum : (w : ℕ) (qs : List ℕ) (Y : ℕ → ℤ) → w < 32 → sum_to 192 (λ l. pos (sell_on w qs l) *ℤ Y l) ≡ sum_to 6 (λ p. pos (get_or qs p 0) *ℤ Y (6 * w + p))
sell_sum w qs Y h =
    sum_run w (λ l. pos (sell_on w qs l) *ℤ Y l) h
    (λ l d. ap (λ (n : ℕ). pos n *ℤ Y l) (cond-false (eqb w (l / 6)) _ _ (ne_eqb w (l / 6) d)) ∙ zero-*ℤ (Y l))
    ∙ sum_ext 6 (λ p. pos (sell_on w qs (6 * w + p)) *ℤ Y (6 * w + p)) (λ p. pos (get_or qs p 0) *ℤ Y (6 * w + p))
    (λ p l.
    let e : w ≡ (6 * w + p) / 6 = omega arith in
    let r : (6 * w + p) % 6 ≡ p = omega arith in
    ap (λ (n : ℕ). pos n *ℤ Y (6 * w + p)) (cond-true (eqb w ((6 * w + p) / 6)) _ _ (eq-eqb w _ e) ∙ ap (λ (i : ℕ). get_or qs i 0) r))

module _ (D : ℕ) (Y : ℕ → ℤ) where
  unfoldable pub left : (ℕ → ℤ) → ℤ → ℤ
  left c s = sum_to 192 (λ l. c l *ℤ Y l) -ℤ s *ℤ pos D

  pub left_zero : left (λ l. pos 0) (pos 0) ≡ pos 0
  unfolding left
  left_zero = let a = sum_none 192 Y in let b = zero-*ℤ (pos D) in omega (arith, ints)

  pub left_add : (c d : ℕ → ℤ) (s t : ℤ) → left (λ l. c l +ℤ d l) (s +ℤ t) ≡ left c s +ℤ left d t
  unfolding left
  left_add c d s t =
      let a = sum_ext 192 (λ l. (c l +ℤ d l) *ℤ Y l) (λ l. c l *ℤ Y l +ℤ d l *ℤ Y l) (λ l h. add_mul (c l) (d l) (Y l)) in
      let b = sum_add 192 (λ l. c l *ℤ Y l) (λ l. d l *ℤ Y l) in
      let e = add_mul s t (pos D) in
      omega (arith, ints)

  pub left_neg : (c : ℕ → ℤ) (s : ℤ) → left (λ l. neg_ℤ (c l)) (neg_ℤ s) ≡ neg_ℤ (left c s)
  unfolding left
  left_neg c s = let a = weighted_neg 192 c Y in let b = neg_mul s (pos D) in omega (arith, ints)

  pub left_times : (c : ℕ → ℤ) (s x : ℤ) → left (λ l. c l *ℤ x) (s *ℤ x) ≡ x *ℤ left c s
  unfolding left
  left_times c s x =
      let swap : (a b : ℤ) → (a *ℤ x) *ℤ b ≡ (a *ℤ b) *ℤ x = λ (a b : ℤ). mul_assoc a x b ∙ ap (λ (z : ℤ). a *ℤ z) (*ℤ_comm x b) ∙ sym (mul_assoc a b x) in
      let a = sum_ext 192 (λ l. c l *ℤ x *ℤ Y l) (λ l. c l *ℤ Y l *ℤ x) (λ l h. swap (c l) (Y l)) ∙ sum_times 192 (λ l. c l *ℤ Y l) x ∙ *ℤ_comm _ x in
      let b = swap s (pos D) ∙ *ℤ_comm _ x in
      ap₂ ◌-ℤ◌ a b ∙ sym (mul_add x (sum_to 192 (λ l. c l *ℤ Y l)) (neg_ℤ (s *ℤ pos D)) ∙ ap (λ (z : ℤ). x *ℤ sum_to 192 (λ l. c l *ℤ Y l) +ℤ z) (mul_neg x (s *ℤ pos D)))

  pub left_if : (t : Bool) (c : ℕ → ℤ) (s : ℤ) → left (λ l. cond t (c l) (pos 0)) (cond t s (pos 0)) ≡ cond t (left c s) (pos 0)
  left_if true c s = refl
  left_if false c s = left_zero

  pub left_sum : (n : ℕ) (c : ℕ → ℕ → ℤ) (s : ℕ → ℤ) → left (λ l. sum_to n (λ k. c k l)) (sum_to n s) ≡ sum_to n (λ k. left (c k) (s k))
  unfolding sum_to
  left_sum zero c s = left_zero
  left_sum (suc n) c s = left_add (λ l. sum_to n (λ k. c k l)) (c n) (sum_to n s) (s n) ∙ ap (λ (z : ℤ). z +ℤ left (c n) (s n)) (left_sum n c s)

  pub left_only : (j : ℕ) (s : ℤ) → j < 192 → left (only j (pos 1)) s ≡ Y j -ℤ s *ℤ pos D
  unfolding left
  left_only j s h = ap (λ (z : ℤ). z -ℤ s *ℤ pos D) (sum_only 192 j (pos 1) Y h ∙ one_mul (Y j))

  -- a sell: quantity × (line price − D × own price), summed over its products
  pub left_sell : (w : ℕ) (qs : List ℕ) (price : ℤ) → w < 32
      → left (λ l. pos (sell_on w qs l)) (order_value price (total qs)) ≡ sum_to 6 (λ p. pos (get_or qs p 0) *ℤ (Y (6 * w + p) -ℤ pos D *ℤ price))
  unfolding left
  left_sell w qs price h =
      let a = sell_sum w qs Y h in
      let own : ℤ = pos D *ℤ price in
      let t : pos (total qs) ≡ sum_to 6 (λ p. pos (get_or qs p 0)) = total_sum qs in
      let b : price *ℤ pos (total qs) *ℤ pos D ≡ sum_to 6 (λ p. pos (get_or qs p 0) *ℤ (pos D *ℤ price)) =
      *ℤ_comm _ (pos D) ∙ sym (mul_assoc (pos D) price (pos (total qs))) ∙ *ℤ_comm _ (pos (total qs))
      ∙ ap (λ (z : ℤ). z *ℤ (pos D *ℤ price)) t ∙ sym (sum_times 6 (λ p. pos (get_or qs p 0)) (pos D *ℤ price)) in
      let e = sum_ext 6 (λ p. pos (get_or qs p 0) *ℤ (Y (6 * w + p) -ℤ pos D *ℤ price)) (λ p. pos (get_or qs p 0) *ℤ Y (6 * w + p) +ℤ neg_ℤ (pos (get_or qs p 0) *ℤ (pos D *ℤ price)))
      (λ p l. mul_add (pos (get_or qs p 0)) (Y (6 * w + p)) (neg_ℤ (pos D *ℤ price)) ∙ ap (λ (z : ℤ). pos (get_or qs p 0) *ℤ Y (6 * w + p) +ℤ z) (mul_neg (pos (get_or qs p 0)) (pos D *ℤ price))) in
      let f = sum_add 6 (λ p. pos (get_or qs p 0) *ℤ Y (6 * w + p)) (λ p. neg_ℤ (pos (get_or qs p 0) *ℤ (pos D *ℤ price))) in
      let g = sum_neg 6 (λ p. pos (get_or qs p 0) *ℤ (pos D *ℤ price)) in
      ap₂ ◌-ℤ◌ a b ∙ sym (e ∙ f ∙ ap (λ (z : ℤ). sum_to 6 (λ p. pos (get_or qs p 0) *ℤ Y (6 * w + p)) +ℤ z) g)
