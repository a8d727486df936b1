-- No rule is broken exactly where all are kept.
use Rattle.std.proofs.Common.{◌≡◌, ℕ, zero, suc, ◌+◌, ◌*◌, ◌/◌, ◌%◌, ◌<◌, ◌⊎◌, length, ℤ, pos, ◌≤ℤ◌, ◌<ℤ◌, sym, refl, ap, ◌∙◌, subst, inl, inr, ⊎_elim, arith}
use Rattle.std.proofs.lemmas.Int.{ints, by_lt_z}
use Rattle.std.proofs.lemmas.Bool.{cases_eq}
use Rattle.market.specs.Market.{Market, basket_at}
use Rattle.rules.specs.Clearings.{KeepsOrders, bought, sold}
use Rattle.rules.specs.Prices.{KeepsPrices, loop_surplus}
use Rattle.rules.specs.Broken.{Unbroken, FirstOf}
use Rattle.rules.specs.declared.faults.Rule.TheVariants.{WholeParents, ChildrenUnderParents, SubstitutesUnderParents, Families, Loops, Units, Balance, ExtraSurplus, BasketSurplus, BuyPrices}

at_most : (a b : ℤ) → (b <ℤ a → ⊥) → a ≤ℤ b
at_most a b h = by_lt_z b a (λ l. absurd (h l)) (λ l. l)

equal : (a b : ℤ) → ((a ≡ b → ⊥) → ⊥) → a ≡ b
equal a b h = by_lt_z a b (λ l. absurd (h (λ e. omega (arith, ints)))) (λ l. by_lt_z b a (λ g. absurd (h (λ e. omega (arith, ints)))) (λ g. omega (arith, ints)))

one_of : (a b c : ℤ) → ((a ≡ b → ⊥) × (a ≡ c → ⊥) → ⊥) → (a ≡ b) ⊎ (a ≡ c)
one_of a b c h =
    by_lt_z a b (λ l. inr (equal a c (λ d. h ((λ e. omega (arith, ints)), d))))
    (λ l. by_lt_z b a (λ g. inr (equal a c (λ d. h ((λ e. omega (arith, ints)), d)))) (λ g. inl (omega (arith, ints))))

-- where f has a value at all, it has it somewhere first
first : (f : ℕ → ℕ) (r n : ℕ) → ((c : ℕ) → c < n → f c ≡ r → ⊥) ⊎ ((c : ℕ) × (c < n) × (f c ≡ r) × ((d : ℕ) → d < c → f d ≡ r → ⊥))
first f r zero = inl (λ c l _. omega arith)
first f r (suc n) = ⊎_elim
    (λ (h : (c : ℕ) → c < n → f c ≡ r → ⊥). ⊎_elim
    (λ (q : f n ≡ r). inr (n, omega arith, q, h))
    (λ (q : f n ≡ r → ⊥). inl (λ c l e. ⊎_elim (λ (z : c ≡ n). q (ap f (sym z) ∙ e)) (λ (z : c ≡ n → ⊥). h c (omega arith) e) (cases_eq c n)))
    (cases_eq (f n) r))
    (λ (w : (c : ℕ) × (c < n) × (f c ≡ r) × ((d : ℕ) → d < c → f d ≡ r → ⊥)). inr (w.0, (let l = w.1 in omega arith), w.2, w.3))
    (first f r n)

module _ (m : Market) (X Y : ℕ → ℤ) where
  first_of : (b : ℕ) → b < length m.baskets → (c : ℕ) × FirstOf m b c
  first_of b l = ⊎_elim
      (λ (h : (c : ℕ) → c < length m.baskets → (basket_at m c).ring ≡ (basket_at m b).ring → ⊥). absurd (h b l refl))
      (λ (w : (c : ℕ) × (c < length m.baskets) × ((basket_at m c).ring ≡ (basket_at m b).ring) × ((d : ℕ) → d < c → (basket_at m d).ring ≡ (basket_at m b).ring → ⊥)). (w.0, (w.1, w.2, w.3)))
      (first (λ c. (basket_at m c).ring) (basket_at m b).ring (length m.baskets))

  -- the line of a window and a product
  window_of_lem : (w p : ℕ) → p < 6 → (6 * w + p) / 6 ≡ w
  window_of_lem w p l = omega arith

  product_of : (w p : ℕ) → p < 6 → (6 * w + p) % 6 ≡ p
  product_of w p l = omega arith

  pub keeps_orders : Unbroken m X Y → KeepsOrders m 10000 X
  keeps_orders h = record {
    whole_parents = λ b l. one_of _ _ _ (λ p. h WholeParents (64 + b) (b, l, refl, p));
    children = λ k l t. at_most _ _ (λ p. h ChildrenUnderParents (160 + k) (k, l, refl, (t, p)));
    substitutes = λ b l. at_most _ _ (λ p. h SubstitutesUnderParents (64 + b) (b, l, refl, p));
    families = λ f g l. at_most _ _ (λ p. h Families f (f, omega arith, omega arith, (g, p)));
    loops = λ b c l k s z.
        let w = first_of b l in let f = w.1 in
        equal _ _ (λ n. h Loops (64 + b) (b, l, refl, (z, (w.0, f, n))))
        ∙ sym (equal _ _ (λ n. h Loops (64 + c) (c, k, refl, ((λ t. z (s ∙ t)), (w.0, (f.0, f.1 ∙ s, λ d g r. f.2 d g (r ∙ sym s)), n)))));
    units = λ b c l k e p q. h Units (64 + b) (b, l, refl, (c, k, (e, p, q)));
    balance = λ w p l g. subst (λ v. bought m X v p ≤ℤ sold m X v p) (window_of_lem w p g)
        (subst (λ q. bought m X ((6 * w + p) / 6) q ≤ℤ sold m X ((6 * w + p) / 6) q) (product_of w p g)
        (at_most _ _ (λ s. h Balance (6 * w + p) (6 * w + p, omega arith, omega arith, s))));
  }

  pub keeps_prices : Unbroken m X Y → KeepsPrices m X 1 Y
  keeps_prices h = record {
    extras = λ k l p. at_most _ _ (λ q. h ExtraSurplus (160 + k) (k, l, refl, (p, q)));
    unlooped = λ b l z. at_most _ _ (λ q. h BasketSurplus (64 + b) (b, l, refl, inl (z, q)));
    loops = λ b l z. at_most _ _ (λ q.
        let w = first_of b l in let f = w.1 in
        h BasketSurplus (64 + w.0) (w.0, f.0, refl, inr ((λ t. z (sym f.1 ∙ t)), (f.0, refl, λ d g r. f.2 d g (r ∙ f.1)), subst (λ r. loop_surplus m X 1 Y r <ℤ pos 0) (sym f.1) q)));
    buys = λ i l p t. let g = at_most _ _ (λ q. h BuyPrices i (i, l, omega arith, (p, t, q))) in omega (arith, ints);
  }

  pub unbroken : KeepsOrders m 10000 X → KeepsPrices m X 1 Y → Unbroken m X Y
  unbroken k n WholeParents = λ v w. ⊎_elim w.3.0 w.3.1 (k.whole_parents w.0 w.1)
  unbroken k n ChildrenUnderParents = λ v w. let a = k.children w.0 w.1 w.3.0 in let b = w.3.1 in omega (arith, ints)
  unbroken k n SubstitutesUnderParents = λ v w. let a = k.substitutes w.0 w.1 in let b = w.3 in omega (arith, ints)
  unbroken k n Families = λ v w. let l = w.1 in let a = k.families w.0 w.3.0 (omega arith) in let b = w.3.1 in omega (arith, ints)
  unbroken k n Loops = λ v w. w.3.1.2 (k.loops w.0 w.3.1.0 w.1 w.3.1.1.0 (sym w.3.1.1.1) w.3.0)
  unbroken k n Units = λ v w. let c = w.3 in let p = c.2 in k.units w.0 c.0 w.1 c.1 p.0 p.1 p.2
  unbroken k n Balance = λ v w. let l = w.1 in let a = k.balance (w.0 / 6) (w.0 % 6) (omega arith) (omega arith) in let b = w.3 in omega (arith, ints)
  unbroken k n ExtraSurplus = λ v w. let a = n.extras w.0 w.1 w.3.0 in let b = w.3.1 in omega (arith, ints)
  unbroken k n BasketSurplus = λ v w. ⊎_elim
      (λ u. let a = n.unlooped w.0 w.1 u.0 in let b = u.1 in omega (arith, ints))
      (λ u. let a = n.loops w.0 w.1 u.0 in let b = u.2 in omega (arith, ints))
      w.3
  unbroken k n BuyPrices = λ v w. let a = n.buys w.0 w.1 w.3.0 w.3.1 in let b = w.3.2 in omega (arith, ints)
