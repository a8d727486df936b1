-- What an order's own numbers add, or tell, is the term of the market's sum, or the market's rule.
use Rattle.std.proofs.Common.{◌≡◌, ℕ, ◌+◌, ◌<◌, Bool, cond, ◌&&◌, eqb, ℤ, pos, ◌*ℤ◌, Decides, sym, refl, ap, ◌∙◌, subst, ⊎_elim, arith}
use Rattle.std.proofs.lemmas.Bool.{cases_lt, cond-true, eq-eqb}
use Rattle.std.proofs.lemmas.Bool.Decides.{Decides-like}
use Rattle.numbers.specs.Sums.{Within, Term}
use Rattle.market.specs.declared.entries.Buy.{Buy}
use Rattle.market.specs.declared.entries.Window.{Window}
use Rattle.market.specs.Market.{Market, window_at, buy_at, basket_at, Share}
use Rattle.rules.specs.Clearings.{Exclude, bought_by}
use Rattle.rules.specs.Broken.{LoopUneven, FirstOf}

-- two first ones are one
pub first_one : (m : Market) (b c d : ℕ) → FirstOf m b c → FirstOf m b d → c ≡ d
first_one m b c d f g = ⊎_elim (λ (l : c < d). absurd (g.2 c l f.1)) (λ l. ⊎_elim (λ (k : d < c). absurd (f.2 d k g.1)) (λ k. omega arith) (cases_lt d c)) (cases_lt c d)

module _ (m : Market) (X : ℕ → ℤ) where
  pub uneven_decides : (b c : ℕ) (x y : ℤ) (t : Bool) → ((basket_at m b).ring ≡ 0 → ⊥) → FirstOf m b c → x ≡ X (64 + b) → y ≡ X (64 + c) → Decides t (x ≡ y → ⊥) → Decides t (LoopUneven m X b)
  uneven_decides b c x y t ring f p q d = Decides-like t
      (λ h. (ring, (c, f, λ z. h (p ∙ z ∙ sym q))))
      (λ h z. h.1.2 (sym p ∙ z ∙ q ∙ ap (λ a. X (64 + a)) (first_one m b c h.1.0 f h.1.1)))
      d

  pub exclude_decides : (b c : ℕ) (v w : Window) (t : Bool) → (b ≡ c → ⊥) → (basket_at m b).unit ≡ (basket_at m c).unit
      → v ≡ window_at m (basket_at m b).window → w ≡ window_at m (basket_at m c).window → Decides t (Share v w) → Decides t (Exclude m b c)
  exclude_decides b c v w t two unit e f d = Decides-like t
      (λ h. record { two = two; unit = unit; hour = h.0; first = h.1; second = h.2 })
      (λ h. (h.hour, h.first, h.second))
      (subst (λ (a : Window). Decides t (Share (window_at m (basket_at m b).window) a)) f (subst (λ (a : Window). Decides t (Share a w)) e d))

  pub bought_term : (w p i : ℕ) (o : Buy) (u z : ℤ) → o ≡ buy_at m i → o.window ≡ w → o.product ≡ p → u ≡ X i
      → (z ≡ pos o.quantity *ℤ u) × Within 99990000 z → Term (bought_by m X w p) 99990000 i z
  bought_term w p i o u z e f g h t = record {
    is = t.0 ∙ ap (λ a. pos o.quantity *ℤ a) h ∙ sym (cond-true (eqb o.window w && eqb o.product p) _ _ (rw (eq-eqb _ _ f, eq-eqb _ _ g) refl))
        ∙ ap (λ (o : Buy). cond (eqb o.window w && eqb o.product p) (pos o.quantity *ℤ X i) (pos 0)) e;
    small = t.1;
  }
