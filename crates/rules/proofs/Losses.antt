-- What an order's own numbers tell of the price rules.
use Rattle.std.proofs.Common.{◌≡◌, ℕ, Bool, false, ℤ, pos, ◌<ℤ◌, Decides, sym, ap, ◌∙◌, subst, inr, ⊎_elim}
use Rattle.std.proofs.lemmas.Bool.Decides.{Decides-like}
use Rattle.market.specs.declared.entries.Buy.{Buy}
use Rattle.market.specs.declared.entries.Basket.{Basket}
use Rattle.market.specs.Market.{Market, buy_at, basket_at}
use Rattle.rules.specs.Prices.{price_of, loop_surplus}
use Rattle.rules.specs.Broken.{FirstOf, BasketLoses, BuyOvercharged}
use Rattle.rules.proofs.Compared.{refutes}
use Rattle.rules.proofs.Terms.{first_one}

module _ (m : Market) (X Y : ℕ → ℤ) where
  pub overcharged_decides : (i : ℕ) (o : Buy) (y : ℤ) (t : Bool) → o ≡ buy_at m i → pos 0 <ℤ X i → o.permit ≡ false → y ≡ price_of Y o.window o.product
      → Decides t (o.price <ℤ y) → Decides t (BuyOvercharged m X Y i)
  overcharged_decides i o y t e a f g d = subst (λ (o : Buy). Decides t ((pos 0 <ℤ X i) × (o.permit ≡ false) × (o.price <ℤ price_of Y o.window o.product))) e
      (Decides-like t (λ l. (a, f, subst (λ z. o.price <ℤ z) g l)) (λ h. subst (λ z. o.price <ℤ z) (sym g) h.2) d)

  module _ (b : ℕ) (o : Basket) (e : o ≡ basket_at m b) where
    ring_is : o.ring ≡ (basket_at m b).ring
    ring_is = ap (λ (o : Basket). o.ring) e

    pub not_first : (c : ℕ) → (o.ring ≡ 0 → ⊥) → FirstOf m b c → (c ≡ b → ⊥) → Decides false (BasketLoses m X Y b)
    not_first c h f n = refutes (⊎_elim (λ w. h (ring_is ∙ w.0)) (λ w. n (first_one m b c b f w.1)))

    pub looped_sunk : (c : ℕ) (t : Bool) → (o.ring ≡ 0 → ⊥) → FirstOf m b c → c ≡ b → Decides t (loop_surplus m X 1 Y o.ring <ℤ pos 0) → Decides t (BasketLoses m X Y b)
    looped_sunk c t h f s d = Decides-like t
        (λ l. inr ((λ q. h (ring_is ∙ q)), subst (FirstOf m b) s f, l))
        (⊎_elim (λ w. absurd (h (ring_is ∙ w.0))) (λ w. w.2))
        (subst (λ r. Decides t (loop_surplus m X 1 Y r <ℤ pos 0)) ring_is d)
