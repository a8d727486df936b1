-- The tests of windows and baskets decide what they are named for.
use Rattle.std.proofs.Common.{◌≡◌, ℕ, zero, suc, ◌+◌, ◌<◌, ◌≤◌, max, Bool, true, ◌&&◌, eqb, ltb, leb, ◌⊎◌, List, Decides, sym, ap, ◌∙◌, arith}
use Rattle.std.proofs.lemmas.Bool.{and_parts, and_from, le-leb, leb-true, ltb-true, lt-ltb}
use Rattle.std.proofs.lemmas.Bool.Decides.{Decides-and, Decides-or, Decides-not, Decides-eqb, Decides-like}
use Rattle.market.specs.declared.entries.Service.{Service}
use Rattle.market.specs.declared.entries.Window.{Window}
use Rattle.market.specs.declared.entries.Basket.{Basket}
use Rattle.market.specs.Services.{terms, service_of}
use Rattle.market.specs.Market.{window_in, Share}
use Rattle.market.specs.Tests.{shares, clash, breaks}
use Rattle.market.proofs.Naming.{service_back}

pub dec_leb : (a b : ℕ) → Decides (leb a b) (a ≤ b)
dec_leb a b = (leb-true a b, le-leb a b)

-- six of a kind
pub six : (P : ℕ → Type 0) → P 0 → P 1 → P 2 → P 3 → P 4 → P 5 → (p : ℕ) → p < 6 → P p
six P a b c d e f zero h = a
six P a b c d e f (suc zero) h = b
six P a b c d e f (suc (suc zero)) h = c
six P a b c d e f (suc (suc (suc zero))) h = d
six P a b c d e f (suc (suc (suc (suc zero)))) h = e
six P a b c d e f (suc (suc (suc (suc (suc zero))))) h = f
six P a b c d e f (suc (suc (suc (suc (suc (suc p)))))) h = absurd (omega arith)

pub dec_six : (f : ℕ → Bool) (P : ℕ → Type 0) → ((p : ℕ) → Decides (f p) (P p)) → Decides (f 0 && (f 1 && (f 2 && (f 3 && (f 4 && f 5))))) ((p : ℕ) → p < 6 → P p)
dec_six f P each = (
  (λ h.
      let a = and_parts (f 0) _ h in
      let b = and_parts (f 1) _ a.1 in
      let c = and_parts (f 2) _ b.1 in
      let d = and_parts (f 3) _ c.1 in
      let e = and_parts (f 4) (f 5) d.1 in
      six P ((each 0).0 a.0) ((each 1).0 b.0) ((each 2).0 c.0) ((each 3).0 d.0) ((each 4).0 e.0) ((each 5).0 e.1)),
  (λ h.
      let at : (p : ℕ) → p < 6 → f p ≡ true = λ p l. (each p).1 (h p l) in
      and_from (f 0) _ (at 0 (omega arith)) (and_from (f 1) _ (at 1 (omega arith)) (and_from (f 2) _ (at 2 (omega arith)) (and_from (f 3) _ (at 3 (omega arith)) (and_from (f 4) (f 5) (at 4 (omega arith)) (at 5 (omega arith))))))),
)

pub same_service : (a b : Service) → (terms a).number ≡ (terms b).number → a ≡ b
same_service a b e = sym (service_back a) ∙ ap service_of e ∙ service_back b

pub dec_shares : (v w : Window) → 1 ≤ v.length → 1 ≤ w.length → Decides (shares v w) (Share v w)
dec_shares v w h k = (
  (λ t.
      let p = and_parts (ltb v.start (w.start + w.length)) (ltb w.start (v.start + v.length)) t in
      let a = ltb-true v.start (w.start + w.length) p.0 in
      let b = ltb-true w.start (v.start + v.length) p.1 in
      (max v.start w.start, (omega arith, omega arith), (omega arith, omega arith))),
  (λ x. and_from _ _ (lt-ltb v.start (w.start + w.length) (omega (arith, x.1.0, x.2.1))) (lt-ltb w.start (v.start + v.length) (omega (arith, x.2.0, x.1.1)))),
)

pub dec_clash : (v w : Window) → 1 ≤ v.length → 1 ≤ w.length → Decides (clash v w) ((v.service ≡ w.service) × Share v w)
dec_clash v w h k =
    Decides-and (eqb (terms v.service).number (terms w.service).number) (shares v w)
    (Decides-like _ (same_service v.service w.service) (λ e. ap (λ s. (terms s).number) e) (Decides-eqb (terms v.service).number (terms w.service).number))
    (dec_shares v w h k)

pub dec_breaks : (ws : List Window) (a b : Basket) → 1 ≤ (window_in ws a.window).length → 1 ≤ (window_in ws b.window).length
    → Decides (breaks ws a b) ((b.ring ≡ 0 → ⊥) × ((a.ring ≡ b.ring) × ((a.unit ≡ b.unit → ⊥) ⊎ Share (window_in ws a.window) (window_in ws b.window))))
dec_breaks ws a b h k =
    Decides-and _ _ (Decides-not (eqb b.ring 0) (Decides-eqb b.ring 0))
    (Decides-and _ _ (Decides-eqb a.ring b.ring)
    (Decides-or _ _ (Decides-not (eqb a.unit b.unit) (Decides-eqb a.unit b.unit)) (dec_shares (window_in ws a.window) (window_in ws b.window) h k)))
