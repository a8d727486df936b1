-- Beyond the last entry of a table there are zeros.
use Rattle.std.proofs.Common.{◌≡◌, ℕ, ◌<◌, ◌≤◌, List, get_or, pos, Some, None, Option, unwrap_or, refl, ⊎_elim, arith}
use Rattle.std.proofs.lemmas.Bool.{cases_lt}
use Rattle.std.proofs.lemmas.List.{get_or_past}
use Rattle.std.specs.Array.{AllOfLen}
use Rattle.std.specs.Option.{UnwrapsOrElse}
use Rattle.market.specs.declared.entries.Basket.{Basket}
use Rattle.market.specs.declared.entries.Extra.{Extra}
use Rattle.market.specs.declared.entries.Role.TheVariants.{Child}
use Rattle.market.specs.Market.{no_basket, no_extra, SameBasket, SameExtra}

-- an entry of a table, or else what is made in its place, is as the list has it
pub entry_or : {X : Type 0} (R : X → X → Type 0) (P : X → Type 0) (d : X) (xs : List X) (i : ℕ) (o : Option X) (r : X) → ((x : X) → R x x) → ((x : X) → P x → R x d) → ((e : X) → unwrap_or o e ≡ get_or xs i e) → UnwrapsOrElse o P r → R r (get_or xs i d)
entry_or R P d xs i (Some x) r same zeros at is = rw (is, ← at d) (same x)
entry_or R P d xs i None r same zeros at is = rw (← at d) (zeros r is)

pub same_basket : (b : Basket) → SameBasket b b
same_basket b = record { unit = refl; window = refl; ring = refl; quantities = λ _. refl; price = refl }

pub same_extra : (e : Extra) → SameExtra e e
same_extra e = record { role = refl; basket = refl; quantities = λ _. refl; price = refl }

-- six zeros are zero at every place
zeros_at : (qs : List ℕ) (p : ℕ) → AllOfLen (λ q. q ≡ 0) qs 6 → get_or qs p 0 ≡ 0
zeros_at qs p h =
    ⊎_elim
    (λ (l : p < 6). h.at p 0 l)
    (λ (l : 6 ≤ p). get_or_past qs p 0 (omega arith))
    (cases_lt p 6)

pub zero_basket : (b : Basket) → b.unit ≡ 0 → b.window ≡ 0 → b.ring ≡ 0 → AllOfLen (λ q. q ≡ 0) b.quantities 6 → b.price ≡ pos 0 → SameBasket b no_basket
zero_basket b u w r q p = record { unit = u; window = w; ring = r; quantities = λ i. zeros_at b.quantities i q; price = p }

pub zero_extra : (e : Extra) → e.role ≡ Child → e.basket ≡ 0 → AllOfLen (λ q. q ≡ 0) e.quantities 6 → e.price ≡ pos 0 → SameExtra e no_extra
zero_extra e r b q p = record { role = r; basket = b; quantities = λ i. zeros_at e.quantities i q; price = p }
