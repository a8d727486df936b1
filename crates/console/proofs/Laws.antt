-- That a clearing file offers one clearing, and that the bounds that are kept cover every rival.
use Rattle.std.proofs.Common.{◌≡◌, ℕ, ◌<◌, ◌≤◌, true, List, length, take, ℤ, pos, ◌+ℤ◌, ◌-ℤ◌, ◌*ℤ◌, neg_ℤ, ◌≤ℤ◌, Some, None, Ok, Err, Option, Result, sym, ap, ◌∙◌, subst, ⊎_elim, arith}
use lib.Signed.{le_z, lt_z}
use Rattle.std.proofs.lemmas.Int.{ints}
use Rattle.std.proofs.lemmas.Bool.{cond_both, and_from, cases_lt}
use Rattle.market.specs.Market.{Market}
use Rattle.rules.specs.Clearings.{Parts, welfare}
use Rattle.rules.specs.Prices.{cost}
use Rattle.rules.specs.Scratch.{parts_in, prices_in}
use Rattle.market.specs.Lawful.{Lawful}
use Rattle.clearing.specs.declared.faults.Refusal.{Refusal}
use Rattle.clearing.specs.declared.worth.Worth.{Worth}
use Rattle.clearing.specs.Files.{Reads}
use Rattle.clearing.specs.Verdicts.{Keeps, Judged}
use Rattle.clearing.proofs.Judging.{reads_limits}
use Rattle.clearing.proofs.Single.{runs_one}
use Rattle.auction.specs.Theorems.{BoundsSaving}
use Rattle.console.specs.declared.held.Held.{Held}
use Rattle.console.specs.Clears.{Kept, Clears}
use Rattle.console.specs.Law.{covers, CoversPrices, sized}
use Rattle.console.specs.Standing.{parts_of}
use Rattle.console.specs.Steps.{lower}

pub same_held : (g h : Held) → g.numbers ≡ h.numbers → g.welfare ≡ h.welfare → g.cost ≡ h.cost → g ≡ h
same_held g h a b c =
    ap (λ (ns : List ℤ). record { numbers = ns; welfare = g.welfare; cost = g.cost }) a
    ∙ (ap (λ (z : ℤ). record { numbers = h.numbers; welfare = z; cost = g.cost }) b
    ∙ ap (λ (z : ℤ). record { numbers = h.numbers; welfare = h.welfare; cost = z }) c)

-- a file offers one clearing
pub clears_one : (m : Market) (file : List ℕ) (room : ℕ) (g h : Held) → Clears m file room g → Clears m file room h → g ≡ h
clears_one m file room g h a b =
    let ns = (runs_one m file (Ok tt) (Ok tt) g.numbers h.numbers a.reads.runs b.reads.runs).1 in
    same_held g h ns
    (a.kept.welfare_is ∙ (ap (λ (xs : List ℤ). welfare m (parts_in xs)) ns ∙ sym b.kept.welfare_is))
    (a.kept.cost_is ∙ (ap (λ (xs : List ℤ). cost m (parts_in xs) (prices_in xs)) ns ∙ sym b.kept.cost_is))

pub le_true : (a b : ℤ) → a ≤ℤ b → le_z a b ≡ true
le_true a b h = grind (arith, ints)

covers_lower : (o : Option ℤ) (x z : ℤ) (D : ℕ) → covers o D z ≡ true → z ≤ℤ (pos D *ℤ x) → covers (lower o x) D z ≡ true
covers_lower None x z D c h = le_true _ _ h
covers_lower (Some b) x z D c h = cond_both (lt_z x b) x b (λ (y : ℤ). le_z z (pos D *ℤ y) ≡ true) (λ t. le_true _ _ h) (λ t. c)

saving_le : (D : ℕ) (c b : ℤ) → (pos 1000 *ℤ (pos D *ℤ pos 0 -ℤ c)) ≤ℤ (pos D *ℤ (b +ℤ pos 1000 *ℤ pos 0)) → neg_ℤ (pos 1000 *ℤ c) ≤ℤ (pos D *ℤ b)
saving_le D c b h =
    let e : pos D *ℤ pos 0 -ℤ c ≡ neg_ℤ c = omega (arith, ints) in
    let f : b +ℤ pos 1000 *ℤ pos 0 ≡ b = omega (arith, ints) in
    let g : pos 1000 *ℤ neg_ℤ c ≡ neg_ℤ (pos 1000 *ℤ c) = omega (arith, ints) in
    subst (λ (z : ℤ). z ≤ℤ (pos D *ℤ b)) g (subst (λ (z : ℤ). (pos 1000 *ℤ z) ≤ℤ (pos D *ℤ b)) e (subst (λ (z : ℤ). (pos 1000 *ℤ (pos D *ℤ pos 0 -ℤ c)) ≤ℤ (pos D *ℤ z)) f h))

pub prices_lower : (m : Market) (h : Held) (o p : Option ℤ) (x : ℤ) → p ≡ lower o x → CoversPrices m h o → BoundsSaving m (parts_of h) x → CoversPrices m h p
prices_lower m h o p x e c b r =
    subst (λ (q : Option ℤ). covers q r.D (neg_ℤ (pos 1000 *ℤ cost m (parts_of h) r.prices)) ≡ true) (sym e)
    (covers_lower o x _ r.D (c r) (saving_le r.D (cost m (parts_of h) r.prices) x (b (pos 0) r.D r.some r.prices r.list r.keeps)))

-- parts within their limits, as the type has them
pub sized_from : (h : Held) (v : ℕ) → Parts 10000 (parts_of h v) → sized h v ≡ true
sized_from h v p = and_from _ _ (le_true _ _ p.0) (le_true _ _ p.1)

-- a clearing in hand, copied, keeps what it kept
pub kept_copy : (m : Market) (ns os : List ℤ) (w k u v : ℤ) → os ≡ ns → u ≡ w → v ≡ k → Keeps m ns (record { welfare = w; cost = k }) → ∥ Kept m (record { numbers = os; welfare = u; cost = v }) ∥₁
kept_copy m ns os w k u v a b c h = ∣ subst (λ (g : Held). Kept m g) (sym (same_held (record { numbers = os; welfare = u; cost = v }) (record { numbers = ns; welfare = w; cost = k }) a b c)) h ∣₁

-- a file that is accepted was not too long, and there was scratch enough
pub record Taken (m : Market) (file : List ℕ) (was then : List ℤ) (w : Worth) : Type 0 where
  pub enough : 448 ≤ length was
  pub few : length file ≤ 65535
  pub reads : Reads m file (Ok tt) (take 448 then)
  pub keeps : Keeps m (take 448 then) w

ok_not_err : (w : Worth) (e : Refusal) → ◌≡◌ {A = Result Worth Refusal} (Ok w) (Err e) → ⊥
ok_not_err w e p = cc

pub taken_file : (m : Market) (file : List ℕ) (was then : List ℤ) (w : Worth) → Judged m file was (Ok w) then → Taken m file was then w
taken_file m file was then w o = ⊎_elim
    (λ (h : length was < 448). absurd (ok_not_err w _ (o.short h).0))
    (λ (h : 448 ≤ length was). ⊎_elim
    (λ (l : 65535 < length file). absurd (ok_not_err w _ (o.long h l).0))
    (λ (l : length file ≤ 65535). let r = (o.told h l).0 in record { enough = h; few = l; reads = r.0; keeps = r.1 })
    (cases_lt 65535 (length file)))
    (cases_lt (length was) 448)

-- the parts of a file that is read are within their limits
pub read_sized : (m : Market) → Lawful m → (file : List ℕ) (ns os : List ℤ) (u v : ℤ) → Reads m file (Ok tt) ns → os ≡ ns → (i : ℕ) → i < 256 → sized (record { numbers = os; welfare = u; cost = v }) i ≡ true
read_sized m good file ns os u v r e i h =
    sized_from (record { numbers = os; welfare = u; cost = v }) i (subst (λ (xs : List ℤ). Parts 10000 (parts_in xs i)) (sym e) ((reads_limits m good file (Ok tt) ns r).parts i h))
