-- The two laws of the gaps, from the past alone.
use Rattle.std.proofs.Common.{◌≡◌, ℕ, zero, suc, ◌*◌, ◌<◌, true, List, get_or, ℤ, pos, negsuc, ◌+ℤ◌, ◌-ℤ◌, ◌*ℤ◌, neg_ℤ, ◌≤ℤ◌, Some, None, Ok, Err, Option, Result, sym, refl, ap, ◌∙◌, subst, arith}
use lib.Signed.{le_z}
use Rattle.std.proofs.lemmas.Int.{ints}
use Rattle.bound.specs.declared.faults.Refusal as bounds
use Rattle.bound.specs.Checks.{checked}
use Rattle.bound.specs.Points.{Bounds}
use Rattle.bound.proofs.Whole.{checked_bounds}
use Rattle.market.specs.Lawful.{Lawful}
use Rattle.market.specs.Market.{Market}
use Rattle.rules.specs.Clearings.{Parts, welfare}
use Rattle.rules.specs.Prices.{cost}
use Rattle.clearing.proofs.Judging.{reads_limits}
use Rattle.auction.specs.Acceptance.{acceptance}
use Rattle.auction.specs.AcceptanceLaw.{acceptance_lawful}
use Rattle.auction.specs.Pricing.{pricing}
use Rattle.auction.specs.PricingLaw.{held_lawful}
use Rattle.auction.proofs.Gaps.{welfare_below, costs_above}
use Rattle.console.specs.declared.call.Call.{Call}
use Rattle.console.specs.declared.call.Call.TheVariants.{Clearing, Tree, Price, Panel}
use Rattle.console.specs.declared.held.Held.{Held}
use Rattle.console.specs.Best.{OfferAt}
use Rattle.numbers.proofs.Integers.{mul_assoc, mul_add}
use Rattle.console.specs.Law.{GapCovers, PriceGapCovers, covers, CoversPrices}
use Rattle.console.specs.Panel.{up, in_pence, ShownNotBelow}
use Rattle.console.specs.Past.{Offers, limit, price_limit, no_call, Came}
use Rattle.console.specs.Standing.{Standing, parts_of, idle, gap, price_gap}
use Rattle.console.specs.Steps.{accepted}
use Rattle.console.proofs.Best.{some_not_none, some_is}
use Rattle.console.proofs.Idle.{idle_parts}

-- a gap that stands is a bound less what is held
gap_is : (o : Option ℤ) (w g : ℤ) → elim o [ Some b ↦ Some (b -ℤ w) | None ↦ None ] ≡ Some g → (b : ℤ) × (o ≡ Some b) × (b ≡ w +ℤ g)
gap_is None w g e = absurd (some_not_none e refl)
gap_is (Some b) w g e = let i : b -ℤ w ≡ g = some_is e in (b, refl, omega (arith, ints))

price_gap_is : (o : Option ℤ) (k g : ℤ) → elim o [ Some b ↦ Some (b +ℤ pos 1000 *ℤ k) | None ↦ None ] ≡ Some g → (b : ℤ) × (o ≡ Some b) × (b +ℤ pos 1000 *ℤ k ≡ g)
price_gap_is None k g e = absurd (some_not_none e refl)
price_gap_is (Some b) k g e = (b, refl, some_is e)

was_ok : (r : Result ℤ bounds.Refusal) (b : ℤ) → accepted r ≡ Some b → r ≡ Ok b
was_ok (Ok x) b e = ap Ok (some_is e)
was_ok (Err x) b e = absurd (some_not_none e refl)

-- what a tree call put forward bounds the acceptance programme, and what a price call put forward the price programme
limit_bounds : (m : Market) → Lawful m → (c : Call) (b : ℤ) → limit m c ≡ Some b → Bounds (acceptance m) b
limit_bounds m good (Clearing file room) b e = absurd (some_not_none e refl)
limit_bounds m good (Tree file) b e = checked_bounds (acceptance m) file.now b (acceptance_lawful m good) (was_ok (checked (acceptance m) file.now) b e)
limit_bounds m good (Price file) b e = absurd (some_not_none e refl)
limit_bounds m good (Panel room) b e = absurd (some_not_none e refl)

price_bounds : (m : Market) → Lawful m → (h : Held) → ((v : ℕ) → v < 256 → Parts 10000 (parts_of h v)) → (c : Call) (b : ℤ) → price_limit m h c ≡ Some b → Bounds (pricing m (parts_of h)) b
price_bounds m good h p (Clearing file room) b e = absurd (some_not_none e refl)
price_bounds m good h p (Tree file) b e = absurd (some_not_none e refl)
price_bounds m good h p (Price file) b e =
    checked_bounds (pricing m (parts_of h)) file.now b (held_lawful m good (parts_of h) (λ v l. (p v l).0) (λ v l. (p v l).1)) (was_ok (checked (pricing m (parts_of h)) file.now) b e)
price_bounds m good h p (Panel room) b e = absurd (some_not_none e refl)

-- the parts of what is on offer are within their limits
offered_parts : (m : Market) → Lawful m → (c : Call) (h : Held) → Offers m c h → (v : ℕ) → v < 256 → Parts 10000 (parts_of h v)
offered_parts m good (Clearing file room) h o v l = (reads_limits m good file.now (Ok tt) h.numbers o.reads).parts v l
offered_parts m good (Tree file) h o v l = absurd o
offered_parts m good (Price file) h o v l = absurd o
offered_parts m good (Panel room) h o v l = absurd o

held_parts_lem : (m : Market) → Lawful m → (past : List Call) (k : ℕ) (h : Held) → OfferAt no_call idle (Offers m) past k h → (v : ℕ) → v < 256 → Parts 10000 (parts_of h v)
held_parts_lem m good past zero h o v l = subst (λ (g : Held). Parts 10000 (parts_of g v)) (sym o) (idle_parts v)
held_parts_lem m good past (suc k) h o v l = offered_parts m good (get_or past k no_call) h o v l

-- while a gap stands, it covers every rival
pub gap_stands : (m : Market) → Lawful m → (past : List Call) (s : Standing) → Came m past s → GapCovers s
gap_stands m good past s p g e r =
    let is = gap_is s.bound s.held.welfare g e in
    let q = p.bound.some is.0 is.1 in
    let good' = subst Lawful (sym p.market) good in
    let b = limit_bounds s.market good' (get_or past q.place no_call) is.0 (ap (λ (u : Market). limit u (get_or past q.place no_call)) p.market ∙ q.put) in
    subst (λ (z : ℤ). (pos 10000 *ℤ welfare s.market r.parts) ≤ℤ (pos r.D *ℤ z)) is.2
    (welfare_below s.market good' is.0 b r.D r.some r.parts r.clearing r.keeps)

-- while a price gap stands, it covers every price list for the held parts
pub price_gap_stands : (m : Market) → Lawful m → (past : List Call) (s : Standing) → Came m past s → PriceGapCovers s
price_gap_stands m good past s p g e r =
    let is = price_gap_is s.price s.held.cost g e in
    let q = p.price.some is.0 is.1 in
    let good' = subst Lawful (sym p.market) good in
    let parts = held_parts_lem m good past p.since s.held p.holds.offered in
    let b = price_bounds s.market good' s.held parts (get_or past q.place no_call) is.0 (ap (λ (u : Market). price_limit u s.held (get_or past q.place no_call)) p.market ∙ q.put) in
    subst (λ (z : ℤ). (pos 1000 *ℤ (pos r.D *ℤ s.held.cost -ℤ cost s.market (parts_of s.held) r.prices)) ≤ℤ (pos r.D *ℤ z)) is.2
    (costs_above s.market good' (parts_of s.held) is.0 b s.held.cost r.D r.some r.prices r.list r.keeps)

-- The same of any console, from the facts of its type.
le_from : (a b : ℤ) → le_z a b ≡ true → a ≤ℤ b
le_from a b t = grind (arith, ints)

covered : (o : Option ℤ) (b z : ℤ) (D : ℕ) → o ≡ Some b → covers o D z ≡ true → z ≤ℤ (pos D *ℤ b)
covered None b z D e c = absurd (some_not_none e refl)
covered (Some a) b z D e c = subst (λ (y : ℤ). z ≤ℤ (pos D *ℤ y)) (some_is e) (le_from z (pos D *ℤ a) c)

over_held : (D : ℕ) (b h k : ℤ) → neg_ℤ (pos 1000 *ℤ k) ≤ℤ (pos D *ℤ b) → (pos 1000 *ℤ (pos D *ℤ h -ℤ k)) ≤ℤ (pos D *ℤ (b +ℤ pos 1000 *ℤ h))
over_held D b h k l =
    let a : pos D *ℤ (b +ℤ pos 1000 *ℤ h) ≡ pos D *ℤ b +ℤ pos D *ℤ (pos 1000 *ℤ h) = mul_add (pos D) b (pos 1000 *ℤ h) in
    let c : pos D *ℤ pos 1000 ≡ pos 1000 *ℤ pos D = omega (arith, ints) in
    let d : pos D *ℤ (pos 1000 *ℤ h) ≡ pos 1000 *ℤ (pos D *ℤ h) = sym (mul_assoc (pos D) (pos 1000) h) ∙ (ap (λ z. z *ℤ h) c ∙ mul_assoc (pos 1000) (pos D) h) in
    combine (pos D *ℤ h) k (pos D *ℤ b) _ _ a d l
  where
    combine : (q k p x y : ℤ) → x ≡ p +ℤ y → y ≡ pos 1000 *ℤ q → neg_ℤ (pos 1000 *ℤ k) ≤ℤ p → (pos 1000 *ℤ (q -ℤ k)) ≤ℤ x
    combine q k p x y a b c = omega (arith, ints)

pub price_gap_covered : (s : Standing) → CoversPrices s.market s.held s.price → PriceGapCovers s
price_gap_covered s c g e r =
    let is = price_gap_is s.price s.held.cost g e in
    let k = cost s.market (parts_of s.held) r.prices in
    subst (λ (z : ℤ). (pos 1000 *ℤ (pos r.D *ℤ s.held.cost -ℤ k)) ≤ℤ (pos r.D *ℤ z)) is.2
    (over_held r.D is.0 s.held.cost k (covered s.price is.0 _ r.D is.1 (c r)))

-- whole pence, rounded up, are not below what they stand for
up_covers : (z : ℤ) → z ≤ℤ pos (10000 * up 9999 z)
up_covers (pos a) = omega (arith, ints)
up_covers (negsuc a) = omega (arith, ints)

cost_covers : (z : ℤ) → z ≤ℤ pos (10000000 * up 9999999 z)
cost_covers (pos a) = omega (arith, ints)
cost_covers (negsuc a) = omega (arith, ints)

some_nat : {x y : ℕ} → ◌≡◌ {A = Option ℕ} (Some x) (Some y) → x ≡ y
some_nat e = cc

in_pence_lem : (n : ℕ) (o : Option ℤ) (g : ℤ) (k : ℕ) → o ≡ Some g → in_pence n o ≡ Some k → k ≡ up n g
in_pence_lem n None g k e p = absurd (some_not_none e refl)
in_pence_lem n (Some z) g k e p = sym (some_nat p) ∙ ap (up n) (some_is e)

pub shown_not_below : (s : Standing) → ShownNotBelow s
shown_not_below s = record {
  gaps = λ g n e p. subst (λ (k : ℕ). g ≤ℤ pos (10000 * k)) (sym (in_pence_lem 9999 (gap s) g n e p)) (up_covers g);
  price_gaps = λ g n e p. subst (λ (k : ℕ). g ≤ℤ pos (10000000 * k)) (sym (in_pence_lem 9999999 (price_gap s) g n e p)) (cost_covers g);
}
