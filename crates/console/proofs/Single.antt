-- A call, made where a standing is given, has one answer and leaves one standing.
use Rattle.std.proofs.Common.{◌≡◌, ℕ, ◌<◌, ◌≤◌, cond, eqb, List, length, take, ℤ, Ok, Err, Result, sym, refl, ap, ◌∙◌, subst, ⊎_elim, arith}
use Rattle.std.proofs.lemmas.Bool.{cases_lt, cases_order}
use Rattle.market.specs.Market.{Market}
use Rattle.rules.specs.declared.faults.Rule.{Rule}
use Rattle.rules.specs.declared.faults.Rule.TheVariants.{WholeParents, ChildrenUnderParents, SubstitutesUnderParents, Families, Loops, Units, Balance, ExtraSurplus, BasketSurplus, BuyPrices}
use Rattle.rules.specs.Broken.{FirstBroken}
use Rattle.rules.specs.Clearings.{welfare}
use Rattle.rules.specs.Faults.{rule_number}
use Rattle.rules.specs.Prices.{cost}
use Rattle.rules.specs.Scratch.{parts_in, prices_in}
use Rattle.rules.proofs.Keeping.{unbroken}
use Rattle.clearing.specs.declared.faults.Fault.{Fault}
use Rattle.clearing.specs.declared.faults.Fault.TheVariants.{Broken}
use Rattle.clearing.specs.declared.faults.Refusal.{Refusal}
use Rattle.clearing.specs.declared.worth.Worth.{Worth}
use Rattle.clearing.specs.Files.{Reads}
use Rattle.clearing.specs.Verdicts.{Keeps, Breaks, Told, Judged}
use Rattle.clearing.proofs.Single.{runs_one}
use Rattle.console.specs.declared.call.Answer.{Answer}
use Rattle.console.specs.declared.call.Answer.TheVariants as an
use Rattle.console.specs.declared.call.Call.{Call}
use Rattle.console.specs.declared.call.Call.TheVariants.{Clearing, Tree, Price, Panel}
use Rattle.console.specs.Played.{Answers}
use Rattle.console.specs.Standing.{Standing}
use Rattle.console.specs.Steps.{after_worth, told_worth}

ok_not_err : (e : Refusal) → ◌≡◌ {A = Result (Unit {0}) Refusal} (Ok tt) (Err e) → ⊥
ok_not_err e p = cc

err_is : (e f : Refusal) → ◌≡◌ {A = Result (Unit {0}) Refusal} (Err e) (Err f) → e ≡ f
err_is e f p = cc

-- a rule is known by its number
abbrev numbered : ℕ → Rule
numbered n = cond (eqb n 12) WholeParents (cond (eqb n 13) ChildrenUnderParents (cond (eqb n 14) SubstitutesUnderParents (cond (eqb n 15) Families (cond (eqb n 16) Loops (cond (eqb n 17) Units (cond (eqb n 18) Balance (cond (eqb n 19) ExtraSurplus (cond (eqb n 20) BasketSurplus BuyPrices))))))))

numbered_is : (r : Rule) → numbered (rule_number r) ≡ r
numbered_is WholeParents = refl
numbered_is ChildrenUnderParents = refl
numbered_is SubstitutesUnderParents = refl
numbered_is Families = refl
numbered_is Loops = refl
numbered_is Units = refl
numbered_is Balance = refl
numbered_is ExtraSurplus = refl
numbered_is BasketSurplus = refl
numbered_is BuyPrices = refl

same_rule : (r s : Rule) → rule_number r ≡ rule_number s → r ≡ s
same_rule r s e = sym (numbered_is r) ∙ (ap numbered e ∙ numbered_is s)

-- one rule is the first that is broken, and one place is its lowest
rule_one : (m : Market) (X Y : ℕ → ℤ) (r s : Rule) (p q : ℕ) → FirstBroken m X Y r p → FirstBroken m X Y s q → r ≡ s
rule_one m X Y r s p q a b = ⊎_elim
    (λ (e : rule_number r ≡ rule_number s). same_rule r s e)
    (⊎_elim
    (λ (l : rule_number r < rule_number s). absurd (b.earliest r l p a.broken))
    (λ (l : rule_number s < rule_number r). absurd (a.earliest s l q b.broken)))
    (cases_order (rule_number r) (rule_number s))

place_one : (m : Market) (X Y : ℕ → ℤ) (r : Rule) (p q : ℕ) → FirstBroken m X Y r p → FirstBroken m X Y r q → p ≡ q
place_one m X Y r p q a b = ⊎_elim
    (λ (e : p ≡ q). e)
    (⊎_elim
    (λ (l : p < q). absurd (b.lowest p l a.broken))
    (λ (l : q < p). absurd (a.lowest q l b.broken)))
    (cases_order p q)

same_refusal : (a b : Refusal) → a.fault ≡ b.fault → a.place ≡ b.place → a ≡ b
same_refusal a b p q = ap (λ (f : Fault). record { fault = f; place = a.place }) p ∙ ap (λ (n : ℕ). record { fault = b.fault; place = n }) q

breaks_one : (m : Market) (ns : List ℤ) (e f : Refusal) → Breaks m ns e → Breaks m ns f → e ≡ f
breaks_one m ns e f a b =
    let r = rule_one m (parts_in ns) (prices_in ns) a.rule b.rule e.place f.place a.first b.first in
    let c = subst (λ (x : Rule). FirstBroken m (parts_in ns) (prices_in ns) x e.place) r a.first in
    same_refusal e f (a.named ∙ (ap Broken r ∙ sym b.named)) (place_one m (parts_in ns) (prices_in ns) b.rule e.place f.place c b.first)

-- a clearing that keeps every rule is not refused
pub not_refused : (m : Market) (file : List ℕ) (ns os : List ℤ) (w : Worth) (e : Refusal) → Reads m file (Ok tt) ns → Keeps m ns w → Told m file (Err e) os → ⊥
not_refused m file ns os w e a k told = ⊎_elim
    (λ (r : Reads m file (Err e) os). ok_not_err e (runs_one m file (Ok tt) (Err e) ns os a.runs r.runs).0)
    (λ (r : Reads m file (Ok tt) os × Breaks m os e).
    let same = (runs_one m file (Ok tt) (Ok tt) ns os a.runs r.0.runs).1 in
    let l = subst (λ (xs : List ℤ). Keeps m xs w) same k in
    unbroken m (parts_in os) (prices_in os) l.orders l.prices r.1.rule e.place r.1.first.broken)
    told

same_worth : (v w : Worth) → v.welfare ≡ w.welfare → v.cost ≡ w.cost → v ≡ w
same_worth v w a b = ap (λ (z : ℤ). record { welfare = z; cost = v.cost }) a ∙ ap (λ (z : ℤ). record { welfare = w.welfare; cost = z }) b

-- a file is told one thing, and an accepted one leaves one list of numbers
told_one : (m : Market) (file : List ℕ) (v w : Result Worth Refusal) (ns os : List ℤ) → Told m file v ns → Told m file w os → (v ≡ w) × (((x : Worth) → v ≡ Ok x → ns ≡ os))
told_one m file (Ok v) (Ok w) ns os a b =
    let same = (runs_one m file (Ok tt) (Ok tt) ns os a.0.runs b.0.runs).1 in (
      ap Ok (same_worth v w (a.1.welfare_is ∙ (ap (λ (xs : List ℤ). welfare m (parts_in xs)) same ∙ sym b.1.welfare_is)) (a.1.cost_is ∙ (ap (λ (xs : List ℤ). cost m (parts_in xs) (prices_in xs)) same ∙ sym b.1.cost_is))),
      λ x e. same,
    )
told_one m file (Ok v) (Err f) ns os a b = absurd (not_refused m file ns os v f a.0 a.1 b)
told_one m file (Err e) (Ok w) ns os a b = absurd (not_refused m file os ns w e b.0 b.1 a)
told_one m file (Err e) (Err f) ns os a b = (ap Err same, λ x p. let z : ◌≡◌ {A = ℕ} 0 1 = cc in absurd (omega arith))
  where
    same : e ≡ f
    same = ⊎_elim
        (λ (r : Reads m file (Err e) ns). ⊎_elim
        (λ (s : Reads m file (Err f) os). err_is e f (runs_one m file (Err e) (Err f) ns os r.runs s.runs).0)
        (λ (s : Reads m file (Ok tt) os × Breaks m os f). absurd (ok_not_err e (sym (runs_one m file (Err e) (Ok tt) ns os r.runs s.0.runs).0)))
        b)
        (λ (r : Reads m file (Ok tt) ns × Breaks m ns e). ⊎_elim
        (λ (s : Reads m file (Err f) os). absurd (ok_not_err f (runs_one m file (Ok tt) (Err f) ns os r.0.runs s.runs).0))
        (λ (s : Reads m file (Ok tt) os × Breaks m os f).
        let n = (runs_one m file (Ok tt) (Ok tt) ns os r.0.runs s.0.runs).1 in
        breaks_one m os e f (subst (λ (xs : List ℤ). Breaks m xs e) n r.1) s.1)
        b)
        a

-- one verdict on a file, and one standing after it, for one length of scratch
judged_one : (s : Standing) (file : List ℕ) (was then old after : List ℤ) (v w : Result Worth Refusal) → length was ≡ length old → Judged s.market file was v then → Judged s.market file old w after
    → (v ≡ w) × (after_worth s v (take 448 then) ≡ after_worth s w (take 448 after))
judged_one s file was then old after v w n a b = ⊎_elim
    (λ (h : length was < 448).
    let p = (a.short h).0 in
    let q = (b.short (omega arith)).0 in
    (p ∙ sym q, refused_same v w (p) (q)))
    (λ (h : 448 ≤ length was). ⊎_elim
    (λ (l : 65535 < length file).
    let p = (a.long h l).0 in
    let q = (b.long (omega arith) l).0 in
    (p ∙ sym q, refused_same v w p q))
    (λ (l : length file ≤ 65535).
    let o = told_one s.market file v w (take 448 then) (take 448 after) (a.told h l).0 (b.told (omega arith) l).0 in
    (o.0, stands v w o.0 o.1))
    (cases_lt 65535 (length file)))
    (cases_lt (length was) 448)
  where
    refused_same : (v w : Result Worth Refusal) {e : Refusal} → v ≡ Err e → w ≡ Err e → after_worth s v (take 448 then) ≡ after_worth s w (take 448 after)
    refused_same v w p q = ap (λ (x : Result Worth Refusal). after_worth s x (take 448 then)) p ∙ sym (ap (λ (x : Result Worth Refusal). after_worth s x (take 448 after)) q)

    stands : (v w : Result Worth Refusal) → v ≡ w → ((x : Worth) → v ≡ Ok x → take 448 then ≡ take 448 after) → after_worth s v (take 448 then) ≡ after_worth s w (take 448 after)
    stands (Ok x) w e f = ap (after_worth s (Ok x)) (f x refl) ∙ ap (λ (y : Result Worth Refusal). after_worth s y (take 448 after)) e
    stands (Err x) w e f = ap (λ (y : Result Worth Refusal). after_worth s y (take 448 after)) e

pub answers_one : (s t u : Standing) (c : Call) (a b : Answer) → Answers s c a t → Answers s c b u → (a ≡ b) × (t ≡ u)
answers_one s t u (Clearing file room) a b x y =
    let j = x.2 in
    let k = y.2 in
    let o = judged_one s file.now j.was j.then k.was k.then j.cleared.verdict k.cleared.verdict (j.lent ∙ sym k.lent) j.cleared.judged k.cleared.judged in (
      x.1 ∙ (ap an.Clearing (j.cleared.told ∙ (ap told_worth o.0 ∙ sym k.cleared.told)) ∙ sym y.1),
      j.cleared.after ∙ (o.1 ∙ sym k.cleared.after),
    )
answers_one s t u (Tree file) a b x y = (x.0 ∙ sym y.0, x.1 ∙ sym y.1)
answers_one s t u (Price file) a b x y = (x.0 ∙ sym y.0, x.1 ∙ sym y.1)
answers_one s t u (Panel room) a b x y = (x.0 ∙ sym y.0, x.1 ∙ sym y.1)
