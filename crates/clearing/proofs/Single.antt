-- A file is read in one way.
use Rattle.std.proofs.Common.{◌≡◌, ℕ, ◌+◌, List, [], ◌∷◌, drop, ℤ, Some, None, Ok, Err, Option, Result, sym, refl, ap, ◌∙◌, subst, arith, length-drop}
use Rattle.records.specs.declared.Fault as below
use Rattle.records.specs.Read.{Content, read}
use Rattle.records.proofs.Bodies.{read_fits}
use Rattle.market.specs.Market.{Market}
use Rattle.clearing.specs.declared.faults.Fault.{Fault}
use Rattle.clearing.specs.declared.faults.Refusal.{Refusal}
use Rattle.clearing.specs.declared.marks.Mark.{Mark}
use Rattle.clearing.specs.Files.{kinds, fault_of, Run, Stops, Ends, Runs}
use Rattle.clearing.specs.Marks.{mark_of, marked}

stops_one : (m : Market) (last : Option Mark) (r : Result Content below.Fault) (f g : Fault) → Stops m last r f → Stops m last r g → f ≡ g
stops_one m last (Ok c) f g p q = cc
stops_one m last (Err e) f g p q = cc

-- where a mark in order stands, the file does not stop
goes_on : (m : Market) (last : Option Mark) (r : Result Content below.Fault) (f : Fault) (c : Content) → Stops m last r f → r ≡ Ok c → fault_of m last (mark_of c) ≡ None → ⊥
goes_on m last (Ok d) f c p e n = cc
goes_on m last (Err x) f c p e n = cc

same_refusal : (a b : Refusal) → a.fault ≡ b.fault → a.place ≡ b.place → a ≡ b
same_refusal a b p q = ap (λ (f : Fault). record { fault = f; place = a.place }) p ∙ ap (λ (n : ℕ). record { fault = b.fault; place = n }) q

ends_one : (m : Market) (file : List ℕ) (q : ℕ) (last : Option Mark) (r s : Result (Unit {0}) Refusal) → Ends m file q last r → Ends m file q last s → r ≡ s
ends_one m file q last (Ok x) (Ok y) a b = refl
ends_one m file q last (Ok x) (Err y) a b = absurd (omega (arith, a, b.1))
ends_one m file q last (Err x) (Ok y) a b = absurd (omega (arith, b, a.1))
ends_one m file q last (Err x) (Err y) a b = ap Err (same_refusal x y (stops_one m last (read kinds (drop q file)) x.fault y.fault a.2 b.2) (a.0 ∙ sym b.0))

-- a file does not end where a mark stands
not_end : (m : Market) (file : List ℕ) (q : ℕ) (last : Option Mark) (r : Result (Unit {0}) Refusal) (c : Content) → Ends m file q last r → read kinds (drop q file) ≡ Ok c → fault_of m last (mark_of c) ≡ None → ⊥
not_end m file q last (Ok x) c a e n = let f = read_fits kinds (drop q file) c e in let l = length-drop q file in omega (arith, a, f.0, f.1)
not_end m file q last (Err x) c a e n = goes_on m last (read kinds (drop q file)) x.fault c a.2 e n

-- from one place, after one mark, there is one way on
pub way_one : (m : Market) (file : List ℕ) (p : ℕ) (last : Option Mark) (xs : List Mark) (q : ℕ) (end : Option Mark) (r : Result (Unit {0}) Refusal)
    (ys : List Mark) (t : ℕ) (stop : Option Mark) (s : Result (Unit {0}) Refusal)
    → Run m file p last xs q end → Ends m file q end r → Run m file p last ys t stop → Ends m file t stop s → (xs ≡ ys) × (r ≡ s)
way_one m file p last [] q end r [] t stop s a b c d =
    let b' = subst (λ (n : ℕ). Ends m file n last r) a.0 (subst (λ (o : Option Mark). Ends m file q o r) a.1 b) in
    let d' = subst (λ (n : ℕ). Ends m file n last s) c.0 (subst (λ (o : Option Mark). Ends m file t o s) c.1 d) in
    (refl, ends_one m file p last r s b' d')
way_one m file p last [] q end r (y ∷ ys) t stop s a b c d =
    let b' = subst (λ (n : ℕ). Ends m file n last r) a.0 (subst (λ (o : Option Mark). Ends m file q o r) a.1 b) in
    absurd (not_end m file p last r c.0 b' c.1 (ap (fault_of m last) (sym c.2) ∙ c.3))
way_one m file p last (x ∷ xs) q end r [] t stop s a b c d =
    let d' = subst (λ (n : ℕ). Ends m file n last s) c.0 (subst (λ (o : Option Mark). Ends m file t o s) c.1 d) in
    absurd (not_end m file p last s a.0 d' a.1 (ap (fault_of m last) (sym a.2) ∙ a.3))
way_one m file p last (x ∷ xs) q end r (y ∷ ys) t stop s a b c d =
    let same : c.0 ≡ a.0 = (let u = c.1 in let v = a.1 in cc) in
    let head : y ≡ x = c.2 ∙ (ap mark_of same ∙ sym a.2) in
    let rest : Run m file (p + a.0.size) (Some x) ys t stop =
    subst (λ (o : Mark). Run m file (p + a.0.size) (Some o) ys t stop) head (subst (λ (e : Content). Run m file (p + e.size) (Some y) ys t stop) same c.4) in
    let more = way_one m file (p + a.0.size) (Some x) xs q end r ys t stop s a.4 b rest d in
    (ap (λ zs. x ∷ zs) more.0 ∙ ap (λ z. z ∷ ys) (sym head), more.1)

pub runs_one : (m : Market) (file : List ℕ) (r s : Result (Unit {0}) Refusal) (ns os : List ℤ) → Runs m file r ns → Runs m file s os → (r ≡ s) × (ns ≡ os)
runs_one m file r s ns os a b =
    let w = way_one m file 0 None a.marks a.place a.last r b.marks b.place b.last s a.run a.ends b.run b.ends in
    (w.1, a.are ∙ (ap marked w.0 ∙ sym b.are))
