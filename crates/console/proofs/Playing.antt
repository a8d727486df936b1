-- One more call of a past, and one more market file before it.
use Rattle.std.proofs.Common.{◌≡◌, ℕ, ◌+◌, ◌<◌, ◌≤◌, min, ◌⊎◌, List, [], ◌∷◌, ◌++◌, length, get_or, take, ℤ, Ok, Err, Result, sym, refl, ap, ◌∙◌, subst, inl, inr, ⊎_elim, arith, Bor}
use Rattle.std.proofs.lemmas.List.{take_more, get_or_push, get_or_append_left}
use Rattle.std.proofs.lemmas.Bool.{cases_lt}
use Rattle.market.specs.declared.faults.Refusal as entries
use Rattle.market.specs.Files.{Visit, Enters, AfterFiles}
use Rattle.market.specs.Lawful.{Lawful}
use Rattle.market.specs.Market.{Market, empty}
use Rattle.clearing.specs.declared.faults.Refusal as clearings
use Rattle.clearing.specs.declared.worth.Worth.{Worth}
use Rattle.clearing.specs.Verdicts.{Judged}
use Rattle.console.specs.declared.call.Answer.{Answer}
use Rattle.console.specs.declared.call.Call.{Call}
use Rattle.console.specs.declared.call.Call.TheVariants.{Clearing, Tree, Price, Panel}
use Rattle.console.specs.declared.held.Held.{Held}
use Rattle.console.specs.Clears.{Clears}
use Rattle.console.specs.Past.{Offers, no_call, Came}
use Rattle.console.specs.Played.{Answers, Answered, Played, visits}
use Rattle.console.specs.Standing.{Standing}
use Rattle.console.specs.Steps.{taken, after_worth}
use Rattle.console.proofs.Coming.{Steps, came_next, came_one}
use Rattle.console.proofs.Laws.{clears_one, taken_file}
use Rattle.console.proofs.Single.{not_refused, answers_one}
use Rattle.console.proofs.Promise.{gap_stands, price_gap_stands, shown_not_below}

clearing_step : (s t : Standing) (file : List ℕ) (room : ℕ) (was then : List ℤ) → length was ≡ min room 448 → (v : Result Worth clearings.Refusal) → Judged s.market file was v then → t ≡ after_worth s v (take 448 then)
    → ((h : Held) × Clears s.market file room h × (t ≡ taken s h)) ⊎ (((h : Held) → Clears s.market file room h → ⊥) × (t ≡ s))
clearing_step s t file room was then l (Ok w) j e =
    let k = taken_file s.market file was then w j in
    inl (record { numbers = take 448 then; welfare = w.welfare; cost = w.cost }, record { enough = omega (arith, k.enough); short = k.few; reads = k.reads; kept = k.keeps }, e)
clearing_step s t file room was then l (Err x) j e =
    inr ((λ h c. not_refused s.market file h.numbers (take 448 then) (record { welfare = h.welfare; cost = h.cost }) x c.reads c.kept (j.told (omega (arith, c.enough)) c.short).0), e)

-- an answered call is a step
pub answers_step : (s t : Standing) (c : Call) (a : Answer) → Answers s c a t → Steps s c t
answers_step s t (Clearing file room) a x =
    let k = x.2 in
    clearing_step s t file.now room k.was k.then k.lent k.cleared.verdict k.cleared.judged k.cleared.after
answers_step s t (Tree file) a x = x.1
answers_step s t (Price file) a x = x.1
answers_step s t (Panel room) a x = x.1

-- a call offers one clearing
pub offers_one : (m : Market) (c : Call) (g h : Held) → Offers m c g → Offers m c h → g ≡ h
offers_one m (Clearing file room) g h a b = clears_one m file.now room g h a b
offers_one m (Tree file) g h a b = absurd a
offers_one m (Price file) g h a b = absurd a
offers_one m (Panel room) g h a b = absurd a

-- every call so far is answered
abbrev pub SoFar : Market → List Call → ℕ → List Answer → Type 0
SoFar m calls n out = (k : ℕ) (d : Answer) → k < n → Answered m (take k calls) (take (k + 1) calls) (get_or calls k no_call) (get_or out k d)

pub came_more : (m : Market) (calls : List Call) (i : ℕ) (s t : Standing) (c : Call) (a : Answer) → i < length calls → c ≡ get_or calls i no_call → Came m (take i calls) s → Answers s c a t → Came m (take (i + 1) calls) t
came_more m calls i s t c a l at p x =
    subst (λ (past : List Call). Came m past t) (sym (take_more calls i no_call l))
    (came_next m (offers_one m) (take i calls) s t (get_or calls i no_call) p (subst (λ (d : Call). Steps s d t) at (answers_step s t c a x)))

pub so_far_more : (m : Market) (calls : List Call) (i : ℕ) (s t : Standing) (c : Call) (a : Answer) (out more : List Answer) → i < length calls → c ≡ get_or calls i no_call → Came m (take i calls) s → Answers s c a t
    → length out ≡ i → more ≡ out ++ a ∷ [] → SoFar m calls i out → SoFar m calls (i + 1) more
so_far_more m calls i s t c a out more l at p x n is before k d h =
    ⊎_elim
    (λ (u : k < i). subst (λ (y : Answer). Answered m (take k calls) (take (k + 1) calls) (get_or calls k no_call) y) (sym (ap (λ (xs : List Answer). get_or xs k d) is ∙ get_or_append_left out (a ∷ []) d k (omega arith))) (before k d u))
    (λ (u : i ≤ k).
    let q : k ≡ i = omega arith in
    subst (λ (j : ℕ). Answered m (take j calls) (take (j + 1) calls) (get_or calls j no_call) (get_or more k d)) (sym q)
    (record {
      before = s;
      after = t;
      came = p;
      comes = came_more m calls i s t c a l at p x;
      says = subst (λ (y : Answer). Answers s (get_or calls i no_call) y t) (sym (ap (λ (xs : List Answer). get_or xs k d) is ∙ get_or_push out a d k (n ∙ sym q))) (subst (λ (e : Call). Answers s e a t) at x);
    }))
    (cases_lt k i)

-- one more market file
after_more : (m : Market) (vs : List Visit) (k : Market) (v : Visit) (n : Market) → AfterFiles m vs k → Enters k v.file v.answer n → AfterFiles m (vs ++ v ∷ []) n
after_more m [] k v n a e = (n, subst (λ (u : Market). Enters u v.file v.answer n) a e, refl)
after_more m (w ∷ vs) k v n a e = (a.0, a.1, after_more a.0 vs k v n a.2 e)

visits_push : (fs : List (Bor (List ℕ))) (given : List (Result (Unit {0}) entries.Refusal)) (f : Bor (List ℕ)) (a : Result (Unit {0}) entries.Refusal) → length given ≡ length fs
    → visits (fs ++ f ∷ []) (given ++ a ∷ []) ≡ visits fs given ++ record { file = f.now; answer = a } ∷ []
visits_push [] [] f a h = refl
visits_push [] (b ∷ given) f a h = absurd (omega arith)
visits_push (g ∷ fs) [] f a h = absurd (omega arith)
visits_push (g ∷ fs) (b ∷ given) f a h = ap (λ vs. record { file = g.now; answer = b } ∷ vs) (visits_push fs given f a (omega arith))

pub files_more : (fs : List (Bor (List ℕ))) (i : ℕ) (d : Bor (List ℕ)) (given more : List (Result (Unit {0}) entries.Refusal)) (a : Result (Unit {0}) entries.Refusal) (k n : Market) → i < length fs → length given ≡ length (take i fs)
    → AfterFiles empty (visits (take i fs) given) k → Enters k (get_or fs i d).now a n → more ≡ given ++ a ∷ [] → AfterFiles empty (visits (take (i + 1) fs) more) n
files_more fs i d given more a k n l e p x is =
    subst (λ (vs : List Visit). AfterFiles empty vs n)
    (sym (visits_push (take i fs) given (get_or fs i d) a e) ∙ (ap (λ (gs : List (Bor (List ℕ))). visits gs (given ++ a ∷ [])) (sym (take_more fs i d l)) ∙ ap (visits (take (i + 1) fs)) (sym is)))
    (after_more empty (visits (take i fs) given) k (record { file = (get_or fs i d).now; answer = a }) n p x)

-- all calls are made
pub played : (m : Market) → Lawful m → (calls : List Call) (out : List Answer) (n : ℕ) → length out ≡ n → n ≡ length calls → SoFar m calls n out → Played m calls out
played m good calls out n l e p = record {
  count = l ∙ e;
  each = λ k d h. p k d (omega arith);
  one = λ k s t a b. came_one m (offers_one m) (take k calls) s t a b;
  only = λ k d s t a h q x.
      let y = p k d (omega arith) in
      let same = came_one m (offers_one m) (take k calls) y.before s y.came q in
      let z = answers_one s y.after t (get_or calls k no_call) (get_or out k d) a (subst (λ (u : Standing). Answers u (get_or calls k no_call) (get_or out k d) y.after) same y.says) x in
      (z.0, subst (λ (u : Standing). Came m (take (k + 1) calls) u) z.1 y.comes);
  gaps = λ k s a. gap_stands m good (take k calls) s a;
  price_gaps = λ k s a. price_gap_stands m good (take k calls) s a;
  shown = λ k s a. shown_not_below s;
}
