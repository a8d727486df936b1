-- What a file that is read through leaves for the judge.
use Rattle.std.proofs.Common.{◌≡◌, ℕ, ◌+◌, ◌<◌, ◌≤◌, ◌⊎◌, List, length, get_or, take, drop, ℤ, pos, Ok, Err, Result, sym, subst, inl, ⊎_elim, arith}
use Rattle.std.proofs.lemmas.Int.{ints}
use Rattle.std.proofs.lemmas.Bool.{cases_lt}
use Rattle.numbers.specs.Sums.{Within}
use Rattle.market.specs.Market.{Market}
use Rattle.market.specs.Lawful.{Lawful}
use Rattle.rules.specs.Scratch.{Filled}
use Rattle.clearing.specs.declared.faults.Refusal.{Refusal}
use Rattle.clearing.specs.declared.worth.Worth.{Worth}
use Rattle.clearing.specs.Files.{Reads, Outcome}
use Rattle.clearing.specs.Verdicts.{Told, Judged}
use Rattle.clearing.proofs.Numbers.{Limits, Priced, marked_limits}

-- a file that is read through was not too long, and there was scratch enough
pub record Through (m : Market) (file : List ℕ) (was then : List ℤ) : Type 0 where
  pub enough : 448 ≤ length was
  pub few : length file ≤ 65535
  pub reads : Reads m file (Ok tt) (take 448 then)
  pub beyond : drop 448 then ≡ drop 448 was

pub through : (m : Market) (file : List ℕ) (was then : List ℤ) → Outcome m file was (Ok tt) then → Through m file was then
through m file was then o = ⊎_elim
    (λ (h : length was < 448). let p = (o.short h).0 in absurd cc)
    (λ (h : 448 ≤ length was). ⊎_elim
    (λ (l : 65535 < length file). let p = (o.long h l).0 in absurd cc)
    (λ (l : length file ≤ 65535). let r = o.reads h l in record { enough = h; few = l; reads = r.0; beyond = r.1 })
    (cases_lt 65535 (length file)))
    (cases_lt (length was) 448)

-- the numbers of a file are small enough to judge
pub reads_limits : (m : Market) → Lawful m → (file : List ℕ) (r : Result (Unit {0}) Refusal) (ns : List ℤ) → Reads m file r ns → Limits m ns
reads_limits m good file r ns k = subst (Limits m) (sym k.runs.are) (marked_limits m good k.runs.marks k.ordered)

small_price : (m : Market) (l : ℕ) (y : ℤ) → (y ≡ pos 0) ⊎ Priced m l y → Within 99999 y
small_price m l y = ⊎_elim (λ (e : y ≡ pos 0). (omega (arith, ints), omega (arith, ints))) (λ (p : Priced m l y). let a = p.low in let b = p.high in (omega (arith, ints), omega (arith, ints)))

pub filled : (m : Market) (ns : List ℤ) → Limits m ns → Filled ns
filled m ns k = record { long = omega (arith, k.long); parts = k.parts; prices = λ l h. small_price m l (get_or ns (256 + l) (pos 0)) (k.prices l h) }

-- a file that is refused while it is read is refused for that
pub not_read : (m : Market) (file : List ℕ) (was then : List ℤ) (e : Refusal) → Outcome m file was (Err e) then → Judged m file was (Err e) then
not_read m file was then e o = record {
  short = λ h. let p = o.short h in (cc, p.1);
  long = λ h l. let p = o.long h l in (cc, p.1);
  told = λ h l. let p = o.reads h l in (inl p.0, p.1);
}

-- one that is read through is judged
pub judged : (m : Market) (file : List ℕ) (was then : List ℤ) (r : Result Worth Refusal) → Through m file was then → Told m file r (take 448 then) → Judged m file was r then
judged m file was then r t told = record {
  short = λ h. absurd (omega (arith, t.enough));
  long = λ h l. absurd (omega (arith, t.few));
  told = λ h l. (told, t.beyond);
}
