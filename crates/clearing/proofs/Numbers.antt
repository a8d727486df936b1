-- The numbers that marks in order leave are a clearing's parts and a price list.
use Rattle.std.proofs.Common.{◌≡◌, ℕ, ◌+◌, ◌/◌, ◌<◌, ◌≤◌, Bool, true, false, cond, ◌&&◌, ltb, ◌⊎◌, List, [], ◌∷◌, length, get_or, set, ℤ, pos, negsuc, ◌≤ℤ◌, Some, None, fold, Option, sym, refl, ap, ◌∙◌, subst, inl, inr, ⊎_elim, arith, length-set}
use lib.Signed.{le_z}
use Rattle.std.proofs.lemmas.List.{get_or-set_other}
use Rattle.std.proofs.lemmas.Grind.{get_or-set_at}
use Rattle.std.proofs.lemmas.Bool.Decides.{nat_tests}
use Rattle.std.proofs.lemmas.Simd.{length-replicate, get_or-replicate}
use Rattle.std.proofs.lemmas.Int.{ints}
use Rattle.std.proofs.lemmas.Bool.{cases_eq, cases_lt, ltb-true, and_parts}
use Rattle.market.specs.Market.{Market}
use Rattle.market.specs.Lawful.{Lawful}
use Rattle.rules.specs.Clearings.{Parts as Share}
use Rattle.clearing.specs.declared.faults.Fault.TheVariants.{NotRising, OutsideLimits, Absent}
use Rattle.clearing.specs.declared.marks.Mark.{Mark}
use Rattle.clearing.specs.declared.marks.Mark.TheVariants.{Parts, Price}
use Rattle.clearing.specs.Files.{fault_of, InOrder}
use Rattle.clearing.specs.Marks.{rises, in_limits, is_named, is_order, is_line, place_of, amount_of, marked, zeros}

-- a price within its limits on a line that has a window and a product
pub record Priced (m : Market) (l : ℕ) (y : ℤ) : Type 0 where
  pub line : is_line m l y ≡ true
  pub low : negsuc 99998 ≤ℤ y
  pub high : y ≤ℤ pos 99999

-- parts of entered orders within their limits, and prices of lines within theirs; all else 0
pub record Limits (m : Market) (ns : List ℤ) : Type 0 where
  pub long : length ns ≡ 448
  pub parts : (v : ℕ) → v < 256 → Share 10000 (get_or ns v (pos 0))
  pub absent : (v : ℕ) → v < 256 → is_order m v ≡ false → get_or ns v (pos 0) ≡ pos 0
  pub prices : (l : ℕ) → l < 192 → (get_or ns (256 + l) (pos 0) ≡ pos 0) ⊎ Priced m l (get_or ns (256 + l) (pos 0))

pub limits_none : (m : Market) → Limits m zeros
limits_none m = record {
  long = length-replicate 448 (pos 0);
  parts = λ v h. let e = get_or-replicate 448 v (pos 0) (pos 0) (omega arith) in (omega (arith, ints), omega (arith, ints));
  absent = λ v h t. get_or-replicate 448 v (pos 0) (pos 0) (omega arith);
  prices = λ l h. inl (get_or-replicate 448 (256 + l) (pos 0) (pos 0) (omega arith));
}

put_parts : (m : Market) (ns : List ℤ) (v : ℕ) (p : ℤ) → Limits m ns → v < 256 → is_order m v ≡ true → pos 0 ≤ℤ p → p ≤ℤ pos 10000 → Limits m (set ns v p)
put_parts m ns v p k h t low high = record {
  long = length-set ns v p ∙ k.long;
  parts = λ w l. ⊎_elim
      (λ (e : w ≡ v). let q = get_or-set_at ns v w p (pos 0) e (omega (arith, k.long)) in (omega (arith, ints), omega (arith, ints)))
      (λ (d : w ≡ v → ⊥). let q = get_or-set_other ns v w p (pos 0) d in let o = k.parts w l in (omega (arith, ints), omega (arith, ints)))
      (cases_eq w v);
  absent = λ w l u. ⊎_elim
      (λ (e : w ≡ v). absurd cc)
      (λ (d : w ≡ v → ⊥). get_or-set_other ns v w p (pos 0) d ∙ k.absent w l u)
      (cases_eq w v);
  prices = λ l b. subst (λ (z : ℤ). (z ≡ pos 0) ⊎ Priced m l z) (sym (get_or-set_other ns v (256 + l) p (pos 0) (λ e. omega arith))) (k.prices l b);
}

put_price : (m : Market) (ns : List ℤ) (l : ℕ) (y : ℤ) → Limits m ns → l < 192 → Priced m l y → Limits m (set ns (256 + l) y)
put_price m ns l y k h good = record {
  long = length-set ns (256 + l) y ∙ k.long;
  parts = λ w b. subst (Share 10000) (sym (get_or-set_other ns (256 + l) w y (pos 0) (λ e. omega arith))) (k.parts w b);
  absent = λ w b u. get_or-set_other ns (256 + l) w y (pos 0) (λ e. omega arith) ∙ k.absent w b u;
  prices = λ w b. ⊎_elim
      (λ (e : w ≡ l). subst (λ (z : ℤ). (z ≡ pos 0) ⊎ Priced m w z) (sym (get_or-set_at ns (256 + l) (256 + w) y (pos 0) (ap (λ n. 256 + n) e) (omega (arith, k.long)))) (inr (subst (λ (n : ℕ). Priced m n y) (sym e) good)))
      (λ (d : w ≡ l → ⊥). subst (λ (z : ℤ). (z ≡ pos 0) ⊎ Priced m w z) (sym (get_or-set_other ns (256 + l) (256 + w) y (pos 0) (λ e. d (omega arith)))) (k.prices w b))
      (cases_eq w l);
}

-- an entered order has one of 256 variables, and a line with a window one of 192 numbers
order_few : (m : Market) → Lawful m → (v : ℕ) → is_order m v ≡ true → v < 256
order_few m good v t = ⊎_elim
    (λ (a : v < 256). a)
    (λ (a : 256 ≤ v). let few = good.few_extras in absurd (grind (arith, nat_tests)))
    (cases_lt v 256)

line_few : (m : Market) → Lawful m → (l : ℕ) (y : ℤ) → is_line m l y ≡ true → l < 192
line_few m good l y t =
    let p = and_parts (ltb (l / 6) (length m.windows)) _ t in
    let q = ltb-true (l / 6) (length m.windows) p.0 in
    omega (arith, good.few_windows)

-- nothing is wrong with a mark: it is within its limits and names something
fine : (m : Market) (last : Option Mark) (x : Mark) → fault_of m last x ≡ None → (in_limits x ≡ true) × (is_named m x ≡ true)
fine m last x = both (rises last x) (in_limits x) (is_named m x)
  where
    both : (a b c : Bool) → cond a (cond b (cond c None (Some Absent)) (Some OutsideLimits)) (Some NotRising) ≡ None → (b ≡ true) × (c ≡ true)
    both true true true e = (refl, refl)
    both true true false e = absurd cc
    both true false c e = absurd cc
    both false b c e = absurd cc

put_mark : (m : Market) → Lawful m → (ns : List ℤ) (x : Mark) → in_limits x ≡ true → is_named m x ≡ true → Limits m ns → Limits m (set ns (place_of x) (amount_of x))
put_mark m good ns (Parts (pos v) p) a b k =
    let q = and_parts (le_z (pos 1) p) (le_z p (pos 10000)) a in
    let s = order_few m good v b in
    subst (λ (n : ℕ). Limits m (set ns n p)) (omega arith) (put_parts m ns v p k s b (grind (arith, ints)) (grind (arith, ints)))
put_mark m good ns (Parts (negsuc v) p) a b k = absurd cc
put_mark m good ns (Price (pos l) y) a b k =
    let q = and_parts _ (le_z (negsuc 99998) y && le_z y (pos 99999)) a in
    let r = and_parts (le_z (negsuc 99998) y) (le_z y (pos 99999)) q.1 in
    put_price m ns l y k (line_few m good l y b) (record { line = b; low = grind (arith, ints); high = grind (arith, ints) })
put_mark m good ns (Price (negsuc l) y) a b k = absurd cc

fold_limits : (m : Market) → Lawful m → (ns : List ℤ) (last : Option Mark) (xs : List Mark) → Limits m ns → InOrder m last xs → Limits m (fold (λ numbers x. set numbers (place_of x) (amount_of x)) ns xs)
fold_limits m good ns last [] k o = k
fold_limits m good ns last (x ∷ xs) k o = let f = fine m last x o.0 in fold_limits m good (set ns (place_of x) (amount_of x)) (Some x) xs (put_mark m good ns x f.0 f.1 k) o.1

pub marked_limits : (m : Market) → Lawful m → (xs : List Mark) → InOrder m None xs → Limits m (marked xs)
marked_limits m good xs o = fold_limits m good zeros None xs (limits_none m) o
