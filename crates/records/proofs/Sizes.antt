-- How many bytes a field, and a record, takes. Assumes nothing.
use Rattle.std.proofs.Common.{◌≡◌, ℕ, ◌<◌, ◌≤◌, true, false, cond, List, length, ℤ, pos, negsuc, ap, arith}
use Rattle.std.proofs.lemmas.Bool.{eqb-true, lt-ltb, le-ltb, cond-true, cond-false}
use Rattle.records.specs.Bytes.{is_narrow, width, value, signed}
use Rattle.records.specs.Read.{is_zero}

pub zero_is : (z : ℤ) → is_zero z ≡ true → z ≡ pos 0
zero_is (pos n) e = ap pos (eqb-true n 0 e)
zero_is (negsuc n) e = absurd cc

pub value_short : (kind : ℕ) (bs : List ℕ) → length bs < width kind → value kind bs ≡ pos 0
value_short kind bs h = cond-true _ _ _ (lt-ltb (length bs) (width kind) h)

pub value_long : (kind : ℕ) (bs : List ℕ) → width kind ≤ length bs → value kind bs ≡ signed kind bs
value_long kind bs h = cond-false _ _ _ (le-ltb (length bs) (width kind) h)

pub width_pos : (kind : ℕ) → 0 < width kind
width_pos kind = elim (is_narrow kind) as (λ b. 0 < cond b 4 8) [ true ↦ omega arith | false ↦ omega arith ]
