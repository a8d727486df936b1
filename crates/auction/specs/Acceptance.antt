-- The acceptance programme of a market: its table, row by row.
-- Buy i is variable i, the parent of basket b is 64 + b, child or substitute k is 160 + k.
use Rattle.std.specs.Prelude.{ℕ, ◌+◌, ◌-◌, ◌/◌, ◌%◌, Bool, cond, not, ◌&&◌, length, ℤ, pos, negsuc, ◌+ℤ◌, neg_ℤ, ◌==◌, nat_eq, nat_le, nat_lt}
use Rattle.numbers.specs.Searches.{least}
use Rattle.bound.specs.Tables.{Table}
use Rattle.market.specs.Market.{Market, window_at, buy_at, basket_at, extra_at, is_child, is_substitute}
use Rattle.auction.specs.declared.rows.Row.{Row}
use Rattle.auction.specs.declared.rows.Row.TheVariants.{Line, Child, Substitutes, Family, AtMostFirst, AtLeastFirst, Unit, Zero}
use Rattle.auction.specs.Orders.{buy_on, basket_on, extra_on, buy_value, basket_value, extra_value}

-- a number for each buy, each basket, each child or substitute
pub record Numbers : Type 0 where
  pub buys : ℕ → ℤ
  pub baskets : ℕ → ℤ
  pub extras : ℕ → ℤ

-- the same by variable, and 0 beyond the last
abbrev pub spread : Numbers → ℕ → ℤ
spread n v = cond (nat_lt v 64) (n.buys v) (cond (nat_lt v 160) (n.baskets (v - 64)) (cond (nat_lt v 256) (n.extras (v - 160)) (pos 0)))

abbrev pub none : ℕ → ℤ
none i = pos 0

-- c at j, and 0 elsewhere
abbrev pub only : ℕ → ℤ → ℕ → ℤ
only j c i = cond (i == j) c (pos 0)

-- 1 where it is so, else 0
abbrev pub one_if : Bool → ℤ
one_if t = cond t (pos 1) (pos 0)

-- the first (lowest) basket of the loop of b
abbrev pub first : Market → ℕ → ℕ
first m b = least (λ c. nat_eq (basket_at m c).ring (basket_at m b).ring) (length m.baskets)

-- the window of a basket: where it starts, and where the next half hour starts
abbrev pub start_of : Market → ℕ → ℕ
start_of m b = (window_at m (basket_at m b).window).start

abbrev pub end_of : Market → ℕ → ℕ
end_of m b = start_of m b + (window_at m (basket_at m b).window).length

-- basket c is of b's unit and covers b's first half hour
abbrev pub stands : Market → ℕ → ℕ → Bool
stands m b c = nat_lt c (length m.baskets) && ((basket_at m c).unit == (basket_at m b).unit && (nat_le (start_of m c) (start_of m b) && nat_lt (start_of m b) (end_of m c)))

-- Which row is about what. A row of something that is not entered is zero.
abbrev pub child_row : Market → ℕ → Row
child_row m k = cond (nat_lt k (length m.extras) && is_child (extra_at m k).role) (Child k) Zero

abbrev pub substitutes_row : Market → ℕ → Row
substitutes_row m b = cond (nat_lt b (length m.baskets)) (Substitutes b) Zero

-- b is entered and has a loop
abbrev pub looped : Market → ℕ → Bool
looped m b = nat_lt b (length m.baskets) && not ((basket_at m b).ring == 0)

abbrev pub loop_row : Market → ℕ → ℕ → Row
loop_row m b second = cond (looped m b) (cond (second == 0) (AtMostFirst b) (AtLeastFirst b)) Zero

abbrev pub unit_row : Market → ℕ → Row
unit_row m b = cond (nat_lt b (length m.baskets)) (Unit b) Zero

-- 0–191 lines; 192–287 children; 288–383 substitutes, by basket; 384–447 families from 1; 448–639 loops, two rows for each basket; 640–735 units, by basket
abbrev pub row_at : Market → ℕ → Row
row_at m r =
    cond (nat_lt r 192) (Line r)
    (cond (nat_lt r 288) (child_row m (r - 192))
    (cond (nat_lt r 384) (substitutes_row m (r - 288))
    (cond (nat_lt r 448) (Family (r - 383))
    (cond (nat_lt r 640) (loop_row m ((r - 448) / 2) ((r - 448) % 2))
    (unit_row m (r - 640))))))

-- The coefficients of each kind of row. (The first of a loop is 1 − 1 = 0 in its own rows.)
abbrev pub coefficients : Market → Row → Numbers
coefficients m (Line l) = record { buys = λ i. pos (buy_on m l i); baskets = λ b. neg_ℤ (pos (basket_on m l b)); extras = λ k. neg_ℤ (pos (extra_on m l k)) }
coefficients m (Child k) = record { buys = none; baskets = only (extra_at m k).basket (negsuc 0); extras = only k (pos 1) }
coefficients m (Substitutes b) = record { buys = none; baskets = only b (negsuc 0); extras = λ k. one_if (nat_lt k (length m.extras) && (is_substitute (extra_at m k).role && (extra_at m k).basket == b)) }
coefficients m (Family f) = record { buys = λ i. one_if (nat_lt i (length m.buys) && (buy_at m i).family == f); baskets = none; extras = none }
coefficients m (AtMostFirst b) = record { buys = none; baskets = λ c. only b (pos 1) c +ℤ only (first m b) (negsuc 0) c; extras = none }
coefficients m (AtLeastFirst b) = record { buys = none; baskets = λ c. only (first m b) (pos 1) c +ℤ only b (negsuc 0) c; extras = none }
coefficients m (Unit b) = record { buys = none; baskets = λ c. one_if (stands m b c); extras = none }
coefficients m Zero = record { buys = none; baskets = none; extras = none }

-- The right side of each kind of row.
abbrev pub side_of : Row → ℤ
side_of (Line l) = pos 0
side_of (Child k) = pos 0
side_of (Substitutes b) = pos 0
side_of (Family f) = pos 1
side_of (AtMostFirst b) = pos 0
side_of (AtLeastFirst b) = pos 0
side_of (Unit b) = pos 1
side_of Zero = pos 0

-- 1 for what is entered
abbrev pub entered : Market → Numbers
entered m = record { buys = λ i. one_if (nat_lt i (length m.buys)); baskets = λ b. one_if (nat_lt b (length m.baskets)); extras = λ k. one_if (nat_lt k (length m.extras)) }

-- price × total quantity, negated for sells
abbrev pub values : Market → Numbers
values m = record { buys = buy_value m; baskets = λ b. neg_ℤ (basket_value m b); extras = λ k. neg_ℤ (extra_value m k) }

abbrev pub acceptance : Market → Table
acceptance m =
    record {
      scale = pos 10000;
      variables = 256;
      rows = 736;
      low = none;
      high = spread (entered m);
      whole = λ v. nat_le 64 v && nat_lt (v - 64) (length m.baskets);
      objective = spread (values m);
      coefficient = λ r. spread (coefficients m (row_at m r));
      side = λ r. side_of (row_at m r);
    }
