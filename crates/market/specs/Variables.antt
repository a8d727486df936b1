-- Which order each variable of a clearing stands for: buy i is variable i, the parent of basket b is 64 + b, child or
-- substitute k is 160 + k; from 256 on there is none.
use Rattle.std.specs.Prelude.{ℕ, ◌+◌, ◌-◌, Bool, cond, length, Option, Some, None, nat_lt}
use Rattle.market.specs.declared.variables.Order.{Order}
use Rattle.market.specs.declared.variables.Order.TheVariants.{Buy, Parent, Extra}
use Rattle.market.specs.Market.{Market}

abbrev pub variable_of : Order → ℕ
variable_of (Buy i) = i
variable_of (Parent b) = 64 + b
variable_of (Extra k) = 160 + k

abbrev pub order_of : ℕ → Option Order
order_of v =
    cond (nat_lt v 64) (Some (Buy v))
    (cond (nat_lt v 160) (Some (Parent (v - 64)))
    (cond (nat_lt v 256) (Some (Extra (v - 160))) None))

-- the market has the order
abbrev pub is_entered : Market → Order → Bool
is_entered m (Buy i) = nat_lt i (length m.buys)
is_entered m (Parent b) = nat_lt b (length m.baskets)
is_entered m (Extra k) = nat_lt k (length m.extras)
