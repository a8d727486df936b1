-- A worked market: a window of eight half hours, a buy of 40 at 9,000 and two baskets of 20, at 3,000 and at 7,000, all of one product.
use Rattle.std.specs.Prelude.{◌≡◌, ℕ, false, cond, [], ◌∷◌, ℤ, pos, negsuc, Some, ◌==◌}
use Rattle.bound.specs.Leaves.{leaf_bound}
use Rattle.market.specs.declared.entries.Service.TheVariants.{Response}
use Rattle.market.specs.Market.{Market}
use Rattle.auction.specs.Acceptance.{acceptance}
use Rattle.auction.specs.Pricing.{pricing}

abbrev pub worked : Market
worked =
    record {
      windows = record { service = Response; start = 0; length = 8 } ∷ [];
      buys = record { window = 0; product = 0; quantity = 40; price = pos 9000; family = 0; permit = false } ∷ [];
      baskets =
          record { unit = 1; window = 0; ring = 0; quantities = 20 ∷ 0 ∷ 0 ∷ 0 ∷ 0 ∷ 0 ∷ []; price = pos 3000 }
          ∷ record { unit = 2; window = 0; ring = 0; quantities = 20 ∷ 0 ∷ 0 ∷ 0 ∷ 0 ∷ 0 ∷ []; price = pos 7000 } ∷ [];
      extras = [];
    }

-- the buy and both parents in full
abbrev pub in_full : ℕ → ℤ
in_full v = cond (v == 0) (pos 10000) (cond (v == 64) (pos 10000) (cond (v == 65) (pos 10000) (pos 0)))

-- What three leaves prove of it: with 70,000,000 on row 0 no clearing has more than the welfare 1,600,000,000 of all in full;
-- with 2,000 on row 97 no price list costs less than 2,800,000,000; and what a leaf without weights proves of prices.
pub record WorkedBounds : Type 0 where
  pub welfare : leaf_bound (acceptance worked) (record { row = 0; weight = pos 70000000 } ∷ []) ≡ Some (pos 1600000000)
  pub saving : leaf_bound (pricing worked in_full) (record { row = 97; weight = pos 2000 } ∷ []) ≡ Some (negsuc 2799999999999)
  pub without_weights : leaf_bound (pricing worked in_full) [] ≡ Some (pos 39999600000000)
