use Rattle.std.proofs.Common.{◌≡◌, ◌∙◌, ap₂, ◌*ℤ◌, arith, w64, to_z, of_z, rules}
use Rattle.numbers.proofs.Products.{Multiplied, multiplied}
use Rattle.auction.proofs.Offers.{sized}
use Rattle.auction.proofs.pricing.PriceProgramme.weighed.Goals as goal

product : (c : goal.After-part) → Multiplied (to_z w64 (of_z w64 c.measured.result)) (to_z w64 (of_z w64 c.part.result)) c.measured.result c.part.result 9998900010000
product c =
    let u : to_z w64 (of_z w64 c.measured.result) ≡ c.measured.result = search rules in
    let v : to_z w64 (of_z w64 c.part.result) ≡ c.part.result = search rules in
    multiplied _ _ _ _ 999890001 10000 u v c.measured.ensures.small c.part.ensures.small (omega arith)

pub overflow_mul-result : goal.overflow_mul-result
overflow_mul-result c = (product c).fits

pub returns : goal.returns
returns c =
    let p = product c in
    record { is = p.is ∙ ap₂ ◌*ℤ◌ c.measured.ensures.is c.part.ensures.is; small = sized 9998900010000 _ _ p.is p.small }
