use Rattle.std.proofs.Common.{rules, mul-le-mul_right, arith}
use Rattle.rules.proofs.filled.Clearing.extras_sum.Goals as goal

pub sum_of-requires-clause-fits : goal.sum_of-requires-clause-fits
sum_of-requires-clause-fits g c =
    let few = c.extra_count.ensures.few in
    let fits = c.requires.fits in
    let most = mul-le-mul_right fits.1 few in
    (fits.0, fits.1, omega arith, λ k z l h. fits.3 k z (search rules) h)

pub returns : goal.returns
returns g c = λ f size terms. let said = c.sum_of.ensures f size (λ k z l h. terms k z (search rules) h) in search rules
