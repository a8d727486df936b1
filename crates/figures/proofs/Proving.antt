-- What the three files of weights prove.
use Rattle.std.proofs.Common.{[], ◌∷◌, pos, negsuc, refl, arith}
use Rattle.std.proofs.lemmas.Int.{ints}
use Rattle.numbers.specs.Searches.{least}
use Rattle.numbers.specs.Sums.{sum_to}
use Rattle.records.specs.Write.{digits}
use Rattle.market.specs.Figures.{market}
use Rattle.rules.specs.Scratch.{parts_in}
use Rattle.bound.specs.Trees.{leaf, Proves}
use Rattle.auction.specs.Acceptance.{acceptance}
use Rattle.auction.specs.Pricing.{pricing}
use Rattle.figures.specs.Figures.{full, row0, row97, no_weights, PriceGap}

pub welfare : Proves (acceptance market) row0 (pos 1600000000)
unfolding sum_to least digits
welfare = (leaf (record { row = 0; weight = pos 70000000 } ∷ []), refl, ((record { there = omega arith; least = omega (arith, ints); greatest = omega (arith, ints) }, tt), (omega arith, tt)), refl)

saving : Proves (pricing market (parts_in (full 7000))) row97 (negsuc 2799999999999)
unfolding sum_to least digits
saving = (leaf (record { row = 97; weight = pos 2000 } ∷ []), refl, ((record { there = omega arith; least = omega (arith, ints); greatest = omega (arith, ints) }, tt), (omega arith, tt)), refl)

unweighed : Proves (pricing market (parts_in (full 7000))) no_weights (pos 39999600000000)
unfolding sum_to least digits
unweighed = (leaf [], refl, (tt, tt), refl)

pub no_gap : PriceGap (full 7000) row97 (pos 0)
unfolding sum_to
no_gap = record { bound = negsuc 2799999999999; proves = saving; is = refl }

pub gap : PriceGap (full 7000) no_weights (pos 42799600000000)
unfolding sum_to
gap = record { bound = pos 39999600000000; proves = unweighed; is = refl }
