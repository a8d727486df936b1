use Rattle.std.proofs.Common.{refl, arith}
use Rattle.market.proofs.Figures.{figure}
use Rattle.rules.specs.declared.faults.Rule.TheVariants.{BasketSurplus, BuyPrices}
use Rattle.figures.proofs.Reading.{reads_7000, reads_6999, reads_9000, reads_9001, reads_half}
use Rattle.figures.proofs.Keeping.{keeps_7000, keeps_9000, keeps_half}
use Rattle.figures.proofs.Breaking.{breaks_6999, breaks_9001}
use Rattle.figures.proofs.Proving.{welfare, no_gap, gap}
use Rattle.figures.proofs.stand.figures_stand.Goals as goal

pub returns : goal.returns
returns c = record {
  entered = figure;
  at_70_00 = record { reads = reads_7000; keeps = keeps_7000 };
  at_69_99 = record { reads = reads_6999; rule = BasketSurplus; numbered = refl; first = breaks_6999 };
  at_90_00 = record { reads = reads_9000; keeps = keeps_9000 };
  at_90_01 = record { reads = reads_9001; rule = BuyPrices; numbered = refl; first = breaks_9001 };
  half_at_30_00 = record { reads = reads_half; keeps = keeps_half };
  bound = welfare;
  no_gap = no_gap;
  gap = gap;
  shown = record { covers = omega arith; least = omega arith };
}
