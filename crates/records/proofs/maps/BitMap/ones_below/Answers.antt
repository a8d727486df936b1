use Rattle.std.proofs.Common.{ap}
use lib.Count.{ones}
use Rattle.records.proofs.Places.{mask_is}
use Rattle.records.proofs.maps.BitMap.ones_below.Goals as goal

pub returns : goal.returns
returns c = ap ones (mask_is c.args.self.bits c.args.bit c.requires)
