-- What a book promises inside of `enter`, of each record that it takes.
use Rattle.std.specs.Prelude.{◌≡◌, true, false, Ok, Err, Result}
use Rattle.records.specs.Read.{Content}
use Rattle.market.specs.declared.faults.Fault.{Fault}
use Rattle.market.specs.Market.{Market, put}
use Rattle.market.specs.Reading.{entry_in, limits}
use Rattle.market.specs.Tests.{absent}
use Rattle.market.specs.Wrong.{Faulty}

-- What one record does: its entry is put after the others, or it is at fault and nothing changes.
abbrev pub Took : Market → Content → Result (Unit {0}) Fault → Market → Type 0
Took m c (Ok x) after = (limits c ≡ true) × (absent m (entry_in c) ≡ false) × (after ≡ put m (entry_in c))
Took m c (Err f) after = Faulty m c f × (after ≡ m)
