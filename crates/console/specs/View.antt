-- What stands on a console.
use Rattle.market.specs.View.{closed_of}
use Rattle.console.specs.declared.state.Console.{Console}
use Rattle.console.specs.Standing.{Standing}

abbrev pub standing : Console → Standing
standing c = record { market = closed_of c.market; held = c.held; bound = c.bound; price = c.price_bound }
