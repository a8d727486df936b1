use Rattle.std.proofs.Common.{◌≡◌, length, take, vec_items, vec_len}
use Rattle.market.specs.Files.{AfterFiles}
use Rattle.market.specs.Lawful.{Lawful}
use Rattle.market.specs.Market.{Market, empty}
use Rattle.market.specs.View.{market_of}
use Rattle.console.specs.Past.{Came}
use Rattle.console.specs.Played.{visits}
use Rattle.console.specs.View.{standing}
use Rattle.console.proofs.Playing.{SoFar}
use Rattle.console.proofs.replays.replay.Given as goal

-- the files so far
abbrev pub invariant-loop-f : goal.invariant-loop-f
invariant-loop-f l = record {
  count : vec_len l.entered ≡ l.f-index;
  made : AfterFiles empty (visits (take l.f-index l.files) (vec_items l.entered)) (market_of l.book);
}

-- the calls so far
abbrev pub invariant-loop-c : goal.invariant-loop-c
invariant-loop-c l = record {
  market : Market;
  lawful : Lawful market;
  made : AfterFiles empty (visits l.files (vec_items l.entered)) market;
  files : vec_len l.entered ≡ length l.files;
  came : Came market (take l.c-index l.calls) (standing l.console);
  count : vec_len l.answers ≡ l.c-index;
  so_far : SoFar market l.calls l.c-index (vec_items l.answers);
}
