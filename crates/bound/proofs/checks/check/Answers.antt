use Rattle.std.proofs.Common.{rules}
use Rattle.std.specs.List.{AllByRecursion}
use Rattle.std.proofs.ByRecursion.{All-from_get_or}
use Rattle.records.specs.Write.{Byte}
use Rattle.bound.proofs.Refusing.{all_refuses}
use Rattle.bound.proofs.Whole.{all_proves, all_sound, all_accepts}
use Rattle.bound.proofs.checks.check.Goals as goal

pub returns : goal.returns
returns g c =
    let pile = c.args.pile.now in
    let t = g.P.Programme.table pile in
    let lawful = g.P.Programme.lawful pile in
    let file = c.args.file.now in
    let bytes : AllByRecursion Byte file = All-from_get_or Byte file 0 (λ k h. search rules) in
    let exact = c.walk.ensures in
    record { exact = exact; proves = all_proves t lawful file _ bytes exact; sound = all_sound t lawful file _ exact; accepts = all_accepts t lawful file _ exact; refuses = all_refuses file bytes t _ exact }
