use Rattle.std.proofs.Common.{◌≡◌, ◌-◌, ◌*◌, ◌≤◌, length}
use Rattle.records.specs.Bytes.{width}
use Rattle.records.specs.Read.{values, has_zero}
use Rattle.records.proofs.fields.Fields.pass.Given as goal

-- what is left to read decides
abbrev pub invariant-loop-i : goal.invariant-loop-i
invariant-loop-i l =
    (l.self.kind ≡ l.fn.self.kind)
    × (width l.self.kind * (l.count - l._i) ≤ length l.self.bytes.now)
    × (has_zero (values l.fn.self.kind l.count l.fn.self.bytes.now) ≡ has_zero (values l.self.kind (l.count - l._i) l.self.bytes.now))
