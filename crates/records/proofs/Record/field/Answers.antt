use Rattle.std.proofs.Common.{◌≡◌, ℕ, ◌*◌, ◌<◌, length, get_or, drop, pos, sym, refl, ap, ◌∙◌, arith, length-drop, w64, rules}
use Rattle.std.proofs.lemmas.Slice.{between_to_end}
use Rattle.std.proofs.lemmas.Int.{to_z-of_z}
use Rattle.records.specs.Bytes.{value, width}
use Rattle.records.specs.Read.{fields}
use Rattle.records.proofs.Places.{field_absent, field_stands}
use Rattle.records.proofs.Sizes.{value_short, width_pos, zero_is}
use Rattle.records.proofs.Record.field.Goals as goal
use Rattle.records.proofs.Record.field.Goals.{After-field_width}

pub returns-then-not-stands : goal.returns-then-not-stands
returns-then-not-stands c =
    let self = c.args.self.now in
    field_absent self.kind self.map.bits self.bytes.now c.args.bit (sym c.if-not-stands.ensures.told)

-- the field that the code finds at `start` is that of the bit
module _ (c : goal.After-field_width) where
  abbrev start : ℕ
  start = c.ones_below.result * c.field_width.result

  there : value c.args.self.now.kind (drop start c.args.self.now.bytes.now) ≡ get_or (fields c.args.self.now.kind 16 c.args.self.now.map.bits c.args.self.now.bytes.now) c.args.bit (pos 0)
  there =
      let self = c.args.self.now in
      let told = c.if-not-stands.ensures.told in
      field_stands self.kind self.map.bits self.bytes.now c.args.bit start (c.if-not-stands.ensures.low refl) (sym told) (λ i. c.ones_below.ensures i * c.field_width.ensures i)

pub returns-in_default : goal.returns-in_default
returns-in_default c =
    let self = c.args.self.now in
    let w = (goal.at.returns-in_default c).After-field_width in
    let short : length self.bytes.now < start w = omega (arith, c.in_default.ensures.lookup.0) in
    let past : length (drop (start w) self.bytes.now) < width self.kind = simp length-drop (omega (arith, width_pos self.kind)) in
    sym (value_short self.kind (drop (start w) self.bytes.now) past) ∙ there w

pub returns-in_default-take : goal.returns-in_default-take
returns-in_default-take c =
    let self = c.args.self.now in
    let w = (goal.at.returns-in_default-take c).After-field_width in
    let bytes = self.bytes.now in
    let cut = c.in-Some.ensures.lookup.0.2 ∙ between_to_end bytes (start w) (length bytes) (omega arith) in
    sym (zero_is _ c.in_default-take.ensures.takes.0) ∙ ap (value self.kind) cut ∙ there w

pub returns : goal.returns
returns c =
    let self = c.args.self.now in
    let w = (goal.at.returns c).After-field_width in
    let bytes = self.bytes.now in
    let cut = c.in-Some.ensures.lookup.0.2 ∙ between_to_end bytes (start w) (length bytes) (omega arith) in
    to_z-of_z w64 c.in-Ok.value (search rules) ∙ c.in-Ok.ensures.takes.1 ∙ ap (value self.kind) cut ∙ there w
