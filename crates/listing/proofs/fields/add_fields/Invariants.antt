use Rattle.std.proofs.Common.{◌≡◌, ◌++◌, drop, string_bytes}
use Rattle.records.specs.Read.{content}
use Rattle.listing.specs.Lines.{fields_text}
use Rattle.listing.proofs.fields.add_fields.Given as goal

-- what is left to write leads to the whole
abbrev pub invariant-loop-bit : goal.invariant-loop-bit
invariant-loop-bit l = string_bytes l.text ++ fields_text l.bit (drop l.bit (content l.«record»).fields) ≡ string_bytes l.initial.text ++ fields_text 0 (content l.«record»).fields
