use Rattle.std.proofs.Common.{◌≡◌, ◌<◌, ◌∷◌, [], ◌++◌, set, to_z, of_z, Err, sym, ap, ◌∙◌, arith, length-set, w64, SFits}
use Rattle.std.proofs.lemmas.Int.{to_z-of_z}
use Rattle.std.proofs.lemmas.Bool.{leb-true, eqb-true}
use Rattle.arrayvec.proofs.ArrayVecLemmas.{items-with_items}
use Rattle.bound.specs.declared.fixing.Held.{Held}
use Rattle.bound.specs.Tables.{Small}
use Rattle.bound.proofs.Holding.{place_some, place_none, put_last, put_again, may_hold, no_room}
use Rattle.bound.proofs.fixing.Fixing.hold.Goals as goal

pub returns-in-None-clause-answers : goal.returns-in-None-clause-answers
returns-in-None-clause-answers g c =
    let self = c.args.self.now in
    let hs = self.row.items in
    let h : Held = record { variable = c.args.v; value = c.args.value } in
    let value : SFits w64 c.args.value = c.ranges.value in
    let small : Small c.args.value = simp to_z-of_z at (leb-true _ _ (sym c.is_small.ensures ∙ c.if-not-is_small.false)) in
    let known : c.args.v < (g.P.Programme.table self.below.now).variables = rw c.variable_count.ensures at c.if-v-variable_count.false in
    let free = place_none c.args.v hs (sym c.in-None.is ∙ rw c.as_slice.ensures.value at c.place_of.ensures) in
    let full = eqb-true _ _ (sym c.is_full.ensures.value ∙ c.if-is_full.true) in
    ap Err c.at-in-None.ensures ∙ no_room _ hs h small known (omega (arith, free, full))

pub returns-in-Some-clause-answers : goal.returns-in-Some-clause-answers
returns-in-Some-clause-answers g c =
    let self = c.args.self.now in
    let hs = self.row.items in
    let h : Held = record { variable = c.args.v; value = c.args.value } in
    let value : SFits w64 c.args.value = c.ranges.value in
    let small : Small c.args.value = simp to_z-of_z at (leb-true _ _ (sym c.is_small.ensures ∙ c.if-not-is_small.false)) in
    let known : c.args.v < (g.P.Programme.table self.below.now).variables = rw c.variable_count.ensures at c.if-v-variable_count.false in
    let found = place_some c.args.v hs c.in-Some.at (sym c.in-Some.is ∙ rw c.as_slice.ensures.value at c.place_of.ensures) in
    may_hold _ hs h small known (omega (arith, found.0, found.1, self.few))

pub returns-in-Some-clause-held : goal.returns-in-Some-clause-held
returns-in-Some-clause-held g c =
    let self = c.args.self.now in
    let hs = self.row.items in
    let h : Held = record { variable = c.args.v; value = c.args.value } in
    let same : to_z w64 (of_z w64 c.args.value) ≡ c.args.value = to_z-of_z w64 _ c.ranges.value in
    let found = place_some c.args.v hs c.in-Some.at (sym c.in-Some.is ∙ rw c.as_slice.ensures.value at c.place_of.ensures) in
    rw (c.deref_mut.ensures.value, same) (items-with_items self.row (set hs c.in-Some.at h) (length-set hs c.in-Some.at h) ∙ put_again hs h c.in-Some.at found.0 found.1)

pub returns-in-None-2-clause-answers : goal.returns-in-None-2-clause-answers
returns-in-None-2-clause-answers g c =
    let self = c.args.self.now in
    let hs = self.row.items in
    let h : Held = record { variable = c.args.v; value = c.args.value } in
    let value : SFits w64 c.args.value = c.ranges.value in
    let small : Small c.args.value = simp to_z-of_z at (leb-true _ _ (sym c.is_small.ensures ∙ c.if-not-is_small.false)) in
    let known : c.args.v < (g.P.Programme.table self.below.now).variables = rw c.variable_count.ensures at c.if-v-variable_count.false in
    let free = place_none c.args.v hs (sym c.in-None.is ∙ rw c.as_slice.ensures.value at c.place_of.ensures) in
    may_hold _ hs h small known (omega (arith, free, c.push.ensures.len, c.self-in-None-2-1.given.0))

pub returns-in-None-2-clause-held : goal.returns-in-None-2-clause-held
returns-in-None-2-clause-held g c =
    let hs = c.args.self.now.row.items in
    let same : to_z w64 (of_z w64 c.args.value) ≡ c.args.value = to_z-of_z w64 _ c.ranges.value in
    let free = place_none c.args.v hs (sym c.in-None.is ∙ rw c.as_slice.ensures.value at c.place_of.ensures) in
    c.push.ensures.items ∙ ap (λ z. hs ++ (record { variable = c.args.v; value = z } ∷ [])) same ∙ put_last hs _ free
