-- The fields of a line, one more at a time. Assumes nothing.
use Rattle.std.proofs.Common.{◌≡◌, ℕ, suc, ◌+◌, ◌<◌, ◌≤◌, List, ◌++◌, length, get_or, drop, ℤ, pos, sym, ap, ◌∙◌, append_assoc, append-nil, arith, drop_of_length-le}
use Rattle.std.proofs.lemmas.List.{drop_more}
use Rattle.listing.specs.Lines.{standing_text, fields_text}

-- one field more
pub fields_on : (zs : List ℤ) (bit : ℕ) (done whole : List ℕ) → bit < length zs → done ++ fields_text bit (drop bit zs) ≡ whole
    → (done ++ standing_text bit (get_or zs bit (pos 0))) ++ fields_text (bit + 1) (drop (bit + 1) zs) ≡ whole
fields_on zs bit done whole h inv =
    let z = get_or zs bit (pos 0) in
    let next : suc bit ≡ bit + 1 = omega arith in
    append_assoc done (standing_text bit z) (fields_text (bit + 1) (drop (bit + 1) zs))
    ∙ ap (λ k. done ++ (standing_text bit z ++ fields_text k (drop (bit + 1) zs))) (sym next)
    ∙ ap (λ l. done ++ fields_text bit l) (sym (drop_more zs bit (pos 0) h))
    ∙ inv

pub fields_done : (zs : List ℤ) (bit : ℕ) (done whole : List ℕ) → length zs ≤ bit → done ++ fields_text bit (drop bit zs) ≡ whole → done ≡ whole
fields_done zs bit done whole h inv = sym (ap (λ l. done ++ fields_text bit l) (drop_of_length-le zs h) ∙ append-nil done) ∙ inv
