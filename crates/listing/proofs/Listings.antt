-- A listing, one record more at a time. Assumes nothing.
use Rattle.std.proofs.Common.{◌≡◌, ℕ, ◌+◌, ◌≤◌, List, [], ◌++◌, length, drop, Ok, sym, ap, ◌∙◌, subst, append_assoc, append-nil}
use Rattle.records.specs.Read.{Content, read}
use Rattle.records.specs.declared.Kind.{Kind}
use Rattle.listing.specs.Lines.{line_text}
use Rattle.listing.specs.Lists.{Listed, record_then, whole, AllBut}

module _ (kinds : List Kind) (file old : List ℕ) where
  -- the lines up to the place p, for n records: with what is listed from there on they are a listing
  pub record Begun (p n : ℕ) (text : List ℕ) : Type 0 where
    pub lines : List ℕ
    pub added : text ≡ old ++ lines
    pub then_all : (more : List ℕ) → Listed kinds file p n more → Listed kinds file 0 0 (lines ++ more)

  pub begun : Begun 0 0 old
  begun = record { lines = []; added = sym (append-nil old); then_all = λ more l. l }

  pub begun_more : (p q n : ℕ) (c : Content) (text next : List ℕ) → Begun p n text → read kinds (drop p file) ≡ Ok c → q ≡ p + c.size → next ≡ text ++ line_text p c → Begun q (n + 1) next
  begun_more p q n c text next b reads at told =
      record {
        lines = b.lines ++ line_text p c;
        added = told ∙ ap (λ t. t ++ line_text p c) b.added ∙ append_assoc old b.lines (line_text p c);
        then_all = λ more l. subst (Listed kinds file 0 0) (sym (append_assoc b.lines (line_text p c) more)) (b.then_all (line_text p c ++ more) (record_then reads (subst (λ k. Listed kinds file k (n + 1) more) at l)));
      }

  pub begun_last : (p n : ℕ) (text last : List ℕ) → Begun p n text → length file ≤ 65535 → Listed kinds file p n last → AllBut kinds file last old text
  begun_last p n text last b short l = (b.lines, b.added, whole short (b.then_all last l))
