-- One more entry of a file.
use Rattle.std.proofs.Common.{◌≡◌, ℕ, ◌+◌, ◌-◌, ◌≤◌, true, false, List, [], ◌∷◌, ◌++◌, length, take, drop, Ok, Err, Result, is_ok, sym, refl, ap, ◌∙◌, subst, arith, take-add}
use Rattle.std.proofs.ByRecursion.{All-drop}
use Rattle.std.proofs.lemmas.Bool.{both_ways}
use Rattle.std.proofs.lemmas.List.{append-nil, append_assoc}
use Rattle.std.specs.List.{AllByRecursion}
use Rattle.records.specs.Read.{Content, read}
use Rattle.records.specs.Write.{Byte, encode}
use Rattle.records.proofs.Rewriting.{begins}
use Rattle.records.proofs.Spelling.{read_own}
use Rattle.records.proofs.Tails.{encode_more}
use Rattle.market.specs.declared.book.Book.{Book}
use Rattle.market.specs.declared.entries.Entry.{Entry}
use Rattle.market.specs.declared.faults.Fault.{Fault}
use Rattle.market.specs.declared.faults.Refusal.{Refusal}
use Rattle.market.specs.Files.{kinds, kind_in, spelt, bytes_of, Grows}
use Rattle.market.specs.Lawful.{Lawful}
use Rattle.market.specs.Market.{Market, put}
use Rattle.market.specs.Reading.{entry_in, limits}
use Rattle.market.specs.Taken.{Took}
use Rattle.market.specs.Tests.{absent}
use Rattle.market.specs.View.{market_of}
use Rattle.market.proofs.Books.{book_lawful}
use Rattle.market.proofs.Spelling.{as_written}

pub bytes_of_more : (es : List Entry) (e : Entry) → bytes_of (es ++ e ∷ []) ≡ bytes_of es ++ encode (kind_in e) (spelt e)
bytes_of_more [] e = append-nil (encode (kind_in e) (spelt e))
bytes_of_more (d ∷ es) e =
    ap (λ l. encode (kind_in d) (spelt d) ++ l) (bytes_of_more es e)
    ∙ sym (append_assoc (encode (kind_in d) (spelt d)) (bytes_of es) (encode (kind_in e) (spelt e)))

pub grows_more : (m : Market) (es : List Entry) (n : Market) (e : Entry) → Grows m es n → Lawful (put n e) → Grows m (es ++ e ∷ []) (put n e)
grows_more m [] n e h ok = (subst (λ (k : Market). Lawful (put k e)) h ok, ap (λ k. put k e) h)
grows_more m (d ∷ es) n e h ok = (h.0, grows_more (put m d) es n e h.1 ok)

pub bytes_more : (file : List ℕ) (p size : ℕ) (es : List Entry) (e : Entry) → take p file ≡ bytes_of es → take size (drop p file) ≡ encode (kind_in e) (spelt e) → take (p + size) file ≡ bytes_of (es ++ e ∷ [])
bytes_more file p size es e before here = take-add p size file ∙ (λ i. before i ++ here i) ∙ sym (bytes_of_more es e)

-- the bytes of a record that a book takes, at the place p of a file
pub bytes_here : (m : Market) → length m.windows ≤ 255 → length m.baskets ≤ 255 → (bs : List ℕ) (c : Content) → AllByRecursion Byte bs → read kinds bs ≡ Ok c → limits c ≡ true → absent m (entry_in c) ≡ false → take c.size bs ≡ encode (kind_in (entry_in c)) (spelt (entry_in c))
bytes_here m fw fb bs c all is h a =
    let own = read_own kinds bs c is in
    begins kinds bs c all is ∙ ap (encode c.kind) own.parts ∙ encode_more c.kind (take own.count c.fields) (16 - own.count)
    ∙ as_written m fw fb c own.count own.counted own.long h a

-- the entries of a file up to the place p, which make m into n
abbrev pub SoFar : Market → List ℕ → ℕ → Market → Type 0
SoFar m file p n = (es : List Entry) × (take p file ≡ bytes_of es) × Grows m es n

pub so_far_more : (m : Market) (file : List ℕ) (p q : ℕ) (was after : Book) (c : Content) → AllByRecursion Byte file → SoFar m file p (market_of was) → read kinds (drop p file) ≡ Ok c → q ≡ p + c.size → limits c ≡ true → absent (market_of was) (entry_in c) ≡ false → market_of after ≡ put (market_of was) (entry_in c) → SoFar m file q (market_of after)
so_far_more m file p q was after c all so_far is place fits there grown =
    let lawful = book_lawful was in
    let es = so_far.0 in
    let e = entry_in c in
    let here = bytes_here (market_of was) (omega (arith, lawful.few_windows)) (omega (arith, lawful.few_baskets)) (drop p file) c (All-drop Byte p file all) is fits there in
    let ok : Lawful (put (market_of was) e) = subst Lawful grown (book_lawful after) in (
      es ++ e ∷ [],
      ap (λ k. take k file) place ∙ bytes_more file p c.size es e so_far.1 here,
      subst (Grows m (es ++ e ∷ [])) (sym grown) (grows_more m es (market_of was) e so_far.2 ok),
    )

-- a record that is not refused is taken
pub took_ok : (m : Market) (c : Content) (r : Result (Unit {0}) Fault) (s : Result (Unit {0}) Refusal) (x : Unit {0}) (n : Market) → Took m c r n → is_ok s ≡ is_ok r → s ≡ Ok x → (limits c ≡ true) × (absent m (entry_in c) ≡ false) × (n ≡ put m (entry_in c))
took_ok m c (Ok y) s x n took same ok = took
took_ok m c (Err f) s x n took same ok = absurd (both_ways false refl (sym same ∙ ap is_ok ok))
