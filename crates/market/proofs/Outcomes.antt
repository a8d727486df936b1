-- Entering a file has one outcome, and a file of entries that keep the lines is accepted.
use Rattle.std.proofs.Common.{◌≡◌, ℕ, ◌<◌, ◌≤◌, cond, eqb, List, [], ◌∷◌, ◌++◌, length, take, drop, Ok, Err, Result, sym, refl, ap, ◌∙◌, subst, ⊎_elim, arith, take-append-drop}
use lib.Seq.{take-length}
use Rattle.std.proofs.lemmas.List.{append_assoc, length-take-le, drop_all}
use Rattle.std.proofs.lemmas.Bool.{cases_order, cases_lt}
use Rattle.records.specs.declared.Fault.{Fault as RecordFault}
use Rattle.records.specs.Read.{Content, read}
use Rattle.records.specs.Write.{encode, written}
use Rattle.records.proofs.Spelling.{unique}
use Rattle.market.specs.declared.entries.Entry.{Entry}
use Rattle.market.specs.declared.faults.Fault.{Fault}
use Rattle.market.specs.declared.faults.Fault.TheVariants.{Record, OutsideLimits, Absent, TableFull, WindowOverlaps, LoopBroken}
use Rattle.market.specs.declared.faults.Refusal.{Refusal}
use Rattle.market.specs.Files.{kinds, kind_in, spelt, bytes_of, Grows, Stops, Ends, Entered, Enters, OneOutcome, Accepts, Kept, in_order, FilesInOrder}
use Rattle.market.specs.Lawful.{Lawful}
use Rattle.market.specs.Market.{Market, put}
use Rattle.market.specs.Reading.{entry_of, kind_of}
use Rattle.market.specs.Wrong.{number, Faulty}
use Rattle.market.proofs.Writing.{lawful_writable, reads_entry, not_faulty, returned}

-- where a file goes no further
abbrev Halts : List ℕ → Market → Result (Unit {0}) Refusal → Type 0
Halts rest n (Ok x) = rest ≡ []
Halts rest n (Err x) = Stops n (read kinds rest) x.fault

goes_on : (m : Market) (e : Entry) (rest more : List ℕ) (r : Result (Unit {0}) Refusal) → Lawful (put m e) → rest ≡ encode (kind_in e) (spelt e) ++ more → Halts rest m r → ⊥
goes_on m e rest more (Ok x) l is h =
    let none : ◌≡◌ {A = List ℕ} (encode (kind_in e) (spelt e) ++ more) [] = sym is ∙ h in
    let z : ◌≡◌ {A = ℕ} 0 1 = cc in
    omega arith
goes_on m e rest more (Err x) l is h =
    let stop : Stops m (Ok (written (kind_in e) (spelt e))) x.fault = subst (λ (t : Result Content RecordFault). Stops m t x.fault) (ap (read kinds) is ∙ reads_entry m e more l) h in
    not_faulty m e x.fault l stop

pub record Same (es fs : List Entry) (rest rest' : List ℕ) (n n' : Market) : Type 0 where
  pub entries : es ≡ fs
  pub left : rest ≡ rest'
  pub market : n ≡ n'

same_entries : (m : Market) (es fs : List Entry) (rest rest' : List ℕ) (n n' : Market) (r s : Result (Unit {0}) Refusal) → bytes_of es ++ rest ≡ bytes_of fs ++ rest' → Grows m es n → Grows m fs n' → Halts rest n r → Halts rest' n' s → Same es fs rest rest' n n'
same_entries m [] [] rest rest' n n' r s is a b x y = record { entries = refl; left = is; market = a ∙ sym b }
same_entries m [] (f ∷ fs) rest rest' n n' r s is a b x y =
    absurd (goes_on m f rest (bytes_of fs ++ rest') r b.0 (is ∙ append_assoc (encode (kind_in f) (spelt f)) (bytes_of fs) rest') (subst (λ (k : Market). Halts rest k r) a x))
same_entries m (e ∷ es) [] rest rest' n n' r s is a b x y =
    absurd (goes_on m e rest' (bytes_of es ++ rest) s a.0 (sym is ∙ append_assoc (encode (kind_in e) (spelt e)) (bytes_of es) rest) (subst (λ (k : Market). Halts rest' k s) b y))
same_entries m (e ∷ es) (f ∷ fs) rest rest' n n' r s is a b x y =
    let at = encode (kind_in e) (spelt e) in
    let bt = encode (kind_in f) (spelt f) in
    let u = unique kinds (kind_in e) (kind_in f) (spelt e) (spelt f) (bytes_of es ++ rest) (bytes_of fs ++ rest') (lawful_writable m e a.0) (lawful_writable m f b.0) (sym (append_assoc at (bytes_of es) rest) ∙ is ∙ append_assoc bt (bytes_of fs) rest') in
    let same : e ≡ f = sym (returned m e a.0) ∙ (λ i. entry_of (kind_of (u.0 i)) (u.1 i)) ∙ returned m f b.0 in
    let more = same_entries (put m e) es fs rest rest' n n' r s u.2 a.1 (subst (λ (d : Entry). Grows (put m d) fs n') (sym same) b.1) x y in
    record { entries = λ i. same i ∷ more.entries i; left = more.left; market = more.market }

-- one fault
abbrev fault_of : ℕ → Fault
fault_of n = cond (eqb n 6) OutsideLimits (cond (eqb n 7) Absent (cond (eqb n 8) TableFull (cond (eqb n 9) WindowOverlaps LoopBroken)))

fault_back : (m : Market) (c : Content) (f : Fault) → Faulty m c f → fault_of (number f) ≡ f
fault_back m c (Record f) x = absurd x.0
fault_back m c OutsideLimits x = refl
fault_back m c Absent x = refl
fault_back m c TableFull x = refl
fault_back m c WindowOverlaps x = refl
fault_back m c LoopBroken x = refl

faulty_one : (m : Market) (c : Content) (f g : Fault) → Faulty m c f → Faulty m c g → f ≡ g
faulty_one m c f g x y =
    ⊎_elim (λ h. sym (fault_back m c f x) ∙ ap fault_of h ∙ fault_back m c g y)
    (λ h. absurd (⊎_elim (λ l. y.1 f l x.0) (λ l. x.1 g l y.0) h))
    (cases_order (number f) (number g))

stops_one : (m : Market) (t : Result Content RecordFault) (f g : Fault) → Stops m t f → Stops m t g → f ≡ g
stops_one m (Ok c) f g x y = faulty_one m c f g x y
stops_one m (Err d) f g x y = x ∙ sym y

ends_one : (file : List ℕ) (q : ℕ) (m : Market) (r s : Result (Unit {0}) Refusal) → Ends file q m r → Ends file q m s → r ≡ s
ends_one file q m (Ok x) (Ok y) a b = refl
ends_one file q m (Ok x) (Err y) a b = absurd (omega (arith, b.1))
ends_one file q m (Err x) (Ok y) a b = absurd (omega (arith, a.1))
ends_one file q m (Err x) (Err y) a b =
    let f = stops_one m (read kinds (drop q file)) x.fault y.fault a.2 b.2 in
    λ i. Err (record { fault = f i; place = (a.0 ∙ sym b.0) i })

within : (file : List ℕ) (q : ℕ) (n : Market) (r : Result (Unit {0}) Refusal) → Ends file q n r → q ≤ length file
within file q n (Ok x) h = omega arith
within file q n (Err x) h = omega (arith, h.1)

halts : (file : List ℕ) (q : ℕ) (n : Market) (r : Result (Unit {0}) Refusal) → Ends file q n r → Halts (drop q file) n r
halts file q n (Ok x) h = drop_all q file (omega arith)
halts file q n (Err x) h = h.2

entered_one : (m : Market) (file : List ℕ) (r s : Result (Unit {0}) Refusal) (a b : Market) → Entered m file r a → Entered m file s b → (r ≡ s) × (a ≡ b)
entered_one m file r s a b x y =
    let p = x.place in
    let q = y.place in
    let front : bytes_of x.entries ++ drop p file ≡ bytes_of y.entries ++ drop q file =
    ap (λ l. l ++ drop p file) (sym x.bytes) ∙ take-append-drop p file ∙ sym (take-append-drop q file) ∙ ap (λ l. l ++ drop q file) y.bytes in
    let same = same_entries m x.entries y.entries (drop p file) (drop q file) a b r s front x.grows y.grows (halts file p a r x.ends) (halts file q b s y.ends) in
    let place : p ≡ q = sym (length-take-le p file (within file p a r x.ends)) ∙ ap length (x.bytes ∙ ap bytes_of same.entries ∙ sym y.bytes) ∙ length-take-le q file (within file q b s y.ends) in
    (ends_one file p a r s x.ends (subst (λ (k : Market). Ends file p k s) (sym same.market) (subst (λ (k : ℕ). Ends file k b s) (sym place) y.ends)), same.market)

pub one_outcome : OneOutcome
one_outcome m file r s a b x y =
    ⊎_elim
    (λ (l : 65535 < length file). ((x.0 l).0 ∙ sym (y.0 l).0, (x.0 l).1 ∙ sym (y.0 l).1))
    (λ (l : length file ≤ 65535). entered_one m file r s a b (x.1 l) (y.1 l))
    (cases_lt 65535 (length file))

-- a file of entries that keep the lines
pub accepts : (m : Market) (file : List ℕ) (r : Result (Unit {0}) Refusal) (a : Market) → Enters m file r a → Accepts m file r a
accepts m file r a x es n few is grows =
    entered_one m file r (Ok tt) a n (x.1 few) (record { entries = es; place = length file; bytes = take-length file ∙ is; grows = grows; ends = refl })

-- what is kept of a file
kept_of : (m : Market) (file : List ℕ) (r : Result (Unit {0}) Refusal) (a : Market) (q : ℕ) (es : List Entry) → take q file ≡ bytes_of es → Ends file q a r → Kept file r es
kept_of m file (Ok x) a q es is ends = sym (take-length file) ∙ ap (λ k. take k file) (sym ends) ∙ is
kept_of m file (Err x) a q es is ends = ap (λ k. take k file) ends.0 ∙ is

kept_long : (file : List ℕ) (r : Result (Unit {0}) Refusal) (x : Refusal) → r ≡ Err x → x.place ≡ 0 → Kept file r []
kept_long file r x is zero-place = subst (λ (s : Result (Unit {0}) Refusal). Kept file s []) (sym is) (ap (λ k. take k file) zero-place)

kept : (m : Market) (file : List ℕ) (r : Result (Unit {0}) Refusal) (a : Market) → Enters m file r a → (es : List Entry) × Kept file r es × Grows m es a
kept m file r a x =
    ⊎_elim
    (λ (l : 65535 < length file). ([], kept_long file r _ (x.0 l).0 refl, (x.0 l).1))
    (λ (l : length file ≤ 65535). let e = x.1 l in (e.entries, kept_of m file r a e.place e.entries e.bytes e.ends, e.grows))
    (cases_lt 65535 (length file))

grows_on : (m : Market) (es fs : List Entry) (k n : Market) → Grows m es k → Grows k fs n → Grows m (es ++ fs) n
grows_on m [] fs k n a b = subst (λ (j : Market). Grows j fs n) a b
grows_on m (e ∷ es) fs k n a b = (a.0, grows_on (put m e) es fs k n a.1 b)

pub files_in_order : FilesInOrder
files_in_order m [] n h = ([], tt, h)
files_in_order m (v ∷ vs) n h =
    let here = kept m v.file v.answer h.0 h.1 in
    let rest = files_in_order h.0 vs n h.2 in
    (here.0 ∷ rest.0, (here.1, rest.1), grows_on m here.0 (in_order rest.0) h.0 n here.2 rest.2)
