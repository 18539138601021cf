-- Lines that are read are the lines that are written.
use Rattle.std.proofs.Common.{◌≡◌, ℕ, ◌+◌, List, [], ◌∷◌, ◌++◌, length, get_or, drop, Ok, sym, refl, ap, ◌∙◌, append_assoc, arith}
use Rattle.std.specs.List.{between}
use Rattle.std.proofs.lemmas.List.Edits.{length-between}
use Rattle.std.proofs.lemmas.List.{length-drop, take_all, take-append-drop, drop_all, drop-drop, drop_more}
use Rattle.std.proofs.lemmas.Bool.Decides.{nat_tests}
use Rattle.fields.specs.Justified.{justified}
use Rattle.fields.proofs.Exact.{write_back}
use Rattle.model.specs.declared.UseKind.{UseKind}
use Rattle.lines.specs.declared.Header.{Header}
use Rattle.lines.specs.declared.CallRecord.{CallRecord}
use Rattle.lines.specs.Kinds.{letter_of}
use Rattle.lines.specs.Parts.{Columns, Parts, header_parts, use_parts, settle_parts}
use Rattle.lines.specs.Cuts.{columns, cut_line}
use Rattle.lines.specs.Headers.{number_in, in_range, header_from, header_of}
use Rattle.lines.specs.Calls.{call_from, call_of}
use Rattle.lines.proofs.Fits.{number_there, parts_there, use_letter}
use Rattle.recordings.specs.Recorded.{Lines, Recorded}
use Rattle.writing.specs.Text.{header_line, call_line, calls_text, text_of}
use Rattle.writing.proofs.Backs.{use_line, settle_line}

-- What a line is that is cut as a header.
pub record HeaderCut (bs : List ℕ) (a b : Columns) (r : ℕ) (s : Columns) : Type 0 where
  pub first : get_or bs 0 0 ≡ 72
  pub size : length bs ≡ 20
  pub pages : a ≡ columns 1 2 1 6 bs
  pub top : b ≡ columns 1 7 6 9 bs
  pub rule : r ≡ get_or bs 9 0
  pub seed : s ≡ columns 1 11 10 20 bs

header_cut : (bs : List ℕ) (a b : Columns) (r : ℕ) (s : Columns) → cut_line 1 bs ≡ Ok (header_parts a b r s) → HeaderCut bs a b r s
header_cut bs a b r s e = record { first = grind (arith, nat_tests); size = grind (arith, nat_tests); pages = grind (arith, nat_tests); top = grind (arith, nat_tests); rule = grind (arith, nat_tests); seed = grind (arith, nat_tests) }

-- A number that is read from w columns is what the columns hold.
field_is : (f : Columns) (w v : ℕ) → length f.bytes ≡ w → number_in f ≡ Ok v → f.bytes ≡ justified w v
field_is f w v l e = (write_back f.line f.column f.bytes v e).1 ∙ ap (λ n. justified n v) l

-- A line of 20 bytes is its four parts after its first byte.
in_parts : (bs : List ℕ) → length bs ≡ 20 → bs ≡ get_or bs 0 0 ∷ (between 1 6 bs ++ (between 6 9 bs ++ (get_or bs 9 0 ∷ between 10 20 bs)))
in_parts bs l =
    let last : drop 10 bs ≡ between 10 20 bs = sym (take_all 10 (drop 10 bs) (omega (arith, length-drop 10 bs))) in
    let nine : drop 9 bs ≡ get_or bs 9 0 ∷ between 10 20 bs = drop_more bs 9 0 (omega arith) ∙ ap (λ z. get_or bs 9 0 ∷ z) last in
    let six : drop 6 bs ≡ between 6 9 bs ++ (get_or bs 9 0 ∷ between 10 20 bs) = sym (take-append-drop 3 (drop 6 bs)) ∙ ap (λ z. between 6 9 bs ++ z) (drop-drop 3 6 bs ∙ nine) in
    let one : drop 1 bs ≡ between 1 6 bs ++ (between 6 9 bs ++ (get_or bs 9 0 ∷ between 10 20 bs)) = sym (take-append-drop 5 (drop 1 bs)) ∙ ap (λ z. between 1 6 bs ++ z) (drop-drop 5 1 bs ∙ six) in
    drop_more bs 0 0 (omega arith) ∙ ap (λ z. get_or bs 0 0 ∷ z) one

abbrev four : ℕ → List ℕ → List ℕ → ℕ → List ℕ → List ℕ
four x p t r s = x ∷ (p ++ (t ++ (r ∷ s)))

by_numbers : (bs : List ℕ) (a b s : Columns) (r p t k : ℕ) (h : Header) → HeaderCut bs a b r s → number_in a ≡ Ok p → number_in b ≡ Ok t → number_in s ≡ Ok k → in_range (record { pages = p; top = t; rule = r; seed = k }) ≡ Ok h → bs ≡ header_line h
by_numbers bs a b s r p t k h c ea eb es e =
    let same : record { pages = p; top = t; rule = r; seed = k } ≡ h = grind (arith, nat_tests) in
    let size = c.size in
    let pa : between 1 6 bs ≡ justified 5 p = ap (λ (f : Columns). f.bytes) (sym c.pages) ∙ field_is a 5 p (ap (λ (f : Columns). length f.bytes) c.pages ∙ length-between bs 1 6 (omega arith)) ea in
    let pb : between 6 9 bs ≡ justified 3 t = ap (λ (f : Columns). f.bytes) (sym c.top) ∙ field_is b 3 t (ap (λ (f : Columns). length f.bytes) c.top ∙ length-between bs 6 9 (omega arith)) eb in
    let ps : between 10 20 bs ≡ justified 10 k = ap (λ (f : Columns). f.bytes) (sym c.seed) ∙ field_is s 10 k (ap (λ (f : Columns). length f.bytes) c.seed ∙ length-between bs 10 20 (omega arith)) es in
    in_parts bs size
    ∙ ap (λ x. four x (between 1 6 bs) (between 6 9 bs) (get_or bs 9 0) (between 10 20 bs)) c.first
    ∙ ap (λ x. four 72 x (between 6 9 bs) (get_or bs 9 0) (between 10 20 bs)) pa
    ∙ ap (λ x. four 72 (justified 5 p) x (get_or bs 9 0) (between 10 20 bs)) pb
    ∙ ap (λ x. four 72 (justified 5 p) (justified 3 t) x (between 10 20 bs)) (sym c.rule)
    ∙ ap (λ x. four 72 (justified 5 p) (justified 3 t) r x) ps
    ∙ ap header_line same

by_parts : (bs : List ℕ) (q : Parts) (h : Header) → cut_line 1 bs ≡ Ok q → header_from q ≡ Ok h → bs ≡ header_line h
by_parts bs (header_parts a b r s) h cuts e =
    number_there (number_in a) _ h e (λ p ea e₁. number_there (number_in b) _ h e₁ (λ t eb e₂. number_there (number_in s) _ h e₂ (λ k es e₃.
    by_numbers bs a b s r p t k h (header_cut bs a b r s cuts) ea eb es e₃)))
by_parts bs (use_parts kind page) h cuts e = grind arith
by_parts bs settle_parts h cuts e = grind arith

-- Line 1 is the header that it tells, written.
pub header_is : (bs : List ℕ) (h : Header) → header_of bs ≡ Ok h → bs ≡ header_line h
unfolding header_of
header_is bs h e = parts_there (cut_line 1 bs) header_from h e (λ q cuts g. by_parts bs q h cuts g)

-- What a line is that is cut as a use, or as a settle.
pub record UseCut (n : ℕ) (bs : List ℕ) (kind : UseKind) (page : Columns) : Type 0 where
  pub size : length bs ≡ 6
  pub first : letter_of kind ≡ get_or bs 0 0
  pub field : page ≡ columns n 2 1 6 bs

use_cut : (n : ℕ) (bs : List ℕ) (kind : UseKind) (page : Columns) → cut_line n bs ≡ Ok (use_parts kind page) → UseCut n bs kind page
use_cut n bs kind page e = record { size = grind (arith, nat_tests); first = grind (arith, nat_tests); field = grind (arith, nat_tests) }

settle_cut : (n : ℕ) (bs : List ℕ) → cut_line n bs ≡ Ok settle_parts → (get_or bs 0 0 ≡ 83) × (length bs ≡ 1)
settle_cut n bs e = (grind (arith, nat_tests), grind (arith, nat_tests))

by_page : (n pages : ℕ) (bs : List ℕ) (kind : UseKind) (v : ℕ) (page : Columns) (c : CallRecord) → UseCut n bs kind page → number_in page ≡ Ok v → c ≡ record { letter = letter_of kind; page = v } → bs ≡ call_line c
by_page n pages bs kind v page c u e same =
    let size = u.size in
    let rest : drop 1 bs ≡ between 1 6 bs = sym (take_all 5 (drop 1 bs) (omega (arith, length-drop 1 bs))) in
    let is : between 1 6 bs ≡ justified 5 v = ap (λ (f : Columns). f.bytes) (sym u.field) ∙ field_is page 5 v (ap (λ (f : Columns). length f.bytes) u.field ∙ length-between bs 1 6 (omega arith)) e in
    drop_more bs 0 0 (omega arith) ∙ ap (λ x. x ∷ drop 1 bs) (sym u.first) ∙ ap (λ z. letter_of kind ∷ z) (rest ∙ is)
    ∙ sym (use_line (record { letter = letter_of kind; page = v }) (use_letter kind)) ∙ ap call_line (sym same)

by_call_parts : (n pages : ℕ) (bs : List ℕ) (q : Parts) (c : CallRecord) → cut_line n bs ≡ Ok q → call_from n pages q ≡ Ok c → bs ≡ call_line c
by_call_parts n pages bs (header_parts a b r s) c cuts e = grind arith
by_call_parts n pages bs (use_parts kind page) c cuts e =
    number_there (number_in page) _ c e (λ v is g. by_page n pages bs kind v page c (use_cut n bs kind page cuts) is (grind (arith, nat_tests)))
by_call_parts n pages bs settle_parts c cuts e =
    let u = settle_cut n bs cuts in
    let same : c ≡ record { letter = 83; page = 0 } = cc in
    let one = u.1 in
    drop_more bs 0 0 (omega arith) ∙ ap (λ x. x ∷ drop 1 bs) u.0 ∙ ap (λ z. 83 ∷ z) (drop_all 1 bs (omega arith))
    ∙ sym (settle_line (record { letter = 83; page = 0 }) refl) ∙ ap call_line (sym same)

-- The line of a call is the call that it tells, written.
pub call_is : (n pages : ℕ) (bs : List ℕ) (c : CallRecord) → call_of n pages bs ≡ Ok c → bs ≡ call_line c
unfolding call_of
call_is n pages bs c e = parts_there (cut_line n bs) (call_from n pages) c e (λ q cuts g. by_call_parts n pages bs q c cuts g)

pub lines_are : (pages n : ℕ) (bs : List ℕ) (cs : List CallRecord) → Lines pages n bs cs → bs ≡ calls_text cs
lines_are pages n bs [] l = l
lines_are pages n bs (c ∷ cs) l =
    l.2.joined ∙ ap (λ z. z ++ 10 ∷ l.1) (call_is n pages l.0 c l.3) ∙ ap (λ z. call_line c ++ 10 ∷ z) (lines_are pages (n + 1) l.1 cs l.4)
    ∙ sym (append_assoc (call_line c) (10 ∷ []) (calls_text cs))

-- So a recording is the text of its header and its calls.
pub recorded_is : (bs : List ℕ) (h : Header) (cs : List CallRecord) → Recorded bs h cs → bs ≡ text_of h cs
recorded_is bs h cs r =
    r.first.joined ∙ ap (λ z. z ++ 10 ∷ r.rest) (header_is r.line h r.header) ∙ ap (λ z. header_line h ++ 10 ∷ z) (lines_are h.pages 2 r.rest cs r.calls)
    ∙ sym (append_assoc (header_line h) (10 ∷ []) (calls_text cs))
