-- Bytes are accepted just if they are lines that tell a header and calls.
use Rattle.std.proofs.Common.{◌≡◌, ℕ, ◌+◌, ◌<◌, not, eqb, List, [], ◌∷◌, ◌++◌, length, take, drop, Ok, Err, Result, sym, refl, ap, ◌∙◌, subst, inl, inr, append_assoc, append-nil, arith}
use Rattle.std.specs.List.{AllByRecursion}
use Rattle.std.proofs.lemmas.Bool.{cases_Bool, cond-true, cond-false, eqb-true, eqb-false, ne_eqb}
use Rattle.std.proofs.lemmas.Bool.Decides.{nat_tests}
use Rattle.std.proofs.ByRecursion.{All-push}
use Rattle.std.proofs.lemmas.List.{nil_from_length, length-append, take_at, drop_at, drop-drop}
use Rattle.lines.specs.declared.Header.{Header}
use Rattle.lines.specs.declared.CallRecord.{CallRecord}
use Rattle.lines.specs.declared.LineFault.{LineFault}
use Rattle.lines.specs.Headers.{header_of}
use Rattle.lines.specs.Calls.{call_of}
use Rattle.recordings.specs.declared.RunFault.{RunFault}
use Rattle.recordings.specs.declared.Summary.{Summary}
use Rattle.recordings.specs.Passes.{line_length, first_header, later_lines, calls_in}
use Rattle.recordings.specs.Whole.{calls_of, check_recording}
use Rattle.recordings.specs.Recorded.{Lines, Recorded, Exact}
use Rattle.recordings.specs.InTurn.{told_from, told_in, with_call, all_calls}
use Rattle.recordings.proofs.InTurn.{NotTen, ends_first, told_skip}
use Rattle.recordings.proofs.Checked.{Checked, checked, calls_of_whole}

-- Where a call is asked for and the answer is Ok, the call was there.
call_there : {T G : Type 0} (q : Result CallRecord LineFault) (next : CallRecord → Result T LineFault) (y : T) → with_call q next ≡ Ok y → ((c : CallRecord) → q ≡ Ok c → next c ≡ Ok y → G) → G
call_there (Ok c) next y e take-it = take-it c refl e
call_there (Err x) next y e take-it = grind arith

-- What reads as calls is lines that tell them.
pub lines_from : (pages n : ℕ) (sofar : List CallRecord) (cur bs : List ℕ) (cs : List CallRecord) → AllByRecursion NotTen cur → all_calls sofar (told_from pages n cur bs) ≡ Ok cs → (ts : List CallRecord) × (cs ≡ sofar ++ ts) × Lines pages n (cur ++ bs) ts
lines_from pages n sofar cur [] cs clean e =
    let same : cs ≡ sofar = grind (arith, nat_tests) in
    let none : length cur ≡ 0 = grind (arith, nat_tests) in
    ([], same ∙ sym (append-nil sofar), append-nil cur ∙ nil_from_length cur none)
lines_from pages n sofar cur (b ∷ bs) cs clean e = elim (cases_Bool (eqb b 10)) [
  | inl t ↦ call_there (call_of n pages cur) (λ c. all_calls (sofar ++ c ∷ []) (told_from pages (n + 1) [] bs)) cs (sym (ap (all_calls sofar) (cond-true (eqb b 10) _ _ t)) ∙ e)
      (λ c is g. let p = lines_from pages (n + 1) (sofar ++ c ∷ []) [] bs cs tt g in
      (c ∷ p.0, p.1 ∙ append_assoc sofar (c ∷ []) p.0, (cur, bs, record { joined = ap (λ x. cur ++ x ∷ bs) (eqb-true b 10 t); inside = clean }, is, p.2)))
  | inr t ↦ let p = lines_from pages n sofar (cur ++ b ∷ []) bs cs (All-push NotTen cur b clean (eqb-false b 10 t)) (sym (ap (all_calls sofar) (cond-false (eqb b 10) _ _ t)) ∙ e) in
      (p.0, p.1, subst (λ x. Lines pages n x p.0) (append_assoc cur (b ∷ []) bs) p.2)
]

-- Lines that tell calls read as these.
pub from_lines : (pages n : ℕ) (sofar : List CallRecord) (bs : List ℕ) (ts : List CallRecord) → Lines pages n bs ts → all_calls sofar (told_from pages n [] bs) ≡ Ok (sofar ++ ts)
from_lines pages n sofar bs [] l = ap (λ x. all_calls sofar (told_from pages n [] x)) l ∙ ap Ok (sym (append-nil sofar))
from_lines pages n sofar bs (c ∷ ts) l =
    ap (λ x. all_calls sofar (told_from pages n [] x)) l.2.joined ∙ ap (all_calls sofar) (told_skip pages n [] l.0 (10 ∷ l.1) l.2.inside)
    ∙ ap (λ q. with_call q (λ c. all_calls (sofar ++ c ∷ []) (told_from pages (n + 1) [] l.1))) l.3
    ∙ from_lines pages (n + 1) (sofar ++ c ∷ []) l.1 ts l.4 ∙ ap Ok (append_assoc sofar (c ∷ []) ts)

-- The first line of some bytes, and what stands after it.
length_first : (line rest : List ℕ) → AllByRecursion NotTen line → line_length (line ++ 10 ∷ rest) ≡ length line
length_first [] rest clean = refl
length_first (b ∷ line) rest clean =
    let t = ne_eqb b 10 clean.0 in
    let f = length_first line rest clean.1 in
    cond-true (not (eqb b 10)) _ _ (ap not t) ∙ omega arith

header_there : (bs : List ℕ) (h : Header) → first_header bs ≡ Ok h → (line_length bs < length bs) × (header_of (take (line_length bs) bs) ≡ Ok h)
unfolding first_header
header_there bs h e = (grind (arith, nat_tests), grind (arith, nat_tests))

header_here : (bs : List ℕ) (h : Header) → line_length bs < length bs → header_of (take (line_length bs) bs) ≡ Ok h → first_header bs ≡ Ok h
unfolding first_header
header_here bs h l e = grind (arith, nat_tests)

-- An accepted recording is one.
pub recorded : (bs : List ℕ) (s : Summary) (cs : List CallRecord) → Checked bs s cs → Recorded bs s.header cs
unfolding calls_in told_in
recorded bs s cs k =
    let p = header_there bs s.header k.header in
    let q = lines_from s.header.pages 2 [] [] (later_lines bs) cs tt k.lines in
    record { line = take (line_length bs) bs; rest = later_lines bs; short = k.short; first = ends_first bs p.0; header = p.1; calls = subst (Lines s.header.pages 2 (later_lines bs)) (sym q.1) q.2 }

-- And what is a recording is read as its header and its calls.
pub recorded_reads : (bs : List ℕ) (h : Header) (cs : List CallRecord) → Recorded bs h cs → calls_of bs ≡ Ok (record { header = h; calls = cs })
unfolding calls_in told_in
recorded_reads bs h cs r =
    let n : line_length bs ≡ length r.line = ap line_length r.first.joined ∙ length_first r.line r.rest r.first.inside in
    let l = ap length r.first.joined ∙ length-append r.line (10 ∷ r.rest) in
    let t : take (line_length bs) bs ≡ r.line = ap (λ k. take k bs) n ∙ ap (take (length r.line)) r.first.joined ∙ take_at r.line (10 ∷ r.rest) (length r.line) refl in
    let d : later_lines bs ≡ r.rest = ap (λ k. drop (k + 1) bs) n ∙ ap (drop (length r.line + 1)) r.first.joined ∙ sym (drop-drop 1 (length r.line) (r.line ++ 10 ∷ r.rest)) ∙ ap (drop 1) (drop_at r.line (10 ∷ r.rest) (length r.line) refl) in
    calls_of_whole bs h cs r.short (header_here bs h (omega arith) (ap header_of t ∙ r.header)) (ap (calls_in h.pages) d ∙ from_lines h.pages 2 [] r.rest cs r.calls)

pub exact : (bs : List ℕ) (r : Result Summary RunFault) → r ≡ check_recording bs → Exact bs r
exact bs (Ok s) e = let k = checked bs s e in (k.0, recorded bs s k.0 k.1, k.1.count)
exact bs (Err x) e = λ h cs r. let g = recorded_reads bs h cs r in grind arith
