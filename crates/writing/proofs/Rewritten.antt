-- What is read and written again.
use Rattle.std.proofs.Common.{◌≡◌, ℕ, ◌<◌, ◌≤◌, ltb, List, ◌++◌, length, take, drop, Ok, Err, Result, sym, refl, ap, ◌∙◌, inl, inr, arith}
use Rattle.std.proofs.lemmas.List.{take_at, drop_all, append-nil}
use Rattle.std.proofs.lemmas.Bool.{cases_lt, cond-true, cond-false, lt-ltb, le-ltb}
use Rattle.lines.specs.declared.Header.{Header}
use Rattle.lines.specs.declared.CallRecord.{CallRecord}
use Rattle.recordings.specs.declared.RunFault.{RunFault}
use Rattle.recordings.specs.declared.RunFault.TheVariants.{TableShort}
use Rattle.recordings.specs.declared.Summary.{Summary}
use Rattle.recordings.specs.Passes.{put_first}
use Rattle.recordings.specs.Whole.{Recording, calls_of, summary_of, fitted, read_recording, filled, table_after}
use Rattle.writing.specs.Text.{text_first}
use Rattle.writing.specs.Whole.{written_text, text_fitted, write_recording, text_filled, buffer_after}
use Rattle.writing.specs.Rewritten.{rewritten, rewrite_recording, if_accepted}
use Rattle.writing.specs.Laws.{Says, SameBytes}
use Rattle.writing.proofs.Laws.{same_again, text_in}

-- A buffer shorter than the bytes is refused, whatever room the table has.
pub buffer_refused : (bs : List ℕ) (r : Recording) (room space : ℕ) → calls_of bs ≡ Ok r → space < length bs → Err TableShort ≡ rewrite_recording bs room space
buffer_refused bs r room space e less =
    let w : write_recording r.header r.calls space ≡ Err TableShort = ap (text_fitted space) (same_again bs r.header r.calls e) ∙ cond-true (ltb space (length bs)) _ _ (lt-ltb space (length bs) less) in
    elim (cases_lt room (length r.calls)) [
      | inl short ↦ sym (ap (rewritten room space) e ∙ cond-true (ltb room (length r.calls)) _ _ (lt-ltb room (length r.calls) short))
      | inr fits ↦ sym (ap (rewritten room space) e ∙ cond-false (ltb room (length r.calls)) _ _ (le-ltb room (length r.calls) fits) ∙ w)
    ]

-- What is known where a reading is accepted: `cs` are the calls that stand first in the table.
pub record ReadInto (bs : List ℕ) (table : List CallRecord) (s : Summary) (cs : List CallRecord) : Type 0 where
  pub says : Says bs s.header cs
  pub count : s.calls ≡ length cs
  pub room : length cs ≤ length table
  pub holds : table_after bs table ≡ put_first cs table

read_at : (bs : List ℕ) (table : List CallRecord) (s : Summary) (q : Result Recording RunFault) → calls_of bs ≡ q → Ok s ≡ fitted (length table) q → (cs : List CallRecord) × ReadInto bs table s cs
read_at bs table s (Ok r) e is = elim (cases_lt (length table) (length r.calls)) [
  | inl less ↦ absurd (let f = cond-true (ltb (length table) (length r.calls)) (Err TableShort) (Ok (summary_of r)) (lt-ltb (length table) (length r.calls) less) in grind arith)
  | inr fits ↦
      let no = le-ltb (length table) (length r.calls) fits in
      let f = cond-false (ltb (length table) (length r.calls)) (Err TableShort) (Ok (summary_of r)) no in
      let same : s ≡ summary_of r = cc in (
        r.calls,
        record {
          says = e ∙ ap (λ h. Ok (record { header = h; calls = r.calls })) (sym (ap (λ (t : Summary). t.header) same));
          count = ap (λ (t : Summary). t.calls) same;
          room = fits;
          holds = ap (filled table) e ∙ cond-false (ltb (length table) (length r.calls)) _ _ no;
        },
      )
]
read_at bs table s (Err x) e is = grind arith

pub read_into : (bs : List ℕ) (table : List CallRecord) (s : Summary) → Ok s ≡ read_recording bs (length table) → (cs : List CallRecord) × ReadInto bs table s cs
read_into bs table s is = read_at bs table s (calls_of bs) refl is

-- The calls that are written again are those that were read.
pub read_calls : (bs : List ℕ) (table left : List CallRecord) (s : Summary) (cs : List CallRecord) (n : ℕ) → ReadInto bs table s cs → left ≡ table_after bs table → n ≡ s.calls → take n left ≡ cs
read_calls bs table left s cs n k is e = ap (take n) (is ∙ k.holds) ∙ take_at cs (drop (length cs) table) n (sym (e ∙ k.count))

-- With room for all bytes the answer is their number, and the buffer begins with them.
pub written_again : (bs buffer : List ℕ) (table cs' : List CallRecord) (s : Summary) (cs : List CallRecord) → ReadInto bs table s cs → cs' ≡ cs → length bs ≤ length buffer → (write_recording s.header cs' (length buffer) ≡ Ok (length bs)) × (buffer_after s.header cs' buffer ≡ text_first bs buffer)
written_again bs buffer table cs' s cs k e fits =
    let t : written_text s.header cs' ≡ Ok bs = ap (written_text s.header) e ∙ same_again bs s.header cs k.says in
    let p = text_in buffer bs fits in
    (ap (text_fitted (length buffer)) t ∙ p.0, ap (text_filled buffer) t ∙ p.1)

pub rewritten_again : (bs : List ℕ) (space : ℕ) (table : List CallRecord) (s : Summary) (cs : List CallRecord) → ReadInto bs table s cs → length bs ≤ space → rewrite_recording bs (length table) space ≡ Ok (length bs)
rewritten_again bs space table s cs k fits =
    ap (rewritten (length table) space) k.says ∙ cond-false (ltb (length table) (length cs)) _ _ (le-ltb (length table) (length cs) k.room)
    ∙ ap (text_fitted space) (same_again bs s.header cs k.says) ∙ cond-false (ltb space (length bs)) _ _ (le-ltb space (length bs) fits)

-- The header and the calls of the recording that some bytes are.
pub said_by : (bs : List ℕ) (r : Recording) (h : Header) (cs : List CallRecord) → calls_of bs ≡ Ok r → h ≡ r.header → cs ≡ r.calls → Says bs h cs
said_by bs r h cs is e k = is ∙ sym (ap (λ x. Ok (record { header = x; calls = cs })) e ∙ ap (λ xs. Ok (record { header = r.header; calls = xs })) k)

-- What is said by some bytes is never refused where there is room for them, and in a buffer of their length it is the bytes.
pub said_accepted : (bs : List ℕ) (h : Header) (cs : List CallRecord) (room : ℕ) (r : Result ℕ RunFault) → Says bs h cs → length bs ≤ room → r ≡ write_recording h cs room → r ≡ Ok (length bs)
said_accepted bs h cs room r says fits is =
    is ∙ ap (text_fitted room) (same_again bs h cs says) ∙ cond-false (ltb room (length bs)) _ _ (le-ltb room (length bs) fits)

pub said_whole : (bs : List ℕ) (h : Header) (cs : List CallRecord) (buffer new : List ℕ) → Says bs h cs → length buffer ≡ length bs → new ≡ buffer_after h cs buffer → new ≡ bs
said_whole bs h cs buffer new says long is =
    is ∙ ap (text_filled buffer) (same_again bs h cs says) ∙ (text_in buffer bs (omega arith)).1
    ∙ ap (λ xs. bs ++ xs) (drop_all (length bs) buffer (omega arith)) ∙ append-nil bs

by_space : (bs : List ℕ) (space n : ℕ) → Ok n ≡ text_fitted space (Ok bs) → n ≡ length bs
by_space bs space n is = elim (cases_lt space (length bs)) [
  | inl less ↦ absurd (let f = cond-true (ltb space (length bs)) (Err TableShort) (Ok (length bs)) (lt-ltb space (length bs) less) in grind arith)
  | inr fits ↦ let f = cond-false (ltb space (length bs)) (Err TableShort) (Ok (length bs)) (le-ltb space (length bs) fits) in cc
]

-- An accepted rewriting answers the number of the bytes.
by_read : (bs : List ℕ) (room space n : ℕ) (q : Result Recording RunFault) → calls_of bs ≡ q → Ok n ≡ rewritten room space q → n ≡ length bs
by_read bs room space n (Ok r) e is =
    let t = ap (text_fitted space) (same_again bs r.header r.calls e) in
    elim (cases_lt room (length r.calls)) [
      | inl less ↦ absurd (let f = cond-true (ltb room (length r.calls)) (Err TableShort) (write_recording r.header r.calls space) (lt-ltb room (length r.calls) less) in grind arith)
      | inr fits ↦ let f = cond-false (ltb room (length r.calls)) (Err TableShort) (write_recording r.header r.calls space) (le-ltb room (length r.calls) fits) in
          by_space bs space n (is ∙ f ∙ t)
    ]
by_read bs room space n (Err x) e is = grind arith

pub same_bytes : (bs old new : List ℕ) (room space : ℕ) (r : Result ℕ RunFault) → r ≡ rewrite_recording bs room space → new ≡ if_accepted r (text_first bs old) old → SameBytes r new bs
same_bytes bs old new room space (Ok n) is holds = ap (take n) holds ∙ take_at bs (drop (length bs) old) n (sym (by_read bs room space n (calls_of bs) refl is))
same_bytes bs old new room space (Err x) is holds = tt
