-- Writing undoes reading, and reading undoes writing.
use Rattle.std.proofs.Common.{◌≡◌, ℕ, ◌^◌, ◌<◌, ◌≤◌, true, ltb, List, length, take, drop, is_ok, Ok, Err, Result, sym, refl, ap, ◌∙◌, subst, inl, inr, arith}
use Rattle.std.specs.Result.{result_map_both}
use Rattle.std.proofs.lemmas.List.{take_at}
use Rattle.std.proofs.lemmas.Bool.{cases_lt, cond-true, cond-false, lt-ltb, le-ltb}
use Rattle.lines.specs.declared.Header.{Header}
use Rattle.lines.specs.declared.CallRecord.{CallRecord}
use Rattle.recordings.specs.declared.RunFault.{RunFault}
use Rattle.recordings.specs.declared.RunFault.TheVariants.{TableShort}
use Rattle.recordings.specs.Recorded.{Recorded}
use Rattle.recordings.specs.Whole.{Recording, calls_of, summary_of}
use Rattle.recordings.proofs.Checked.{checked}
use Rattle.recordings.proofs.Recorded.{recorded, recorded_reads}
use Rattle.recordings.proofs.Fits.{recorded_header, recorded_calls}
use Rattle.writing.specs.Text.{text_of, text_first}
use Rattle.writing.specs.Whole.{written_text, text_fitted, write_recording, text_filled, buffer_after}
use Rattle.writing.specs.Laws.{Says, ReadsBack, SameAgain, OnlyWritten}
use Rattle.writing.proofs.Written.{written, written_is}
use Rattle.writing.proofs.Backs.{text_recorded}
use Rattle.writing.proofs.Shapes.{recorded_is}

-- What is written says its header and its calls.
pub written_says : (h : Header) (cs : List CallRecord) (bs : List ℕ) → h.seed < 2 ^ 32 → written_text h cs ≡ Ok bs → Says bs h cs
written_says h cs bs small e =
    let w = written_is h cs bs e in
    ap calls_of w.1 ∙ recorded_reads (text_of h cs) h cs (text_recorded h cs small w.0)

-- Bytes that say a header and calls are a recording with these.
pub says_recorded : (bs : List ℕ) (h : Header) (cs : List CallRecord) → Says bs h cs → Recorded bs h cs
says_recorded bs h cs e =
    let k = checked bs (record { header = h; calls = length cs }) (sym (ap (result_map_both summary_of (λ (x : RunFault). x)) e)) in
    let w = k.1.whole in
    let both : record { header = h; calls = k.0 } ≡ record { header = h; calls = cs } = cc in
    let same : k.0 ≡ cs = ap (λ (r : Recording). r.calls) both in
    subst (Recorded bs h) same (recorded bs (record { header = h; calls = length cs }) k.0 k.1)

pub same_again : SameAgain
same_again bs h cs e =
    let r = says_recorded bs h cs e in
    let t = recorded_is bs h cs r in
    written h cs (record { header = recorded_header bs h cs r; calls = recorded_calls bs h cs r; short = omega (arith, r.short, ap length t) }) ∙ ap Ok (sym t)

only_at : (bs : List ℕ) (q : Result Recording RunFault) → calls_of bs ≡ q → is_ok q ≡ true → (h : Header) × (cs : List CallRecord) × (written_text h cs ≡ Ok bs)
only_at bs (Ok r) e t = (r.header, r.calls, same_again bs r.header r.calls e)
only_at bs (Err x) e t = grind arith

pub only_written : OnlyWritten
only_written bs t = only_at bs (calls_of bs) refl t

-- A text that has room is what the buffer begins with; one that has not is refused.
pub text_in : (old t : List ℕ) → length t ≤ length old → (text_fitted (length old) (Ok t) ≡ Ok (length t)) × (text_filled old (Ok t) ≡ text_first t old)
text_in old t fits = let f = le-ltb (length old) (length t) fits in (cond-false (ltb (length old) (length t)) _ _ f, cond-false (ltb (length old) (length t)) _ _ f)

back_at : (h : Header) (cs : List CallRecord) (old new : List ℕ) (q : Result (List ℕ) RunFault) (n : ℕ) → h.seed < 2 ^ 32 → written_text h cs ≡ q → Ok n ≡ text_fitted (length old) q → new ≡ text_filled old q → Says (take n new) h cs
back_at h cs old new (Ok t) n small e is holds = elim (cases_lt (length old) (length t)) [
  | inl less ↦ absurd (let f = cond-true (ltb (length old) (length t)) (Err TableShort) (Ok (length t)) (lt-ltb (length old) (length t) less) in grind arith)
  | inr fits ↦
      let p = text_in old t fits in
      let size : n ≡ length t = let same = is ∙ p.0 in cc in
      let front : take n new ≡ t = ap (take n) (holds ∙ p.1) ∙ take_at t (drop (length t) old) n (sym size) in
      ap calls_of front ∙ written_says h cs t small e
]
back_at h cs old new (Err x) n small e is holds = grind arith

-- So the bytes in the buffer say what was written.
pub reads_back : (h : Header) (cs : List CallRecord) (old new : List ℕ) (r : Result ℕ RunFault) → h.seed < 2 ^ 32 → r ≡ write_recording h cs (length old) → new ≡ buffer_after h cs old → ReadsBack r new h cs
reads_back h cs old new (Ok n) small is holds = back_at h cs old new (written_text h cs) n small refl is holds
reads_back h cs old new (Err x) small is holds = tt
