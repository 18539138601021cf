use Rattle.std.specs.Prelude.{◌≡◌, ℕ, true, List, take, is_ok, IfOk, Ok, Result}
use Rattle.lines.specs.declared.Header.{Header}
use Rattle.lines.specs.declared.CallRecord.{CallRecord}
use Rattle.recordings.specs.declared.RunFault.{RunFault}
use Rattle.recordings.specs.Whole.{calls_of}
use Rattle.writing.specs.Whole.{written_text}

-- Some bytes say a header and calls: a reading of the bytes gives just these.
abbrev pub Says : List ℕ → Header → List CallRecord → Type 0
Says bs h cs = calls_of bs ≡ Ok (record { header = h; calls = cs })

-- What is written reads back: the bytes that a writing put into the buffer say its header and its calls.
abbrev pub ReadsBack : Result ℕ RunFault → List ℕ → Header → List CallRecord → Type 0
ReadsBack r buffer h cs = IfOk r (λ n. Says (take n buffer) h cs)

-- Where bytes are read and written again, the buffer begins with the same bytes.
abbrev pub SameBytes : Result ℕ RunFault → List ℕ → List ℕ → Type 0
SameBytes r buffer bs = IfOk r (λ n. take n buffer ≡ bs)

-- A recording that is read and written again is the same bytes, whatever it is.
abbrev pub SameAgain : Type 0
SameAgain = (bs : List ℕ) (h : Header) (cs : List CallRecord) → Says bs h cs → written_text h cs ≡ Ok bs

-- Only what the writer would write is read.
abbrev pub OnlyWritten : Type 0
OnlyWritten = (bs : List ℕ) → is_ok (calls_of bs) ≡ true → (h : Header) × (cs : List CallRecord) × (written_text h cs ≡ Ok bs)
