use Rattle.std.specs.Prelude.{ℕ, cond, List, length, Ok, Err, Result, nat_lt}
use Rattle.lines.specs.declared.Header.{Header}
use Rattle.lines.specs.declared.CallRecord.{CallRecord}
use Rattle.lines.specs.Headers.{in_range}
use Rattle.recordings.specs.declared.RunFault.{RunFault}
use Rattle.recordings.specs.declared.RunFault.TheVariants.{TooLong, TableShort}
use Rattle.recordings.specs.Whole.{with_line}
use Rattle.writing.specs.Text.{text_of, text_first}
use Rattle.writing.specs.Refusals.{calls_in_range}

-- A length of at most 60,000 bytes.
abbrev pub short_length : ℕ → Result ℕ RunFault
short_length n = cond (nat_lt 60000 n) (Err TooLong) (Ok n)

-- A text of at most so many.
abbrev pub short_text : List ℕ → Result (List ℕ) RunFault
short_text text = cond (nat_lt 60000 (length text)) (Err TooLong) (Ok text)

-- The text of a recording, after every check: the header, each call in order, and the length.
abbrev pub checked_text : Header → List CallRecord → Result (List ℕ) RunFault
checked_text h cs =
    with_line (in_range h) (λ _.
    with_line (calls_in_range 2 h.pages cs) (λ _.
    short_text (text_of h cs)))

-- The same, under a name that stays shut.
unfoldable pub written_text : Header → List CallRecord → Result (List ℕ) RunFault
written_text h cs = checked_text h cs

-- What a writing answers into a buffer that has room for so many bytes.
abbrev pub text_fitted : ℕ → Result (List ℕ) RunFault → Result ℕ RunFault
text_fitted room (Ok text) = cond (nat_lt room (length text)) (Err TableShort) (Ok (length text))
text_fitted room (Err e) = Err e

-- What a writing of a header and calls answers: the length of the text, or its first refusal.
abbrev pub write_recording : Header → List CallRecord → ℕ → Result ℕ RunFault
write_recording h cs room = text_fitted room (written_text h cs)

-- A buffer that a text is written into: the text, and then what it held there; a refusal leaves it.
abbrev pub text_filled : List ℕ → Result (List ℕ) RunFault → List ℕ
text_filled buffer (Ok text) = cond (nat_lt (length buffer) (length text)) buffer (text_first text buffer)
text_filled buffer (Err e) = buffer

-- What the buffer holds after a writing of a header and calls.
abbrev pub buffer_after : Header → List CallRecord → List ℕ → List ℕ
buffer_after h cs buffer = text_filled buffer (written_text h cs)
