use Rattle.std.specs.Prelude.{ℕ, cond, List, length, Ok, Err, Result, nat_lt}
use Rattle.std.specs.Result.{result_map_both}
use Rattle.lines.specs.declared.Header.{Header}
use Rattle.lines.specs.declared.CallRecord.{CallRecord}
use Rattle.lines.specs.declared.LineFault.{LineFault}
use Rattle.recordings.specs.declared.RunFault.{RunFault}
use Rattle.recordings.specs.declared.RunFault.TheVariants.{Line, TooLong, TableShort}
use Rattle.recordings.specs.declared.Summary.{Summary}
use Rattle.recordings.specs.Passes.{first_header, later_lines, calls_in, put_first}

-- What a recording says: its header, and its calls in order.
pub record Recording : Type 0 where
  pub header : Header
  pub calls : List CallRecord

-- What is done with what a line tells; a line's fault travels whole in the recording's.
abbrev pub with_line : {S T : Type 0} → Result S LineFault → (S → Result T RunFault) → Result T RunFault
with_line (Ok x) next = next x
with_line (Err e) next = Err (Line e)

-- The recording that some bytes are, of which there are at most 60,000.
abbrev pub recording_in : List ℕ → Result Recording RunFault
recording_in bs =
    cond (nat_lt 60000 (length bs)) (Err TooLong)
    (with_line (first_header bs) (λ h.
    with_line (calls_in h.pages (later_lines bs)) (λ cs.
    Ok (record { header = h; calls = cs }))))

-- The same, under a name that stays shut.
unfoldable pub calls_of : List ℕ → Result Recording RunFault
calls_of bs = recording_in bs

-- The header of a recording, and how many calls it has.
abbrev pub summary_of : Recording → Summary
summary_of r = record { header = r.header; calls = length r.calls }

-- What a check of some bytes answers.
abbrev pub check_recording : List ℕ → Result Summary RunFault
check_recording bs = result_map_both summary_of (λ e. e) (calls_of bs)

-- What a reading into a table answers that has room for so many calls.
abbrev pub fitted : ℕ → Result Recording RunFault → Result Summary RunFault
fitted room (Ok r) = cond (nat_lt room (length r.calls)) (Err TableShort) (Ok (summary_of r))
fitted room (Err e) = Err e

-- What a reading of some bytes answers, after everything that a check refuses.
abbrev pub read_recording : List ℕ → ℕ → Result Summary RunFault
read_recording bs room = fitted room (calls_of bs)

-- A table that a recording is read into: the calls, and then what it held there; a refusal leaves it.
abbrev pub filled : List CallRecord → Result Recording RunFault → List CallRecord
filled table (Ok r) = cond (nat_lt (length table) (length r.calls)) table (put_first r.calls table)
filled table (Err e) = table

-- What the table holds after a reading of some bytes.
abbrev pub table_after : List ℕ → List CallRecord → List CallRecord
table_after bs table = filled table (calls_of bs)
