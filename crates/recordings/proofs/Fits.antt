-- The header and the calls of a recording are in range.
use Rattle.std.proofs.Common.{ℕ, ◌+◌, List, [], ◌∷◌}
use Rattle.std.specs.List.{AllByRecursion}
use Rattle.lines.specs.declared.Header.{Header}
use Rattle.lines.specs.declared.CallRecord.{CallRecord}
use Rattle.lines.specs.Fit.{HeaderFit, CallFit}
use Rattle.lines.proofs.Fits.{header_fits, call_fits}
use Rattle.recordings.specs.declared.Summary.{Summary}
use Rattle.recordings.specs.Recorded.{Lines, Recorded}
use Rattle.recordings.proofs.Checked.{Checked}
use Rattle.recordings.proofs.Recorded.{recorded}

-- Lines tell no other calls.
pub lines_fit : (pages n : ℕ) (bs : List ℕ) (cs : List CallRecord) → Lines pages n bs cs → AllByRecursion (CallFit pages) cs
lines_fit pages n bs [] l = tt
lines_fit pages n bs (c ∷ cs) l = (call_fits n pages l.0 c l.3, lines_fit pages (n + 1) l.1 cs l.4)

pub recorded_header : (bs : List ℕ) (h : Header) (cs : List CallRecord) → Recorded bs h cs → HeaderFit h
recorded_header bs h cs r = header_fits r.line h r.header

pub recorded_calls : (bs : List ℕ) (h : Header) (cs : List CallRecord) → Recorded bs h cs → AllByRecursion (CallFit h.pages) cs
recorded_calls bs h cs r = lines_fit h.pages 2 r.rest cs r.calls

-- The same of a recording that a check accepts.
pub checked_header : (bs : List ℕ) (s : Summary) (cs : List CallRecord) → Checked bs s cs → HeaderFit s.header
checked_header bs s cs k = recorded_header bs s.header cs (recorded bs s cs k)
