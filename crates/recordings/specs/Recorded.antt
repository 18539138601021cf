use Rattle.std.specs.Prelude.{◌≡◌, ℕ, ◌+◌, ◌≤◌, List, [], ◌∷◌, ◌++◌, length, Ok, Err, Result, ◌≢◌}
use Rattle.std.specs.List.{AllByRecursion}
use Rattle.lines.specs.declared.Header.{Header}
use Rattle.lines.specs.declared.CallRecord.{CallRecord}
use Rattle.lines.specs.Headers.{header_of}
use Rattle.lines.specs.Calls.{call_of}
use Rattle.recordings.specs.declared.RunFault.{RunFault}
use Rattle.recordings.specs.declared.Summary.{Summary}

-- Some bytes are a line, ended by a byte 10 and with no other in it, and then the rest.
pub record Ends (bs line rest : List ℕ) : Type 0 where
  pub joined : bs ≡ line ++ 10 ∷ rest
  pub inside : AllByRecursion (λ b. b ≢ 10) line

-- Some bytes are lines, from line n on, that tell these calls one by one, and nothing more.
abbrev pub Lines : ℕ → ℕ → List ℕ → List CallRecord → Type 0
Lines pages n bs [] = bs ≡ []
Lines pages n bs (c ∷ cs) = (line : List ℕ) × (rest : List ℕ) × Ends bs line rest × (call_of n pages line ≡ Ok c) × Lines pages (n + 1) rest cs

-- Some bytes are a recording with this header and these calls: at most 60,000 bytes,
-- of which line 1 tells the header and the lines after it tell the calls.
pub record Recorded (bs : List ℕ) (h : Header) (cs : List CallRecord) : Type 0 where
  pub line : List ℕ
  pub rest : List ℕ
  pub short : length bs ≤ 60000
  pub first : Ends bs line rest
  pub header : header_of line ≡ Ok h
  pub calls : Lines h.pages 2 rest cs

-- Bytes are accepted just if they are a recording, and the summary is that of its header and calls.
abbrev pub Exact : List ℕ → Result Summary RunFault → Type 0
Exact bs (Ok s) = (cs : List CallRecord) × Recorded bs s.header cs × (s.calls ≡ length cs)
Exact bs (Err e) = (h : Header) (cs : List CallRecord) → Recorded bs h cs → ⊥
