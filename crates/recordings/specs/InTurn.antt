use Rattle.std.specs.Prelude.{ℕ, ◌+◌, cond, List, [], ◌∷◌, ◌++◌, length, Ok, Err, Result, ◌==◌}
use Rattle.lines.specs.declared.CallRecord.{CallRecord}
use Rattle.lines.specs.declared.LineFault.{LineFault}
use Rattle.lines.specs.declared.LineFault.TheVariants.{Shape}
use Rattle.lines.specs.declared.LineProblem.TheVariants.{NoEnd}
use Rattle.lines.specs.Calls.{call_of}

-- What the lines from line n on tell, each in its turn: a call or a fault. `cur` is what was met of
-- line n. A line ends at a byte 10 and is then read; one that does not end is a fault.
abbrev pub told_from : ℕ → ℕ → List ℕ → List ℕ → List (Result CallRecord LineFault)
told_from pages n cur [] = cond (length cur == 0) [] (Err (Shape NoEnd n 0) ∷ [])
told_from pages n cur (b ∷ bs) = cond (b == 10) (call_of n pages cur ∷ told_from pages (n + 1) [] bs) (told_from pages n (cur ++ b ∷ []) bs)

-- The same of whole lines, under a name that stays shut.
unfoldable pub told_in : ℕ → ℕ → List ℕ → List (Result CallRecord LineFault)
told_in pages n bs = told_from pages n [] bs

-- What is done with the call of a line.
abbrev pub with_call : {T : Type 0} → Result CallRecord LineFault → (CallRecord → Result T LineFault) → Result T LineFault
with_call (Ok c) next = next c
with_call (Err e) next = Err e

-- The calls that lines tell, behind some others; the first fault is that of them all.
abbrev pub all_calls : List CallRecord → List (Result CallRecord LineFault) → Result (List CallRecord) LineFault
all_calls sofar [] = Ok sofar
all_calls sofar (q ∷ qs) = with_call q (λ c. all_calls (sofar ++ c ∷ []) qs)
