use Rattle.std.specs.Prelude.{ℕ, ◌+◌, cond, ◌||◌, List, [], ◌∷◌, Ok, Err, Result, ◌==◌, nat_lt}
use Rattle.lines.specs.declared.CallRecord.{CallRecord}
use Rattle.lines.specs.declared.LineFault.{LineFault}
use Rattle.lines.specs.declared.LineFault.TheVariants.{Shape}
use Rattle.lines.specs.declared.LineProblem.TheVariants.{UnknownLetter, NoSuchPage}

-- A call that is to stand on line n, where the header has so many pages: R or W with one of them,
-- or S with page 0. Anything else is told at the place where a reading would tell it.
abbrev pub call_in_range : ℕ → ℕ → CallRecord → Result (Unit {0}) LineFault
call_in_range n pages c =
    cond (c.letter == 83) (cond (c.page == 0) (Ok tt) (Err (Shape NoSuchPage n 6)))
    (cond (c.letter == 82 || c.letter == 87) (cond (nat_lt c.page pages) (Ok tt) (Err (Shape NoSuchPage n 6)))
    (Err (Shape UnknownLetter n 1)))

-- What is done after a check that found nothing.
abbrev pub and_then : {T : Type 0} → Result (Unit {0}) LineFault → Result T LineFault → Result T LineFault
and_then (Ok x) next = next
and_then (Err e) next = Err e

-- The calls that are to stand on line n and the lines after it, each checked in its turn.
abbrev pub calls_in_range : ℕ → ℕ → List CallRecord → Result (Unit {0}) LineFault
calls_in_range n pages [] = Ok tt
calls_in_range n pages (c ∷ cs) = and_then (call_in_range n pages c) (calls_in_range (n + 1) pages cs)
