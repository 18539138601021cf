use Rattle.std.specs.Prelude.{List, Result}
use Rattle.lines.specs.declared.CallRecord.{CallRecord}
use Rattle.lines.specs.declared.LineFault.{LineFault}
use Rattle.recordings.specs.declared.passes.Lines.{Lines}
use Rattle.recordings.specs.InTurn.{told_in}

-- What the lines tell that a pass has before it.
abbrev pub lines_left : Lines → List (Result CallRecord LineFault)
lines_left s = told_in s.pages s.line s.rest.now
