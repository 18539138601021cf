use Rattle.std.proofs.Common.{◌≡◌, ◌+◌, drop}
use Rattle.recordings.specs.Passes.{line_length}
use Rattle.recordings.proofs.line_end.Given as goal

abbrev pub invariant-loop-i : goal.invariant-loop-i
invariant-loop-i l = l.i + line_length (drop l.i l.bytes) ≡ line_length l.bytes
