use Rattle.std.proofs.Common.{◌≡◌, ◌+◌, drop}
use Rattle.writing.specs.Refusals.{calls_in_range}
use Rattle.writing.proofs.check_calls.Given as goal

abbrev pub invariant-loop-i : goal.invariant-loop-i
invariant-loop-i l = calls_in_range (l.i + 2) l.pages (drop l.i l.calls) ≡ calls_in_range 2 l.pages l.calls
