use Rattle.std.proofs.Common.{◌≡◌, ◌++◌}
use Rattle.writing.proofs.written_again.Given as goal

-- The calls so far, and then those that are left, are those of the recording.
abbrev pub invariant-loop-call : goal.invariant-loop-call
invariant-loop-call l = l.calls.items ++ l.call-iterator ≡ l.initial.call-iterator
