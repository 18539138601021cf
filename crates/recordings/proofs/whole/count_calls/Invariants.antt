use Rattle.std.proofs.Common.{◌≡◌, ◌+◌, ◌^◌, ◌<◌, List, [], length}
use Rattle.lines.specs.declared.CallRecord.{CallRecord}
use Rattle.recordings.specs.InTurn.{all_calls}
use Rattle.recordings.specs.Left.{lines_left}
use Rattle.recordings.proofs.whole.count_calls.Given as goal

-- The calls so far stand in no variable: there is a list of them, as long as the count.
abbrev pub invariant-loop-call : goal.invariant-loop-call
invariant-loop-call l =
    (goal.iterator-loop-call).can_next l.call-iterator
    × (goal.iterator-loop-call).is_finite l.call-iterator
    × (l.found + length (lines_left l.call-iterator) < 2 ^ 63)
    × ((sofar : List CallRecord) × (length sofar ≡ l.found) × (all_calls sofar (lines_left l.call-iterator) ≡ all_calls [] (lines_left l.initial.call-iterator)))
