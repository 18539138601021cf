use Rattle.std.proofs.Common.{◌≡◌, ◌++◌, take, drop}
use Rattle.recordings.proofs.write_calls.Given as goal

-- The calls so far are the front of the table, and the rest of it is as it was.
abbrev pub invariant-loop-place : goal.invariant-loop-place
invariant-loop-place l =
    (take l.place-iterator.count l.table ++ l.place-iterator.iter ≡ l.initial.place-iterator.iter)
    × (drop l.place-iterator.count l.table ≡ drop l.place-iterator.count l.initial.table)
