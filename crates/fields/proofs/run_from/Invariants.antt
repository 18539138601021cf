use Rattle.std.proofs.Common.{◌≡◌, ◌+◌, take}
use Rattle.std.specs.Int.{is_in_range}
use Rattle.std.specs.List.{suffix_len}
use Rattle.fields.proofs.run_from.Given as goal

abbrev pub invariant-loop-i : goal.invariant-loop-i
invariant-loop-i l = l.from + suffix_len (is_in_range l.low l.high) (take l.i l.bytes) ≡ l.i
