use Rattle.std.proofs.Common.{◌≡◌, ◌+◌, ◌≤◌, length, take}
use Rattle.writing.specs.Text.{calls_text}
use Rattle.writing.proofs.text_length.Given as goal

abbrev pub invariant-loop-call : goal.invariant-loop-call
invariant-loop-call l = (l.length ≤ 60000) × (l.length ≡ 21 + length (calls_text (take l.call-index l.calls)))
