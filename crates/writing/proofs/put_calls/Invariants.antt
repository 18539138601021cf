use Rattle.std.proofs.Common.{◌≡◌, length, take}
use Rattle.writing.specs.Text.{calls_text, text_first}
use Rattle.writing.proofs.put_calls.Given as goal

abbrev pub invariant-loop-call : goal.invariant-loop-call
invariant-loop-call l = (l.at ≡ length (calls_text (take l.call-index l.calls))) × (l.bytes ≡ text_first (calls_text (take l.call-index l.calls)) l.initial.bytes)
