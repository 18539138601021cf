use Rattle.std.proofs.Common.{arith}
use Rattle.writing.proofs.Measures.{too_long}
use Rattle.writing.proofs.text_length.Goals as goal

pub returns-then-length-gt-LONGEST : goal.returns-then-length-gt-LONGEST
returns-then-length-gt-LONGEST c = too_long c.args.calls.now c.loop-call.call-index _ (record { letter = 0; page = 0 }) c.loop-call-test.true c.loop-call.invariant.1 (omega (arith, c.call_length-length.ensures, c.if-length-gt-LONGEST.true))
