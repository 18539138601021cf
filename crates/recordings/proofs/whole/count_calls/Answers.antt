use Rattle.std.proofs.Common.{[], refl, arith}
use Rattle.recordings.proofs.InTurn.{lines_few}
use Rattle.recordings.proofs.whole.count_calls.Goals as goal

pub loop-call-init : goal.loop-call-init
loop-call-init c = (tt, tt, omega (arith, lines_few c.into_iter-call-iterator.result), ([], refl, refl))
