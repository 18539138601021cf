use Rattle.std.proofs.Common.{refl, arith}
use Rattle.std.proofs.lemmas.Bool.Decides.{nat_tests}
use Rattle.std.proofs.lemmas.List.{take_rest}
use Rattle.recordings.proofs.InTurn.{fewer, told_none, turn_line, turn_open}
use Rattle.recordings.proofs.passes.LinesIterator.next.Goals as goal

pub returns-then-is_empty-clause-steps : goal.returns-then-is_empty-clause-steps
returns-then-is_empty-clause-steps c = let n = told_none c.args.self.now.pages c.args.self.now.line c.args.self.now.rest.now (grind (arith, nat_tests)) in (n, n)

pub returns-in_default-clause-steps : goal.returns-in_default-clause-steps
returns-in_default-clause-steps c = turn_open _ _ _ _ c.in_default.ensures (grind (arith, nat_tests)) (grind (arith, take_rest))

pub returns-in_default-clause-goes : goal.returns-in_default-clause-goes
returns-in_default-clause-goes c =
    record { on = λ _. (tt, tt, fewer _ _ _ (turn_open _ _ _ _ c.in_default.ensures (grind (arith, nat_tests)) (grind (arith, take_rest)))); keeps = tt; rests = λ _. tt }

pub returns-clause-steps : goal.returns-clause-steps
returns-clause-steps c = turn_line _ _ _ _ _ _ _ c.in-Some.ensures refl (grind (arith, take_rest)) c.call_of-told.ensures.told

pub returns-clause-goes : goal.returns-clause-goes
returns-clause-goes c =
    record { on = λ _. (tt, tt, fewer _ _ _ (turn_line _ _ _ _ _ _ _ c.in-Some.ensures refl (grind (arith, take_rest)) c.call_of-told.ensures.told)); keeps = tt; rests = λ _. tt }
