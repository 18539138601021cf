use Rattle.std.proofs.Common.{Ok, Err, arith}
use Rattle.std.proofs.lemmas.Bool.Decides.{nat_tests}
use Rattle.std.proofs.lemmas.List.{take_rest, places}
use Rattle.fields.specs.Numbers.{read_number}
use Rattle.fields.proofs.Exact.{exact}
use Rattle.fields.proofs.Field.number.Goals as goal

pub returns-then-from-self-clause-exact : goal.returns-then-from-self-clause-exact
unfolding read_number
returns-then-from-self-clause-exact c = exact c.args.self.now.line c.args.self.now.column _ (Err c.fault.result) (grind (arith, nat_tests))

pub returns-then-spaces-gt0-clause-exact : goal.returns-then-spaces-gt0-clause-exact
unfolding read_number
returns-then-spaces-gt0-clause-exact c = exact c.args.self.now.line c.args.self.now.column _ (Err c.fault-then-spaces-gt0.result) (grind (arith, nat_tests, take_rest))

pub returns-then-digits-eq48-clause-exact : goal.returns-then-digits-eq48-clause-exact
unfolding read_number
returns-then-digits-eq48-clause-exact c = exact c.args.self.now.line c.args.self.now.column _ (Err c.fault-then-digits-eq48.result) (grind (arith, nat_tests, take_rest, places))

pub returns-in-Some-clause-exact : goal.returns-in-Some-clause-exact
unfolding read_number
returns-in-Some-clause-exact c = exact c.args.self.now.line c.args.self.now.column _ (Ok c.in-Some.value) (grind (arith, nat_tests, take_rest, places))

pub returns-in-None-clause-exact : goal.returns-in-None-clause-exact
unfolding read_number
returns-in-None-clause-exact c = exact c.args.self.now.line c.args.self.now.column _ (Err c.fault-in-None.result) (grind (arith, nat_tests, take_rest, places))
