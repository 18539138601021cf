use Rattle.std.proofs.Common.{arith}
use Rattle.std.proofs.lemmas.Bool.Decides.{nat_tests}
use Rattle.fields.proofs.Values.{read_on_more, read_on_ge}
use Rattle.fields.proofs.value_of.Goals as goal

pub returns-in_err-tens : goal.returns-in_err-tens
returns-in_err-tens c = grind (arith, read_on_ge, read_on_more)

pub returns-in_err-value : goal.returns-in_err-value
returns-in_err-value c = grind (arith, nat_tests, read_on_ge, read_on_more)
