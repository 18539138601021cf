use Rattle.std.proofs.Common.{refl}
use Rattle.agreement.proofs.Worked.{marked}
use Rattle.agreement.proofs.cases.marked_cases_hold.Goals as goal

pub returns : goal.returns
returns c = record { answer = refl; cases = marked }
