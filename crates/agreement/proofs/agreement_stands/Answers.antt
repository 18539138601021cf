use Rattle.std.proofs.Common.{refl}
use Rattle.agreement.proofs.Joined.{agreement}
use Rattle.agreement.proofs.Bigger.{bigger_holds}
use Rattle.agreement.proofs.agreement_stands.Goals as goal

pub returns : goal.returns
returns c = record { answer = refl; law = agreement; bigger = bigger_holds }
