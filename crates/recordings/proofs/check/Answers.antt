use Rattle.std.proofs.Common.{Ok, rules}
use Rattle.recordings.proofs.Recorded.{exact}
use Rattle.recordings.proofs.check.Goals as goal

pub returns-in_err-parse-clause-exact : goal.returns-in_err-parse-clause-exact
returns-in_err-parse-clause-exact c = exact _ _ (search rules)

pub returns-clause-exact : goal.returns-clause-exact
returns-clause-exact c = exact _ (Ok c.summary.result) (search rules)
