use Rattle.std.proofs.Common.{◌∙◌, ap}
use Rattle.std.specs.Result.{ok_prefix}
use Rattle.recordings.proofs.InTurn.{told_calls_fit}
use Rattle.recordings.proofs.whole.Recording.calls.Goals as goal

pub returns-clause-fit : goal.returns-clause-fit
returns-clause-fit c =
    let e = c.new-2.ensures ∙ ap ok_prefix c.new.ensures in
    rw (← c.self.view_is, e) (told_calls_fit _ 2 c.self.inside.rest.now)
