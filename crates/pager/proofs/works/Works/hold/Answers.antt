use Rattle.std.proofs.Common.{subst}
use Rattle.pager.specs.Frames.{In, Absent}
use Rattle.pager.specs.Shows.{frames_of}
use Rattle.pager.proofs.Holders.{in_holds, absent_holds}
use Rattle.pager.proofs.works.Works.hold.Goals as goal

pub returns-in-Some-clause-found : goal.returns-in-Some-clause-found
returns-in-Some-clause-found g c =
    let p = c.args.self.now in
    let was = subst (λ t. In t c.args.page c.in-Some.frame) c.deref.ensures.value c.in-Some.ensures in
    λ s w sh. in_holds g.R.TopRule.told p.table.parts (frames_of p) w.pager.order sh.frames.order_is c.args.page c.in-Some.frame was

pub returns-in-None-clause-found : goal.returns-in-None-clause-found
returns-in-None-clause-found g c =
    let p = c.args.self.now in
    let none = subst (λ t. Absent t c.args.page) c.deref.ensures.value c.in-None.ensures in
    λ s w sh. absent_holds g.R.TopRule.told p.table.parts (frames_of p) w.pager.order sh.frames.order_is c.args.page none
