use Rattle.std.proofs.Common.{◌∙◌, subst}
use Rattle.pager.specs.Frames.{seats_of, In, Absent}
use Rattle.pager.specs.Shows.{frames_of}
use Rattle.pager.proofs.Seating.{apart_in}
use Rattle.pager.proofs.Placing.{where_absent, where_top, where_bottom, never_nowhere}
use Rattle.pager.proofs.state.Pager.where_is.Goals as goal

pub returns-in_err-i : goal.returns-in_err-i
returns-in_err-i g c s w sh = c.from_residual.ensures ∙ where_absent g.R.TopRule.told c.args.self.now.works.table.parts (frames_of c.args.self.now.works) w.pager.order sh.frames.order_is c.args.page (subst (λ t. Absent t c.args.page) c.deref.ensures.value c.in_err-i.ensures)

pub returns-in-Some : goal.returns-in-Some
returns-in-Some g c s w sh =
    let p = c.args.self.now.works in
    let f = sh.frames.order_is in
    where_top g.R.TopRule.told p.table.parts (frames_of p) w.pager.order f c.args.page (apart_in p.table.parts (frames_of p) p.table.seated) c.in_ok-i.i (subst (λ t. In t c.args.page c.in_ok-i.i) c.deref.ensures.value c.in_ok-i.ensures)
    c.in-Some.slot (c.in-Some.ensures (seats_of (frames_of p)) f.seats f.stands.arranged)

pub returns-in_err-depth : goal.returns-in_err-depth
returns-in_err-depth g c s w sh =
    let p = c.args.self.now.works in
    let f = sh.frames.order_is in
    let here = subst (λ t. In t c.args.page c.in_ok-i.i) c.deref.ensures.value c.in_ok-i.ensures in
    c.from_residual-in_err-depth.ensures ∙ never_nowhere g.R.TopRule.told p.table.parts (frames_of p) w.pager.order f c.args.page (apart_in p.table.parts (frames_of p) p.table.seated) c.in_ok-i.i here
    (c.in_default.ensures (seats_of (frames_of p)) f.seats f.stands.arranged) _ ((rw c.deref-2.ensures.value at c.depth_of.ensures.depth) f.seats f.stands.arranged here.within) c.in_err-depth.was

pub returns : goal.returns
returns g c s w sh =
    let p = c.args.self.now.works in
    let f = sh.frames.order_is in
    let here = subst (λ t. In t c.args.page c.in_ok-i.i) c.deref.ensures.value c.in_ok-i.ensures in
    where_bottom g.R.TopRule.told p.table.parts (frames_of p) w.pager.order f c.args.page (apart_in p.table.parts (frames_of p) p.table.seated) c.in_ok-i.i here
    (c.in_default.ensures (seats_of (frames_of p)) f.seats f.stands.arranged) _ ((rw c.deref-2.ensures.value at c.depth_of.ensures.depth) f.seats f.stands.arranged here.within) c.in_ok-depth.depth c.in_ok-depth.was
