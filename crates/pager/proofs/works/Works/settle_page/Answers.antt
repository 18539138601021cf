use Rattle.std.proofs.Common.{refl, subst}
use Rattle.pager.specs.Frames.{In, Absent}
use Rattle.pager.specs.Shows.{frames_of}
use Rattle.pager.proofs.Seating.{apart_in}
use Rattle.pager.proofs.Settling.{settle_absent, settle_held}
use Rattle.pager.proofs.works.Works.settle_page.Goals as goal

pub returns-in-Some-clause-shows : goal.returns-in-Some-clause-shows
returns-in-Some-clause-shows g c =
    let p = c.args.self.now in
    let here = subst (λ t. In t c.args.page c.in-Some.i) c.deref.ensures.value c.in-Some.ensures in
    λ s w sh. settle_held c.args.page w g.R.TopRule.told g.S.PageStore.meaning s p sh _ c.in-Some.i here (apart_in p.table.parts (frames_of p) p.table.seated) c.save.ensures.parts refl c.save.ensures.wrote c.save.ensures.below (c.requires.low c.args.page c.in-Some.i here)

pub returns-in_default-clause-shows : goal.returns-in_default-clause-shows
returns-in_default-clause-shows g c = λ s w sh. settle_absent c.args.page w g.R.TopRule.told g.S.PageStore.meaning s c.args.self.now sh (subst (λ t. Absent t c.args.page) c.deref.ensures.value c.in_default.ensures)
