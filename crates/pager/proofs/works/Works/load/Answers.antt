use mathlib.Core.Logic.{∥∥₁_elim}
use Rattle.std.proofs.Common.{◌<◌, not, length, refl, ap, ◌∙◌, arith}
use Rattle.std.specs.Coded.{le_prop}
use Rattle.model.specs.Order.{rule_of}
use Rattle.pager.specs.Frames.{at}
use Rattle.pager.specs.Settings.{pages_of}
use Rattle.pager.specs.Shows.{frames_of}
use Rattle.pager.proofs.Seating.{apart_in}
use Rattle.pager.proofs.Altering.{read_found, read_new}
use Rattle.pager.proofs.works.Works.load.Goals as goal

pub fetch-requires-clause-there : goal.fetch-requires-clause-there
fetch-requires-clause-there g c =
    let q = c.hold-held.new.self in
    let here = c.hold-held.ensures.here in
    let low : c.args.page < length (g.S.PageStore.meaning q.below).bytes = ∥∥₁_elim c.requires.booked le_prop (λ y.
    omega (arith, c.requires.low, y.shows.store.pages_are, (c.hold-held.ensures.shows y.setting y.model y.shows).store.pages_are)) in
    omega (arith, here.here, low)

pub returns-then-held-clause-shows : goal.returns-then-held-clause-shows
returns-then-held-clause-shows g c =
    let q = c.hold-held.new.self in
    let t = frames_of q in
    let i = c.hold-held.result.frame in
    let here = c.hold-held.ensures.here in
    let apart = apart_in q.table.parts t q.table.seated in
    let rule = rule_of g.R.TopRule.slot g.R.TopRule.next in
    λ s w sh.
    let low : c.args.page < pages_of s = omega (arith, c.requires.low, sh.store.pages_are) in
    read_new g.R.TopRule.told g.S.PageStore.meaning rule s q w c.args.page (at t i).bytes (c.hold-held.ensures.shows s w sh) _ i here apart c.fetch.ensures.parts refl low
    (c.hold-held.ensures.found s w sh ∙ ap not c.if-held.true) c.fetch.ensures.below c.fetch.ensures.wrote

pub returns-else-held-clause-shows : goal.returns-else-held-clause-shows
returns-else-held-clause-shows g c =
    let q = c.hold-held.new.self in
    let rule = rule_of g.R.TopRule.slot g.R.TopRule.next in
    λ s w sh. read_found g.R.TopRule.told g.S.PageStore.meaning rule s q w c.args.page (at (frames_of q) c.hold-held.result.frame).bytes (c.hold-held.ensures.shows s w sh) (c.hold-held.ensures.found s w sh ∙ ap not c.if-held.false)
