use mathlib.Core.Logic.{∥∥₁_elim}
use Rattle.std.proofs.Common.{◌<◌, length, vec_items, refl, ap, ◌∙◌, arith}
use Rattle.model.specs.Order.{rule_of}
use Rattle.pager.specs.declared.frame.Frame.{Frame}
use Rattle.pager.specs.Frames.{at, page_in, contents, cleaned, flushed, In}
use Rattle.pager.specs.Shows.{frames_of}
use Rattle.pager.proofs.Seating.{same_at, same_page, same_length}
use Rattle.pager.proofs.Naming.{at_other}
use Rattle.pager.proofs.Accepting.{in_prop}
use Rattle.pager.proofs.Settling.{low_ready}
use Rattle.pager.proofs.Touching.{room_as, sound_as, vacant_evicted}
use Rattle.pager.proofs.works.Works.evict.Goals as goal

pub save-requires-clause-within : goal.save-requires-clause-within
save-requires-clause-within g c =
    let p = c.args.self.now in
    let t = frames_of p in
    let u = c.vacate-i.new.self.frames in
    let i = c.vacate-i.result in
    let held : In t (page_in t i) i = ∥∥₁_elim c.requires.booked (in_prop t (page_in t i) i) (λ y. c.vacate-i.ensures.held y.setting.bottom y.model.pager.order y.shows.frames.order_is (room_as g.R.TopRule.told y.setting p.table.parts t y.model y.shows.frames)) in
    omega (arith, held.within, same_length t (vec_items u) c.vacate-i.ensures.same, u.ok.0)

pub save-requires-clause-there : goal.save-requires-clause-there
save-requires-clause-there g c =
    let p = c.args.self.now in
    let t = frames_of p in
    let u = c.vacate-i.new.self.frames in
    let i = c.vacate-i.result in
    let held : In t (page_in t i) i = ∥∥₁_elim c.requires.booked (in_prop t (page_in t i) i) (λ y. c.vacate-i.ensures.held y.setting.bottom y.model.pager.order y.shows.frames.order_is (room_as g.R.TopRule.told y.setting p.table.parts t y.model y.shows.frames)) in
    let low = low_ready g.S.PageStore.meaning g.R.TopRule.told p c.requires.booked (page_in t i) i held in
    omega (arith, low, same_page t (vec_items u) c.vacate-i.ensures.same i)

pub returns-clause-below : goal.returns-clause-below
returns-clause-below g c =
    let p = c.args.self.now in
    let t = frames_of p in
    let i = c.vacate-i.result in
    let u = vec_items c.vacate-i.new.self.frames in
    c.save.ensures.below ∙ ap (λ (f : Frame). flushed f (g.S.PageStore.meaning p.below)) (same_at t u c.vacate-i.ensures.same i)

pub returns-clause-held : goal.returns-clause-held
returns-clause-held g c =
    let p = c.args.self.now in
    let t = frames_of p in
    let i = c.vacate-i.result in
    let held : In t (page_in t i) i = ∥∥₁_elim c.requires.booked (in_prop t (page_in t i) i) (λ y. c.vacate-i.ensures.held y.setting.bottom y.model.pager.order y.shows.frames.order_is (room_as g.R.TopRule.told y.setting p.table.parts t y.model y.shows.frames)) in
    held

pub returns-clause-vacant : goal.returns-clause-vacant
returns-clause-vacant g c =
    let p = c.args.self.now in
    let t = frames_of p in
    let i = c.vacate-i.result in
    let u = vec_items c.vacate-i.new.self.frames in
    let u' = vec_items c.save.new.self.frames in
    let long = same_length t u c.vacate-i.ensures.same in
    λ s w q sh none. vacant_evicted g.R.TopRule.told (rule_of g.R.TopRule.slot g.R.TopRule.next) s p.table.parts c.vacate-i.new.self.parts c.save.new.self.parts t u u' w q i sh.frames long c.save.ensures.wrote c.save.ensures.parts
    (c.vacate-i.ensures.step _ s.bottom q w.pager.order sh.frames.order_is (sound_as g.R.TopRule.told s p.table.parts t w sh.frames) (room_as g.R.TopRule.told s p.table.parts t w sh.frames) none)

pub returns-clause-others : goal.returns-clause-others
returns-clause-others g c =
    let p = c.args.self.now in
    let t = frames_of p in
    let i = c.vacate-i.result in
    let u = vec_items c.vacate-i.new.self.frames in
    let u' = vec_items c.save.new.self.frames in
    let held : In t (page_in t i) i = ∥∥₁_elim c.requires.booked (in_prop t (page_in t i) i) (λ y. c.vacate-i.ensures.held y.setting.bottom y.model.pager.order y.shows.frames.order_is (room_as g.R.TopRule.told y.setting p.table.parts t y.model y.shows.frames)) in
    let long = same_length t u c.vacate-i.ensures.same in
    let low : i < length u = omega (arith, held.within, long) in
    λ j ne. ap contents (at_other u u' i (cleaned (at u i)) c.save.ensures.wrote low refl refl refl j ne) ∙ same_at t u c.vacate-i.ensures.same j
