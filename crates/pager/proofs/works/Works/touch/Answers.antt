use Rattle.std.proofs.Common.{vec_items, refl, ap, ◌∙◌}
use mathlib.Core.Logic.{∥∥₁_elim}
use Rattle.std.proofs.lemmas.List.{get_or_read}
use Rattle.model.specs.Order.{rule_of}
use Rattle.pager.specs.declared.frame.Frame.{Frame}
use Rattle.pager.specs.Frames.{blank, page_in}
use Rattle.pager.specs.Shows.{frames_of}
use Rattle.pager.specs.Counted.{found_in}
use Rattle.pager.proofs.Seating.{apart_in}
use Rattle.pager.proofs.Accepting.{in_prop}
use Rattle.pager.proofs.Touching.{rule_below, touch_shows}
use Rattle.pager.proofs.works.Works.touch.Goals as goal

pub seat-requires-clause-alone : goal.seat-requires-clause-alone
seat-requires-clause-alone g c = λ j h. apart_in c.args.self.now.table.parts (frames_of c.args.self.now) c.args.self.now.table.seated _ j c.args.i h c.requires.held

pub returns-clause-shows : goal.returns-clause-shows
returns-clause-shows g c =
    let p = c.args.self.now in
    let t = frames_of p in
    let read = get_or_read t c.args.i c.index.result.now c.requires.held.within c.index.ensures blank in
    let rule = rule_of g.R.TopRule.slot g.R.TopRule.next in
    let apart = apart_in p.table.parts t p.table.seated in
    let apart' = apart_in c.seat.new.self.parts (vec_items c.seat.new.self.frames) c.seat.new.self.seated in
    λ s w sh. touch_shows g.R.TopRule.told g.S.PageStore.meaning rule s p _ w c.args.i sh (rule_below g.R.TopRule.told rule s p.table.parts t w sh.frames (λ state k pos. g.met.R.TopRule.below state k pos)) c.requires.held apart apart' c.seat.ensures.same c.seat.ensures.slots
    (c.seat.ensures.sat w.pager.order sh.frames.order_is) refl (c.note_found.ensures ∙ ap (λ (f : Frame). found_in f.links.part p.counts) read)

pub returns-clause-here : goal.returns-clause-here
returns-clause-here g c =
    let p = c.args.self.now in
    let t = frames_of p in
    ∥∥₁_elim c.requires.booked (in_prop (vec_items c.seat.new.self.frames) (page_in t c.args.i) c.args.i) (λ y. (c.seat.ensures.sat y.model.pager.order y.shows.frames.order_is).here)
