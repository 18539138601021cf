use mathlib.Core.Logic.{∥∥₁_elim}
use Rattle.std.proofs.Common.{◌<◌, length, vec_items, refl, arith}
use Rattle.std.specs.Coded.{le_prop}
use Rattle.model.specs.Order.{rule_of}
use Rattle.pager.specs.Settings.{pages_of}
use Rattle.pager.specs.Shows.{frames_of}
use Rattle.pager.proofs.Seating.{apart_in}
use Rattle.pager.proofs.Accepting.{in_prop, never_prop}
use Rattle.pager.proofs.Touching.{rule_below}
use Rattle.pager.proofs.Admitting.{admit_shows}
use Rattle.pager.proofs.works.Works.admit.Goals as goal

pub occupy-requires-clause-within : goal.occupy-requires-clause-within
occupy-requires-clause-within g c =
    let q = c.make_room-i.new.self in
    let low : c.make_room-i.result < length (frames_of q) = ∥∥₁_elim c.requires.booked le_prop (λ y.
    let fits : c.args.page < pages_of y.setting = omega (arith, c.requires.low, y.shows.store.pages_are) in
    let room = c.make_room-i.ensures.room y.setting y.model c.args.page y.shows fits c.requires.absent in
    omega (arith, room.vacant.within, room.long)) in
    omega (arith, low, q.table.frames.ok.0)

pub occupy-requires-clause-absent : goal.occupy-requires-clause-absent
occupy-requires-clause-absent g c = λ j h. ∥∥₁_elim c.requires.booked never_prop (λ y.
    let fits : c.args.page < pages_of y.setting = omega (arith, c.requires.low, y.shows.store.pages_are) in
    c.requires.absent j ((c.make_room-i.ensures.room y.setting y.model c.args.page y.shows fits c.requires.absent).vacant.before c.args.page j h))

pub returns-clause-shows : goal.returns-clause-shows
returns-clause-shows g c =
    let p = c.args.self.now in
    let q = c.make_room-i.new.self in
    let u = vec_items c.occupy.new.self.frames in
    let rule = rule_of g.R.TopRule.slot g.R.TopRule.next in
    let apart = apart_in c.occupy.new.self.parts u c.occupy.new.self.seated in
    λ s w sh.
    let fits : c.args.page < pages_of s = omega (arith, c.requires.low, sh.store.pages_are) in
    let made = c.make_room-i.ensures.room s w c.args.page sh fits c.requires.absent in
    admit_shows g.R.TopRule.told g.S.PageStore.meaning rule s p w c.args.page sh (rule_below g.R.TopRule.told rule s p.table.parts (frames_of p) w sh.frames (λ state k pos. g.met.R.TopRule.below state k pos)) fits c.requires.absent q _ c.make_room-i.result made c.occupy.ensures.slots c.occupy.ensures.long apart
    (c.occupy.ensures.step made.vacant.between made.vacant.shows) refl c.note_fault.ensures

pub returns-clause-here : goal.returns-clause-here
returns-clause-here g c =
    let u = vec_items c.occupy.new.self.frames in
    ∥∥₁_elim c.requires.booked (in_prop u c.args.page c.make_room-i.result) (λ y.
    let fits : c.args.page < pages_of y.setting = omega (arith, c.requires.low, y.shows.store.pages_are) in
    let room = c.make_room-i.ensures.room y.setting y.model c.args.page y.shows fits c.requires.absent in
    (c.occupy.ensures.step room.vacant.between room.vacant.shows).here)
