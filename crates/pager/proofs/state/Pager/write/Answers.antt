use Rattle.std.proofs.Common.{refl, ◌∙◌}
use Rattle.std.proofs.lemmas.Result.{err_from_is_err_and}
use Rattle.store.proofs.Calls.{accepted_page}
use Rattle.model.specs.Order.{rule_of}
use Rattle.pager.specs.declared.works.Works.{Works}
use Rattle.pager.specs.Shows.{frames_of}
use Rattle.pager.proofs.Seating.{apart_in}
use Rattle.pager.proofs.Altering.{write_after}
use Rattle.pager.specs.Settings.{Setting}
use Rattle.model.specs.Bytes.{Paged, paged_write}
use Rattle.pager.proofs.Accepting.{pages_stay, refused_write, write_goes_on, write_effect}
use Rattle.pager.proofs.state.Pager.write.Goals as goal

pub returns-in_err-may_use-clause-effect : goal.returns-in_err-may_use-clause-effect
returns-in_err-may_use-clause-effect g c =
    let p = c.args.self.now in
    let e = err_from_is_err_and c.from_residual.result c.from_residual.ensures.1 in
    rw (e.1, e.2) (refused_write g.S.PageStore.meaning g.R.TopRule.told p.works ∣ c.requires.booked ∣₁ p.tallies c.args.page c.args.buffer.now _ (rw c.requires.counted at c.in_err-may_use.ensures))

pub returns-clause-ready : goal.returns-clause-ready
returns-clause-ready g c =
    let p = c.args.self.now in
    let q = c.hold-held.new.self in
    let z : Works g.row.S.Denot g.row.R.Denot = record { below = q.below; table = c.take.new.self; counts = q.counts } in
    let rule = rule_of g.R.TopRule.slot g.R.TopRule.next in
    let ok = rw c.requires.counted at c.in_ok-may_use.ensures in
    let shows = write_after g.R.TopRule.told g.S.PageStore.meaning rule p.works q z c.args.page c.hold-held.result.frame c.hold-held.ensures.shows c.hold-held.ensures.here (apart_in q.table.parts (frames_of q) q.table.seated) (accepted_page _ _ _ ok) c.args.buffer.now c.take.ensures.parts refl refl c.take.ensures.wrote in
    let booked = ∣ c.requires.booked ∣₁ in
    record {
      store = c.hold-held.ensures.opened;
      booked = write_goes_on g.S.PageStore.meaning g.R.TopRule.told p.works booked p.tallies c.args.page c.args.buffer.now z rule (λ state k pos. g.met.R.TopRule.below state k pos) ok shows c.requires.booked;
      counted = c.requires.counted ∙ pages_stay g.S.PageStore.meaning g.R.TopRule.told p.works z booked (λ (s : Setting) (w : Paged). paged_write rule s.slots s.bottom c.args.page c.args.buffer.now w) shows;
    }

pub returns-clause-effect : goal.returns-clause-effect
returns-clause-effect g c =
    let p = c.args.self.now in
    let q = c.hold-held.new.self in
    let z : Works g.row.S.Denot g.row.R.Denot = record { below = q.below; table = c.take.new.self; counts = q.counts } in
    let rule = rule_of g.R.TopRule.slot g.R.TopRule.next in
    let ok = rw c.requires.counted at c.in_ok-may_use.ensures in
    let shows = write_after g.R.TopRule.told g.S.PageStore.meaning rule p.works q z c.args.page c.hold-held.result.frame c.hold-held.ensures.shows c.hold-held.ensures.here (apart_in q.table.parts (frames_of q) q.table.seated) (accepted_page _ _ _ ok) c.args.buffer.now c.take.ensures.parts refl refl c.take.ensures.wrote in
    rw c.note_save.ensures (write_effect g.S.PageStore.meaning g.R.TopRule.told p.works ∣ c.requires.booked ∣₁ p.tallies c.args.page c.args.buffer.now z rule (λ state k pos. g.met.R.TopRule.below state k pos) ok shows)

pub returns-clause-step : goal.returns-clause-step
returns-clause-step g c =
    let p = c.args.self.now in
    let q = c.hold-held.new.self in
    let z : Works g.row.S.Denot g.row.R.Denot = record { below = q.below; table = c.take.new.self; counts = q.counts } in
    let rule = rule_of g.R.TopRule.slot g.R.TopRule.next in
    let ok = rw c.requires.counted at c.in_ok-may_use.ensures in
    let shows = write_after g.R.TopRule.told g.S.PageStore.meaning rule p.works q z c.args.page c.hold-held.result.frame c.hold-held.ensures.shows c.hold-held.ensures.here (apart_in q.table.parts (frames_of q) q.table.seated) (accepted_page _ _ _ ok) c.args.buffer.now c.take.ensures.parts refl refl c.take.ensures.wrote in
    λ s w sh h. shows s w sh
