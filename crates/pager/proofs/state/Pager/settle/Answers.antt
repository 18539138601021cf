use Rattle.std.proofs.Common.{ap, ◌∙◌}
use Rattle.model.specs.Bytes.{Paged, paged_settle}
use Rattle.pager.specs.Settings.{Setting, pages_of}
use Rattle.pager.proofs.Accepting.{pages_stay}
use Rattle.pager.proofs.Settling.{settle_goes_on, settled_keeps, settled_below}
use Rattle.pager.proofs.state.Pager.settle.Goals as goal

pub returns-clause-ready : goal.returns-clause-ready
returns-clause-ready g c =
    let p = c.args.self.now in
    let booked = ∣ c.requires.booked ∣₁ in
    record {
      store = c.settle.ensures.opened;
      booked = settle_goes_on g.S.PageStore.meaning g.R.TopRule.told p.works c.settle.new.self booked c.settle.ensures.shows c.requires.booked;
      counted = c.requires.counted ∙ pages_stay g.S.PageStore.meaning g.R.TopRule.told p.works c.settle.new.self booked (λ (s : Setting) (w : Paged). paged_settle (pages_of s) w) c.settle.ensures.shows;
    }

pub returns-clause-same : goal.returns-clause-same
returns-clause-same g c =
    let p = c.args.self.now in
    ap (λ xs. record { bytes = xs; tallies = p.tallies }) (settled_keeps g.S.PageStore.meaning g.R.TopRule.told p.works c.settle.new.self ∣ c.requires.booked ∣₁ c.settle.ensures.shows)

pub returns-clause-below : goal.returns-clause-below
returns-clause-below g c =
    let p = c.args.self.now in
    settled_below g.S.PageStore.meaning g.R.TopRule.told p.works c.settle.new.self ∣ c.requires.booked ∣₁ c.settle.ensures.shows
