use Rattle.std.proofs.Common.{◌∙◌}
use Rattle.std.proofs.lemmas.Result.{err_from_is_err_and}
use Rattle.model.specs.Order.{rule_of}
use Rattle.pager.specs.Settings.{Setting}
use Rattle.model.specs.Bytes.{Paged, paged_read}
use Rattle.pager.proofs.Accepting.{pages_stay, refused_read, read_goes_on, read_effect}
use Rattle.pager.proofs.state.Pager.read.Goals as goal

pub returns-in_err-may_use-clause-effect : goal.returns-in_err-may_use-clause-effect
returns-in_err-may_use-clause-effect g c =
    let p = c.args.self.now in
    let e = err_from_is_err_and c.from_residual.result c.from_residual.ensures.1 in
    rw (e.1, e.2) (refused_read g.S.PageStore.meaning g.R.TopRule.told p.works ∣ c.requires.booked ∣₁ p.tallies c.args.page c.args.buffer.now _ (rw c.requires.counted at c.in_err-may_use.ensures))

pub returns-clause-ready : goal.returns-clause-ready
returns-clause-ready g c =
    let p = c.args.self.now in
    let rule = rule_of g.R.TopRule.slot g.R.TopRule.next in
    let booked = ∣ c.requires.booked ∣₁ in
    record {
      store = c.load-frame.ensures.opened;
      booked = read_goes_on g.S.PageStore.meaning g.R.TopRule.told p.works booked p.tallies c.args.page c.args.buffer.now c.load-frame.new.self rule (λ state k pos. g.met.R.TopRule.below state k pos) (rw c.requires.counted at c.in_ok-may_use.ensures) c.load-frame.ensures.shows c.requires.booked;
      counted = c.requires.counted ∙ pages_stay g.S.PageStore.meaning g.R.TopRule.told p.works c.load-frame.new.self booked (λ (s : Setting) (w : Paged). paged_read rule s.slots s.bottom c.args.page w) c.load-frame.ensures.shows;
    }

pub returns-clause-effect : goal.returns-clause-effect
returns-clause-effect g c =
    let p = c.args.self.now in
    rw c.note_fetch.ensures (read_effect g.S.PageStore.meaning g.R.TopRule.told p.works ∣ c.requires.booked ∣₁ p.tallies c.args.page c.args.buffer.now c.load-frame.new.self (rule_of g.R.TopRule.slot g.R.TopRule.next) (λ state k pos. g.met.R.TopRule.below state k pos) (rw c.requires.counted at c.in_ok-may_use.ensures) c.load-frame.ensures.shows c.load-frame.result _
    c.load-frame.ensures.here c.give.ensures)
