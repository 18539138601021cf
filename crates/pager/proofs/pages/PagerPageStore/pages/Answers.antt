use Rattle.std.proofs.Common.{sym, ◌∙◌}
use Rattle.pager.proofs.Accepting.{count_is, pager_sized}
use Rattle.pager.proofs.pages.PagerPageStore.pages.Goals as goal

pub returns : goal.returns
returns g c = record {
  count = c.requires.counted ∙ sym (count_is g.S.PageStore.meaning c.args.self.now.works);
  sized = pager_sized g.S.PageStore.meaning g.R.TopRule.told c.args.self.now.works ∣ c.requires.booked ∣₁;
}
