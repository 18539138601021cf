use Rattle.std.proofs.Common.{◌≡◌, length, arith}
use Rattle.pager.proofs.Settling.{partly_end, low_of}
use Rattle.pager.proofs.works.Works.settle.Goals as goal

pub settle_page-requires-clause-low : goal.settle_page-requires-clause-low
settle_page-requires-clause-low g c q i h = low_of g.S.PageStore.meaning g.R.TopRule.told c.args.self.now c.loop-page.self c.loop-page.page c.requires.booked c.loop-page.invariant.1 q i h

pub returns-clause-shows : goal.returns-clause-shows
returns-clause-shows g c =
    let p = c.args.self.now in
    let over : c.loop-page.page ≡ length (g.S.PageStore.meaning p.below).bytes = omega (arith, c.loop-page-test.false, c.loop-page.auto.page-end, c.requires.counted) in
    partly_end g.S.PageStore.meaning g.R.TopRule.told p c.loop-page.self c.loop-page.page c.loop-page.invariant.1 over
