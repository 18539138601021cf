use Rattle.pager.specs.Settling.{Settling}
use Rattle.pager.proofs.works.Works.settle.Given as goal

abbrev pub invariant-loop-page : goal.invariant-loop-page
invariant-loop-page g l = g.S.PageStore.opened l.self.below × Settling g.S.PageStore.meaning g.R.TopRule.told l.initial.self l.self l.page
