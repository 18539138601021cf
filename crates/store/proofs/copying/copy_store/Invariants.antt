use Rattle.store.proofs.Copies.{Halfway}
use Rattle.store.proofs.copying.copy_store.Given as goal

abbrev pub invariant-loop-page : goal.invariant-loop-page
invariant-loop-page g l =
    (g.F.PageStore.opened l.from) × (g.T.PageStore.opened l.to)
    × Halfway (g.F.PageStore.meaning l.initial.from) (g.T.PageStore.meaning l.initial.to) (g.F.PageStore.meaning l.from) (g.T.PageStore.meaning l.to) l.page
