use Rattle.std.proofs.Common.{Ok}
use Rattle.store.proofs.Seams.{save_first, save_second}
use Rattle.store.proofs.spliced.SplicedStorePageStore.save.Goals as goal
use Rattle.store.proofs.spliced.SplicedStorePageStore.save.Goals.{in-None+in_ok-save-in-None, in-Some+in_ok-save-in-Some}

pub returns-clause-effect : goal.returns-clause-effect
returns-clause-effect g c =
    let a = g.F.PageStore.meaning c.args.self.now.first in
    let b = g.S.PageStore.meaning c.args.self.now.second in
    elim c.match-in_second.branch [
      | in-None+in_ok-save-in-None w ↦ simp (w.self-is, c.note_save.ensures) (save_first a b _ _ _ w.in-None.ensures _ (Ok tt) w.in_ok-save-in-None.ensures.effect)
      | in-Some+in_ok-save-in-Some w ↦ simp (w.self-is, c.note_save.ensures) (save_second a b _ _ _ _ w.in-Some.ensures _ (Ok tt) w.in_ok-save-in-Some.ensures.effect)
    ]
