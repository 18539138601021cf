use Rattle.store.proofs.Seams.{sized_splice}
use Rattle.store.proofs.spliced.SplicedStorePageStore.pages.Goals as goal

pub returns-clause-sized : goal.returns-clause-sized
returns-clause-sized g c = sized_splice _ _ c.pages.ensures.sized c.pages-2.ensures.sized c.requires.few
