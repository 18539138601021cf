use Rattle.store.proofs.Calls.{accepted_length}
use Rattle.store.proofs.Pages.{in_memory, plain_fetched}
use Rattle.store.proofs.plain.PlainStorePageStore.fetch.Goals as goal

pub copy_page-requires : goal.copy_page-requires
copy_page-requires c =
    let ok = c.in_ok-may_use.ensures in
    (in_memory _ _ _ _ c.pages.ensures.count ok, accepted_length _ _ _ ok)

pub returns-clause-effect : goal.returns-clause-effect
returns-clause-effect c = simp (c.copy_page.ensures, c.note_fetch.ensures) (plain_fetched _ _ _ _ _ c.pages.ensures.count c.in_ok-may_use.ensures)
