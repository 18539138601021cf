use Rattle.std.proofs.Common.{sym}
use Rattle.store.proofs.Pages.{pages_length, pages_sized}
use Rattle.store.proofs.plain.PlainStorePageStore.pages.Goals as goal

pub returns : goal.returns
returns c = record { count = sym (pages_length _); sized = pages_sized _ c.args.self.now.whole }
