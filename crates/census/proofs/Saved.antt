-- The open windows of a row, as the tables tell them.
use Rattle.std.proofs.Common.{◌≡◌, ℕ, ◌+◌, List, length, get_or, drop, None, ap, ◌∙◌}
use Rattle.lists.specs.Weights.{total, weigh}
use Rattle.lists.specs.Places.{place}
use Rattle.lists.proofs.Totals.{total_same}
use Rattle.model.specs.Windows.{raised, over}
use Rattle.model.specs.Ledger.{Ledger}
use Rattle.model.proofs.Uses.{once_bottom, bottom_below}
use Rattle.census.specs.declared.page.PageRecord.{PageRecord}
use Rattle.census.specs.Views.{marks}
use Rattle.census.specs.declared.state.Census.{Census}
use Rattle.census.specs.Sinking.{shallow_at}
use Rattle.census.specs.Means.{Means}
use Rattle.census.proofs.Sinking.{open_above}

pub windows_above : {X : Type 0} (told : X → ℕ) (c : Census X) (t : List PageRecord) (counts : List ℕ) (b : Ledger) (l : ℕ) → Means told c t counts b →
    total c.pages (λ q. over l (b.marks q)) ≡ total (length t) (λ q. over l (get_or (marks t) q None)) + weigh (shallow_at l (marks t)) (drop l b.order.bottom)
windows_above told c t counts b l m = rw m.long
    (total_same (λ q. over l (b.marks q)) (λ q. over l (raised (get_or (marks t) q None) (place q b.order.bottom))) c.pages (λ q h. ap (over l) (m.marks_are q h))
    ∙ open_above c.pages l (marks t) b.order.bottom (once_bottom m.stands.arranged.sound) (λ q h. bottom_below m.stands.arranged.sound q (rw m.long h)))
