use Rattle.std.specs.Prelude.{◌≡◌, ℕ, ◌≢◌, List, length}
use Rattle.store.specs.Meaning.{Meaning}
use Rattle.model.specs.Order.{Rule}
use Rattle.model.specs.Bytes.{Paged}
use Rattle.pager.specs.declared.works.Works.{Works}
use Rattle.pager.specs.Frames.{at, contents}
use Rattle.pager.specs.Vacant.{Vacant}
use Rattle.pager.specs.Settings.{Setting}
use Rattle.pager.specs.Shows.{frames_of, StoreShows, CountsShow}
use Rattle.pager.specs.Counted.{faulted}
use Rattle.pager.specs.Touched.{touched}

-- A pager that showed a model and is q now has frame i free for page p, which has none: what it drives out is saved below
-- and counted, and the other frames hold what they held.
pub record Roomy {S R : Type 0} (told : R → ℕ) (meaning : S → Meaning) (r : Rule) (s : Setting) (p q : Works S R) (w : Paged) (page i : ℕ) : Type 0 where
  pub vacant : Vacant told r s.slots s.bottom (frames_of p) w.pager.order page i q.table.parts (frames_of q)
  pub others : (j : ℕ) → j ≢ i → contents (at (frames_of q) j) ≡ contents (at (frames_of p) j)
  pub long : length (frames_of q) ≡ length (frames_of p)
  pub slots : q.table.parts.slots ≡ p.table.parts.slots
  pub store : (x : List ℕ) → StoreShows s (meaning q.below) (touched r s.slots s.bottom page x w)
  pub counts : (x : List ℕ) → CountsShow (faulted q.counts) (touched r s.slots s.bottom page x w)
