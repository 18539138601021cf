use Rattle.std.specs.Prelude.{◌≡◌, ℕ, ◌+◌, ◌<◌, false, List, [], length, vec_items, slice_index_or}
use Rattle.store.specs.Meaning.{Meaning}
use Rattle.model.specs.Rows.{wrapped}
use Rattle.model.specs.Sound.{Sound}
use Rattle.model.specs.Bytes.{Paged}
use Rattle.order.specs.declared.parts.TwoParts.{TwoParts}
use Rattle.pager.specs.declared.frame.Frame.{Frame}
use Rattle.pager.specs.declared.works.UseCounts.{UseCounts}
use Rattle.pager.specs.declared.works.Works.{Works}
use Rattle.pager.specs.Frames.{at, In, Absent}
use Rattle.pager.specs.Framed.{Framed}
use Rattle.pager.specs.Settings.{Setting, pages_of}

-- The frames of a pager's works.
abbrev pub frames_of : {S R : Type 0} → Works S R → List Frame
frames_of p = vec_items p.table.frames

-- A frame table shows a model: as many frames as slots and pages of the bottom, in the model's order;
-- each frame that holds a page has its bytes, and is dirty exactly if the page is; a page without a frame is not dirty.
pub record FramesShow {R : Type 0} (told : R → ℕ) (s : Setting) (c : TwoParts R) (t : List Frame) (w : Paged) : Type 0 where
  pub slots_are : c.slots ≡ s.slots
  pub room_is : length t ≡ s.slots + s.bottom
  pub order_is : Framed told c t w.pager.order
  pub sound : Sound (pages_of s) s.slots w.pager.order
  pub dirty_are : (q i : ℕ) → In t q i → (at t i).dirty ≡ w.pager.dirty q
  pub others_clean : (q : ℕ) → Absent t q → w.pager.dirty q ≡ false
  pub bytes_are : (q i : ℕ) → In t q i → (at t i).bytes ≡ w.frame q

-- The store below shows a model: its bytes are the model's, and its tallies have risen since the opening
-- by the model's fetches and saves.
pub record StoreShows (s : Setting) (m : Meaning) (w : Paged) : Type 0 where
  pub pages_are : length m.bytes ≡ pages_of s
  pub bytes_are : (q : ℕ) → q < pages_of s → slice_index_or m.bytes q [] ≡ w.below q
  pub fetches_are : wrapped m.tallies.fetches ≡ wrapped (s.first.tallies.fetches + w.pager.fetches)
  pub saves_are : wrapped m.tallies.saves ≡ wrapped (s.first.tallies.saves + w.pager.saves)

-- The counters show a model.
pub record CountsShow (c : UseCounts) (w : Paged) : Type 0 where
  pub hits_are : c.hits ≡ wrapped w.pager.hits
  pub reclaims_are : c.reclaims ≡ wrapped w.pager.reclaims
  pub faults_are : c.faults ≡ wrapped w.pager.faults
  pub evictions_are : c.evictions ≡ wrapped w.pager.evictions

-- A pager shows a model: its frames, the store below and its counters do.
pub record Shows {S R : Type 0} (told : R → ℕ) (meaning : S → Meaning) (s : Setting) (p : Works S R) (w : Paged) : Type 0 where
  pub frames : FramesShow told s p.table.parts (frames_of p) w
  pub store : StoreShows s (meaning p.below) w
  pub counts : CountsShow p.counts w
