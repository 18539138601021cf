use Rattle.std.specs.Prelude.{◌≡◌, ℕ, ◌<◌, List, length}
use Rattle.store.specs.Meaning.{Meaning}
use Rattle.store.specs.Sized.{Sized}
use Rattle.model.specs.Bytes.{Paged}
use Rattle.model.specs.Kept.{Kept}
use Rattle.pager.specs.declared.works.Works.{Works}
use Rattle.pager.specs.Settings.{Setting, pages_of}
use Rattle.pager.specs.Shows.{Shows}

-- What is true of the works of a pager between its calls: they show some model that keeps the bytes of a book
-- of whole pages.
pub record Booked {S R : Type 0} (meaning : S → Meaning) (told : R → ℕ) (p : Works S R) : Type 0 where
  pub setting : Setting
  pub model : Paged
  pub book : ℕ → List ℕ
  pub sized : Sized setting.first.bytes
  pub shows : Shows told meaning setting p model
  pub kept : Kept (pages_of setting) setting.slots model book
  pub long : (q : ℕ) → q < pages_of setting → length (book q) ≡ 64
