use Rattle.std.specs.Prelude.{◌≡◌, ℕ, length}
use Rattle.store.specs.Meaning.{Meaning}
use Rattle.pager.specs.declared.state.Pager.{Pager}
use Rattle.pager.specs.Booked.{Booked}

-- What is true of a pager from its opening on, however it is called: the store below is open, the pager's works show some
-- model that keeps the bytes of a book, and it keeps the number of pages below.
pub record Ready {S R : Type 0} (opened : S → Type 0) (meaning : S → Meaning) (told : R → ℕ) (p : Pager S R) : Type 0 where
  pub store : opened p.works.below
  pub booked : Booked meaning told p.works
  pub counted : p.pages ≡ length (meaning p.works.below).bytes
