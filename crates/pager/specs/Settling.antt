use Rattle.std.specs.Prelude.{ℕ}
use Rattle.store.specs.Meaning.{Meaning}
use Rattle.model.specs.Bytes.{Paged}
use Rattle.pager.specs.declared.works.Works.{Works}
use Rattle.pager.specs.Settings.{Setting}
use Rattle.pager.specs.Shows.{Shows}
use Rattle.pager.specs.Partly.{partly}

-- A settle of the pager p that has come as far as page m, the pager being q now.
pub record Settling {S R : Type 0} (meaning : S → Meaning) (told : R → ℕ) (p q : Works S R) (m : ℕ) : Type 0 where
  pub shows : (s : Setting) (w : Paged) → Shows told meaning s p w → Shows told meaning s q (partly m w)
