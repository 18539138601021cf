use Rattle.std.specs.Prelude.{◌≡◌}
use Rattle.census.specs.declared.state.Census.{Census}

-- A census that has as many pages, and as many slots in its top, as before.
pub record SameSize {X : Type 0} (before after : Census X) : Type 0 where
  pub pages : after.pages ≡ before.pages
  pub slots : after.parts.slots ≡ before.parts.slots
