use Rattle.std.specs.Prelude.{◌≡◌, List, map}
use Rattle.links.specs.declared.Links.{Links}
use Rattle.links.specs.Reads.{parts}

-- Two tables whose records are the same but for their links and their parts, where `rest` gives a record without these.
abbrev pub SameRest : {X : Type 0} → (X → X) → List X → List X → Type 0
SameRest rest old new = map rest new ≡ map rest old

-- Two tables whose records are the same but for their links to the next and to the previous ones.
pub record SameButLinks {X : Type 0} (links : X → Links) (rest : X → X) (old new : List X) : Type 0 where
  pub same_part : parts links new ≡ parts links old
  pub same_rest : SameRest rest old new
