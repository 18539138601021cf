use Rattle.std.specs.Prelude.{ℕ, List, length}
use Rattle.links.specs.declared.Ends.{Ends}
use Rattle.links.specs.declared.Links.{Links}
use Rattle.links.specs.Holds.{Holds}
use Rattle.links.specs.Reads.{nexts, prevs}

-- A table's records, whose links are read by `links`, hold the list bs between its ends.
abbrev pub HeldIn : {X : Type 0} → (X → Links) → List X → Ends → List ℕ → Type 0
HeldIn links table ends bs =
    Holds (nexts links table) (prevs links table) (length table) ends.first ends.last bs
