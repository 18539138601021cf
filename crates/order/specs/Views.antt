use Rattle.std.specs.Prelude.{ℕ, List, length, Option}
use Rattle.links.specs.declared.Ends.{Ends}
use Rattle.links.specs.declared.Part.{Part}
use Rattle.links.specs.declared.Links.{Links}
use Rattle.links.specs.Holds.{Holds}
use Rattle.links.specs.Reads.{nexts, prevs, parts}

-- What the order reads of a table: how long it is, the links of its records and their parts.
pub record Views : Type 0 where
  pub size : ℕ
  pub nexts : List (Option ℕ)
  pub prevs : List (Option ℕ)
  pub parts : List Part

-- The views of a table whose records' links are read by a function.
abbrev pub views_of : {X : Type 0} → (X → Links) → List X → Views
views_of links t =
    record { size = length t; nexts = nexts links t; prevs = prevs links t; parts = parts links t }

-- The links hold the list bs between its ends, both ways.
abbrev pub LinkedAs : Views → Ends → List ℕ → Type 0
LinkedAs v ends bs = Holds v.nexts v.prevs v.size ends.first ends.last bs
