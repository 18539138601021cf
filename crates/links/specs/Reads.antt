use Rattle.std.specs.Prelude.{ℕ, List, map, Option}
use Rattle.links.specs.declared.Part.{Part}
use Rattle.links.specs.declared.Links.{Links}

-- The links to the next record that a table's records have, one after another, where `links` reads what one has.
abbrev pub nexts : {X : Type 0} → (X → Links) → List X → List (Option ℕ)
nexts links table = map (λ x. (links x).next) table

-- Their links to the previous record.
abbrev pub prevs : {X : Type 0} → (X → Links) → List X → List (Option ℕ)
prevs links table = map (λ x. (links x).prev) table

-- The parts that they are in.
abbrev pub parts : {X : Type 0} → (X → Links) → List X → List Part
parts links table = map (λ x. (links x).part) table
