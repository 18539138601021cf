-- What a write of one record does to the table's links.
use Rattle.std.proofs.Common.{◌≡◌, ℕ, List, map, set, Some, Option, ap, ◌∙◌}
use Rattle.std.proofs.lemmas.List.{map-set}
use Rattle.links.specs.Writes.{set_link}

-- A record whose link f is now `to`, at the place that `at` gives.
pub link_wrote : {X : Type 0} (f : X → Option ℕ) (xs : List X) (at to : Option ℕ) (q : ℕ) → at ≡ Some q → (new : X) → f new ≡ to → map f (set xs q new) ≡ set_link (map f xs) at to
link_wrote f xs at to q some new e = rw some (map-set f xs q new ∙ ap (set (map f xs) q) e)
