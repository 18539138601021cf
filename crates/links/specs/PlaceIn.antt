use Rattle.std.specs.Prelude.{ℕ, cond, List, Some, None, Option}
use Rattle.lists.specs.Weights.{has}
use Rattle.lists.specs.Places.{place}

-- The place of p in a list, counted from 1, and none where p is not in it.
abbrev pub place_in : ℕ → List ℕ → Option ℕ
place_in p bs = cond (has p bs) (Some (place p bs)) None
