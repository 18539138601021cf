use Rattle.std.specs.Prelude.{◌≡◌, ℕ, List, None, Option}
use Rattle.lists.specs.Weights.{Once}
use Rattle.links.specs.Segs.{head_of, end_of, Seg}

-- The links to the next (ns) and to the previous (ps) of n records hold the list bs:
-- it begins at `first` and ends at `last`, its neighbours are linked both ways, and no number stands in it twice.
pub record Holds (ns ps : List (Option ℕ)) (n : ℕ) (first last : Option ℕ) (bs : List ℕ) : Type 0 where
  pub first_is : first ≡ head_of bs None
  pub last_is : last ≡ end_of None bs
  pub linked : Seg ns ps n None bs None
  pub once : Once bs
