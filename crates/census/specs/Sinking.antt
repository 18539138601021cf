use Rattle.std.specs.Prelude.{◌≡◌, ℕ, ◌+◌, ◌-◌, ◌≤◌, List, length, drop, None, Option, slice_index_or}
use Rattle.lists.specs.Weights.{one, weigh}
use Rattle.links.specs.Chain.{Chain}
use Rattle.model.specs.Windows.{shallow}

-- 1 for a page whose window is open with a stored mark of at most l.
abbrev pub shallow_at : ℕ → List (Option ℕ) → ℕ → ℕ
shallow_at l stored q = one (shallow l (slice_index_or stored q None))

-- A walk along the bottom that counts such pages behind the first l: it has passed `ahead` pages,
-- and what it counted, with what is left to count, is the whole.
pub record Sinking (links stored : List (Option ℕ)) (n l : ℕ) (at : Option ℕ) (ahead sunk whole : ℕ) : Type 0 where
  pub rest : List ℕ
  pub chain : Chain links n at rest
  pub fits : ahead + length rest ≤ n
  pub sums : sunk + weigh (shallow_at l stored) (drop (l - ahead) rest) ≡ whole
