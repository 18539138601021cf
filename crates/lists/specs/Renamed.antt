use Rattle.std.specs.Prelude.{◌≡◌, ℕ, ◌<◌, List}
use Rattle.lists.specs.Weights.{occ}

-- A function tells i apart from the numbers of a list: none but i has i's name.
abbrev pub Tells : (ℕ → ℕ) → ℕ → List ℕ → Type 0
Tells f i xs = (j : ℕ) → 0 < occ j xs → f j ≡ f i → j ≡ i
