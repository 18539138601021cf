use Rattle.std.specs.Prelude.{◌≡◌, ℕ, ◌<◌, List, [], ◌∷◌, Some, None, Option, slice_index_or}

-- The list that links give, followed one way from `at` until there is no link.
-- Each number in it is below n.
abbrev pub Chain : List (Option ℕ) → ℕ → Option ℕ → List ℕ → Type 0
Chain links n at [] = at ≡ None
Chain links n at (b ∷ bs) = (at ≡ Some b) × (b < n) × Chain links n (slice_index_or links b None) bs
