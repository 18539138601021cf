use Rattle.std.specs.Prelude.{ℕ, ◌+◌, cond, List, [], ◌∷◌, ◌==◌}

-- A list without the first p in it.
abbrev pub without : ℕ → List ℕ → List ℕ
without p [] = []
without p (b ∷ bs) = cond (b == p) bs (b ∷ without p bs)

-- The place of p, counted from d + 1, and 0 where p is not in the list.
abbrev pub place_from : ℕ → ℕ → List ℕ → ℕ
place_from d p [] = 0
place_from d p (b ∷ bs) = cond (b == p) (d + 1) (place_from (d + 1) p bs)

-- The place of p in a list, counted from 1, and 0 where p is not in it.
abbrev pub place : ℕ → List ℕ → ℕ
place p bs = place_from 0 p bs
