use Rattle.std.specs.Prelude.{ℕ, List, Some, None, Option, slice_set}

-- The links once the one of `at` is `to`, where there is such a link.
abbrev pub set_link : List (Option ℕ) → Option ℕ → Option ℕ → List (Option ℕ)
set_link links None to = links
set_link links (Some q) to = slice_set links q to

-- An end of the list once the neighbour on its side of `at` is `to`: it changes where there is no `at`.
abbrev pub end_link : Option ℕ → Option ℕ → Option ℕ → Option ℕ
end_link end None to = to
end_link end (Some q) to = end
