use Rattle.std.specs.Prelude.{◌≡◌, ℕ, ◌<◌, List, [], ◌∷◌, Some, None, Option, slice_index_or}

-- Where a list begins, and `stop` where it is empty.
abbrev pub head_of : List ℕ → Option ℕ → Option ℕ
head_of [] stop = stop
head_of (b ∷ bs) stop = Some b

-- Where a list ends, and `prev` where it is empty.
abbrev pub end_of : Option ℕ → List ℕ → Option ℕ
end_of prev [] = prev
end_of prev (b ∷ bs) = end_of (Some b) bs

-- A part of a list, linked both ways by ns and ps: `prev` stands before it and `stop` after it.
abbrev pub Seg : List (Option ℕ) → List (Option ℕ) → ℕ → Option ℕ → List ℕ → Option ℕ → Type 0
Seg ns ps n prev [] stop = Unit {0}
Seg ns ps n prev (b ∷ bs) stop =
    (b < n) × (slice_index_or ps b None ≡ prev) × (slice_index_or ns b None ≡ head_of bs stop) × Seg ns ps n (Some b) bs stop
