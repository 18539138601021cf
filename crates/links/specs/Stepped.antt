use Rattle.std.specs.Prelude.{ℕ, zero, suc, List, Some, None, Option, slice_index_or}

-- Where k steps along the links lead from `at`, whether the links make a list or not.
abbrev pub stepped : List (Option ℕ) → ℕ → Option ℕ → Option ℕ
stepped links zero at = at
stepped links (suc k) None = None
stepped links (suc k) (Some b) = stepped links k (slice_index_or links b None)
