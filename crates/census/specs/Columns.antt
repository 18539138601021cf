use Rattle.std.specs.Prelude.{◌≡◌, ℕ, ◌+◌, ◌*◌, ◌<◌, ◌≤◌, List, Some, None, Option, slice_index, slice_set}
use Rattle.lists.specs.Weights.{occ}
use Rattle.model.specs.declared.UseKind.{UseKind}
use Rattle.model.specs.declared.UseKind.TheVariants.{Read, Write}
use Rattle.model.specs.Rows.{wrapped}

-- The count table with one more at a place.
abbrev pub counted : List ℕ → ℕ → List ℕ
counted xs i = slice_set xs i (wrapped (slice_index xs i + 1))

-- The count table once a depth is counted in the column that begins at `base`; where there is none, nothing is.
abbrev pub noted_in : ℕ → Option ℕ → List ℕ → List ℕ
noted_in base None xs = xs
noted_in base (Some d) xs = counted xs (base + d)

-- Where the three columns of the count table begin, for n pages.
abbrev pub reads_from : ℕ → ℕ
reads_from n = 0

abbrev pub writes_from : ℕ → ℕ
writes_from n = n + 1

abbrev pub ended_from : ℕ → ℕ
ended_from n = 2 * (n + 1)

-- Where the column of a kind of use begins.
abbrev pub uses_from : UseKind → ℕ → ℕ
uses_from Read n = reads_from n
uses_from Write n = writes_from n

-- The column that begins at `base` counts the depths ds: its place d says how often d stands among them, modulo 2^32.
-- No depth is above n, so that all are counted.
pub record Column (n : ℕ) (counts : List ℕ) (base : ℕ) (ds : List ℕ) : Type 0 where
  pub are : (d : ℕ) → d ≤ n → slice_index counts (base + d) ≡ wrapped (occ d ds)
  pub low : (d : ℕ) → n < d → occ d ds ≡ 0
