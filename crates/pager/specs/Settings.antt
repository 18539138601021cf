use Rattle.std.specs.Prelude.{ℕ, List, [], length, slice_index_or}
use Rattle.store.specs.Meaning.{Meaning}
use Rattle.model.specs.Bytes.{Paged, paged_fresh}

-- How a pager was opened: what the store below meant then, how many slots its top has,
-- and how many pages its bottom has at most.
pub record Setting : Type 0 where
  pub first : Meaning
  pub slots : ℕ
  pub bottom : ℕ

-- How many pages the store below has.
abbrev pub pages_of : Setting → ℕ
pages_of s = length s.first.bytes

-- The bytes that page q had below when the pager was opened.
abbrev pub first_bytes : Setting → ℕ → List ℕ
first_bytes s q = slice_index_or s.first.bytes q []

-- A pager so opened that has taken no call, under a rule that tells this state.
abbrev pub untouched : Setting → ℕ → Paged
untouched s told = paged_fresh told (first_bytes s)
