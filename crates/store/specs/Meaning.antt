use Rattle.std.specs.Prelude.{ℕ, List, slice_set}
use Rattle.store.specs.declared.tallies.Tallies.{Tallies}
use Rattle.store.specs.Counting.{one_fetch, one_save}

-- What a store means: the bytes of each of its pages, and how many fetches and saves it has accepted.
-- The number of its pages is the length of `bytes`.
pub record Meaning : Type 0 where
  pub bytes : List (List ℕ)
  pub tallies : Tallies

-- A store after an accepted fetch: one fetch more, and nothing else.
abbrev pub fetched : Meaning → Meaning
fetched m = record m { tallies = one_fetch m.tallies }

-- A store after an accepted save of x to page p: one save more, and that page holds x.
abbrev pub saved : Meaning → ℕ → List ℕ → Meaning
saved m p x = record { bytes = slice_set m.bytes p x; tallies = one_save m.tallies }
