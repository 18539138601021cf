use Rattle.std.specs.Prelude.{◌≡◌, ℕ, ◌+◌, ◌%◌, cond, List, length, Ok, Err, Result, ◌==◌}
use Rattle.store.specs.declared.StoreRefusal.{StoreRefusal}
use Rattle.store.specs.declared.StoreRefusal.TheVariants.{NoSuchPage}
use Rattle.store.specs.Meaning.{Meaning}
use Rattle.store.specs.Uses.{Outcome}

-- A tally after n more.
abbrev pub risen : ℕ → ℕ → ℕ
risen tally n = (tally + n) % 4294967296

-- A store of which every page was fetched once.
abbrev pub read_through : Meaning → Meaning
read_through m = record m { tallies = record m.tallies { fetches = risen m.tallies.fetches (length m.bytes) } }

-- A store to every page of which those bytes were saved, once.
abbrev pub written_over : Meaning → List (List ℕ) → Meaning
written_over m bytes = record { bytes = bytes; tallies = record m.tallies { saves = risen m.tallies.saves (length bytes) } }

-- A copy of the store a into the store b that answered r. Where one has a page that the other lacks
-- it is refused, and both are as they were.
pub record Copied (a b : Meaning) (r : Result (Unit {0}) StoreRefusal) (a2 b2 : Meaning) : Type 0 where
  pub answered : r ≡ cond (length a.bytes == length b.bytes) (Ok tt) (Err NoSuchPage)
  pub effect : Outcome r ((a2 ≡ read_through a) × (b2 ≡ written_over b a.bytes)) ((a2 ≡ a) × (b2 ≡ b))
