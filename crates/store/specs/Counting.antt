use Rattle.std.specs.Prelude.{ℕ, ◌+◌, ◌%◌, Ok, Err, Result}
use Rattle.store.specs.declared.StoreRefusal.{StoreRefusal}
use Rattle.store.specs.declared.tallies.Tallies.{Tallies}

-- A tally after one more: it comes back to 0 after 4,294,967,295.
abbrev pub counted : ℕ → ℕ
counted n = (n + 1) % 4294967296

-- The tallies after one more accepted fetch.
abbrev pub one_fetch : Tallies → Tallies
one_fetch t = record t { fetches = counted t.fetches }

-- The tallies after one more accepted save.
abbrev pub one_save : Tallies → Tallies
one_save t = record t { saves = counted t.saves }

-- A tally after a call that answered r: only an accepted call is counted.
abbrev pub tick : Result (Unit {0}) StoreRefusal → ℕ → ℕ
tick (Ok u) n = counted n
tick (Err e) n = n
