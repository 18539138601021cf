use Rattle.std.specs.Prelude.{ℕ, ◌+◌}
use Rattle.model.specs.declared.UseKind.{UseKind}
use Rattle.model.specs.declared.UseKind.TheVariants.{Read, Write}
use Rattle.model.specs.Ledger.{Ledger}
use Rattle.model.specs.Rows.{above, row_fetches}

-- The faults of one kind of use: the reads are the fetches, and the writes are new or at depths above l.
abbrev pub row_misses : UseKind → ℕ → Ledger → ℕ
row_misses Read l b = row_fetches l b
row_misses Write l b = b.new_writes + above l b.writes
