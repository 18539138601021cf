use Rattle.std.proofs.Common.{◌≡◌, ◌++◌, string_bytes}
use Rattle.std.specs.List.{range_with_len as up_to, flat_map}
use Rattle.model.specs.Ledger.{Ledger}
use Rattle.model.specs.Rows.{row_of}
use Rattle.counting.specs.Counted.{pages_in, slots_in, KeepsIn}
use Rattle.listings.specs.Text.{row_line, heading}
use Rattle.listings.proofs.rows.Given as goal

abbrev pub invariant-loop-l : goal.invariant-loop-l
invariant-loop-l l = (b : Ledger) → KeepsIn l.counted l.table l.counts b → string_bytes l.text ≡ heading ++ flat_map (λ i. row_line i (row_of (pages_in l.counted) (slots_in l.counted) i b)) (up_to 0 l.l)
