-- The lines of a recording that is parsed.
use Rattle.std.proofs.Common.{◌≡◌, ℕ, true, List, [], Ok, is_ok, Result, sym, ap, ◌∙◌}
use Rattle.std.specs.List.{list_all}
use Rattle.lines.specs.declared.CallRecord.{CallRecord}
use Rattle.lines.specs.declared.LineFault.{LineFault}
use Rattle.recordings.specs.Passes.{later_lines, calls_in}
use Rattle.std.specs.Result.{ok_prefix}
use Rattle.recordings.specs.InTurn.{told_in, all_calls}
use Rattle.recordings.proofs.InTurn.{whole_calls}

-- The calls on the lines after the header are those that the lines tell in their turn.
pub lines_at : (bs rest : List ℕ) (pages : ℕ) (qs : List (Result CallRecord LineFault)) → qs ≡ told_in pages 2 rest → rest ≡ later_lines bs → calls_in pages (later_lines bs) ≡ all_calls [] qs
unfolding calls_in
lines_at bs rest pages qs e r = ap (calls_in pages) (sym r) ∙ ap (all_calls []) (sym e)

-- Where none is at fault, they are the calls among what the lines tell.
pub whole_at : (rest : List ℕ) (pages : ℕ) (qs : List (Result CallRecord LineFault)) (cs : List CallRecord) → qs ≡ told_in pages 2 rest → all_calls [] qs ≡ Ok cs → (list_all is_ok (told_in pages 2 rest) ≡ true) × (cs ≡ ok_prefix (told_in pages 2 rest))
whole_at rest pages qs cs e a = let w = whole_calls [] qs cs a in (ap (list_all is_ok) (sym e) ∙ w.sound, w.are ∙ ap ok_prefix e)
