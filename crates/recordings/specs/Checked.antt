use Rattle.std.specs.Prelude.{◌≡◌, ℕ, ◌≤◌, true, List, length, is_ok}
use Rattle.std.specs.List.{list_all}
use Rattle.lines.specs.declared.Header.{Header}
use Rattle.lines.specs.Fit.{HeaderFit}
use Rattle.std.specs.Result.{ok_prefix}
use Rattle.recordings.specs.InTurn.{told_in}

-- A header and the lines after it that were checked to their end: the header is in range,
-- there are at most 60,000 bytes, no line is at fault, and the calls were counted.
pub record IsChecked (h : Header) (rest : List ℕ) (count : ℕ) : Type 0 where
  pub fit : HeaderFit h
  pub short : length rest ≤ 60000
  pub sound : list_all is_ok (told_in h.pages 2 rest) ≡ true
  pub counted : count ≡ length (ok_prefix (told_in h.pages 2 rest))
