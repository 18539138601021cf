use Rattle.std.specs.Prelude.{◌≡◌, ℕ, ◌<◌, ◌⊎◌}
use Rattle.std.specs.Int.{IsInRange}
use Rattle.lines.specs.declared.Header.{Header}
use Rattle.lines.specs.declared.CallRecord.{CallRecord}

-- A header with 1 to 512 pages, a top of 1 to 64 and the letter of a rule, O or L.
pub record HeaderFit (h : Header) : Type 0 where
  pub pages : IsInRange 1 512 h.pages
  pub top : IsInRange 1 64 h.top
  pub rule : (h.rule ≡ 79) ⊎ (h.rule ≡ 76)

-- A call that stands in a recording of so many pages: R or W with one of them, or S with page 0.
abbrev pub CallFit : ℕ → CallRecord → Type 0
CallFit pages c = (((c.letter ≡ 82) ⊎ (c.letter ≡ 87)) × (c.page < pages)) ⊎ ((c.letter ≡ 83) × (c.page ≡ 0))
