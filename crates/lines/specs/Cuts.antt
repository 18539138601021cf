use Rattle.std.specs.Prelude.{ℕ, cond, List, length, Ok, Err, Result, ◌==◌, slice_index}
use Rattle.std.specs.List.{between}
use Rattle.model.specs.declared.UseKind.TheVariants.{Read, Write}
use Rattle.lines.specs.declared.LineFault.{LineFault}
use Rattle.lines.specs.declared.LineFault.TheVariants.{Shape}
use Rattle.lines.specs.declared.LineProblem.TheVariants.{UnknownLetter, WrongLength, HeaderPlace}
use Rattle.lines.specs.Parts.{Columns, Parts, header_parts, use_parts, settle_parts}

-- The columns from place i up to place j, which is left out. Places count from 0 and columns from 1.
abbrev pub columns : ℕ → ℕ → ℕ → ℕ → List ℕ → Columns
columns n column i j bs = record { bytes = between i j bs; line = n; column = column }

-- A line of a fixed length.
abbrev pub sized : ℕ → ℕ → List ℕ → Parts → Result Parts LineFault
sized n len bs parts = cond (length bs == len) (Ok parts) (Err (Shape WrongLength n 0))

-- A line that is no header: line 1 is none, and the others have a fixed length.
abbrev pub after_first : ℕ → ℕ → List ℕ → Parts → Result Parts LineFault
after_first n len bs parts = cond (n == 1) (Err (Shape HeaderPlace n 0)) (sized n len bs parts)

-- Line n cut into its parts. Its first letter is H, R, W or S; a header stands on line 1 and there
-- alone; and a header has 20 bytes, a use 6 and a settle 1, the byte that ends the line left out.
abbrev pub cut_line : ℕ → List ℕ → Result Parts LineFault
cut_line n bs =
    cond (slice_index bs 0 == 72)
    (cond (n == 1) (sized n 20 bs (header_parts (columns n 2 1 6 bs) (columns n 7 6 9 bs) (slice_index bs 9) (columns n 11 10 20 bs))) (Err (Shape HeaderPlace n 0)))
    (cond (slice_index bs 0 == 82) (after_first n 6 bs (use_parts Read (columns n 2 1 6 bs)))
    (cond (slice_index bs 0 == 87) (after_first n 6 bs (use_parts Write (columns n 2 1 6 bs)))
    (cond (slice_index bs 0 == 83) (after_first n 1 bs settle_parts)
    (Err (Shape UnknownLetter n 1)))))
