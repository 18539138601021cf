use Rattle.std.specs.Prelude.{ℕ, cond, not, ◌||◌, List, Ok, Err, Result, ◌==◌}
use Rattle.std.specs.Int.{is_in_range}
use Rattle.fields.specs.declared.FieldFault.{FieldFault}
use Rattle.fields.specs.Numbers.{read_number}
use Rattle.lines.specs.declared.Header.{Header}
use Rattle.lines.specs.declared.LineFault.{LineFault}
use Rattle.lines.specs.declared.LineFault.TheVariants.{Field, Shape}
use Rattle.lines.specs.declared.LineProblem.TheVariants.{HeaderPlace, PageCount, TopSize, RuleLetter}
use Rattle.lines.specs.Parts.{Columns, Parts, header_parts, use_parts, settle_parts}
use Rattle.lines.specs.Cuts.{cut_line}

-- What is done with the number in a field; a field's fault travels whole in the line's.
abbrev pub with_field : {T : Type 0} → Result ℕ FieldFault → (ℕ → Result T LineFault) → Result T LineFault
with_field (Ok v) next = next v
with_field (Err e) next = Err (Field e)

-- The number in some columns.
abbrev pub number_in : Columns → Result ℕ FieldFault
number_in f = read_number f.line f.column f.bytes

-- What is done with the parts of a line.
abbrev pub with_parts : {T : Type 0} → Result Parts LineFault → (Parts → Result T LineFault) → Result T LineFault
with_parts (Ok parts) next = next parts
with_parts (Err e) next = Err e

-- A header has from 1 to 512 pages, a top of 1 to 64, and the letter O or L for its rule.
abbrev pub in_range : Header → Result Header LineFault
in_range h =
    cond (not (is_in_range 1 512 h.pages)) (Err (Shape PageCount 1 6))
    (cond (not (is_in_range 1 64 h.top)) (Err (Shape TopSize 1 9))
    (cond (h.rule == 79 || h.rule == 76) (Ok h)
    (Err (Shape RuleLetter 1 10))))

-- The header that the parts of line 1 tell: each number from the left, and then their ranges.
abbrev pub header_from : Parts → Result Header LineFault
header_from (header_parts pages top rule seed) =
    with_field (number_in pages) (λ p. with_field (number_in top) (λ t. with_field (number_in seed) (λ s.
    in_range (record { pages = p; top = t; rule = rule; seed = s }))))
header_from (use_parts kind page) = Err (Shape HeaderPlace 1 0)
header_from settle_parts = Err (Shape HeaderPlace 1 0)

-- The header on line 1.
abbrev pub read_header : List ℕ → Result Header LineFault
read_header bs = with_parts (cut_line 1 bs) header_from

-- The same, under a name that stays shut.
unfoldable pub header_of : List ℕ → Result Header LineFault
header_of bs = read_header bs
