use Rattle.std.specs.Prelude.{ℕ, cond, List, Ok, Err, Result, nat_lt}
use Rattle.lines.specs.declared.CallRecord.{CallRecord}
use Rattle.lines.specs.declared.LineFault.{LineFault}
use Rattle.lines.specs.declared.LineFault.TheVariants.{Shape}
use Rattle.lines.specs.declared.LineProblem.TheVariants.{HeaderPlace, NoSuchPage}
use Rattle.lines.specs.Kinds.{letter_of}
use Rattle.lines.specs.Parts.{Parts, header_parts, use_parts, settle_parts}
use Rattle.lines.specs.Cuts.{cut_line}
use Rattle.lines.specs.Headers.{with_field, with_parts, number_in}

-- The call that the parts of line n tell, where the header has so many pages: a use has the
-- letter of its kind and a page below that count, a settle the letter S and page 0.
abbrev pub call_from : ℕ → ℕ → Parts → Result CallRecord LineFault
call_from n pages (header_parts a b rule c) = Err (Shape HeaderPlace n 0)
call_from n pages (use_parts kind page) =
    with_field (number_in page) (λ p. cond (nat_lt p pages) (Ok (record { letter = letter_of kind; page = p })) (Err (Shape NoSuchPage n 6)))
call_from n pages settle_parts = Ok (record { letter = 83; page = 0 })

-- The call on line n.
abbrev pub read_call : ℕ → ℕ → List ℕ → Result CallRecord LineFault
read_call n pages bs = with_parts (cut_line n bs) (call_from n pages)

-- The same, under a name that stays shut.
unfoldable pub call_of : ℕ → ℕ → List ℕ → Result CallRecord LineFault
call_of n pages bs = read_call n pages bs
