use Rattle.std.specs.Prelude.{ℕ, ◌+◌, cond, not, List, [], ◌++◌, length, take, drop, Some, None, Option, Err, Result, ◌==◌, nat_lt}
use Rattle.std.specs.Result.{result_map_both}
use Rattle.std.specs.List.{prefix_len}
use Rattle.lines.specs.declared.Header.{Header}
use Rattle.lines.specs.declared.CallRecord.{CallRecord}
use Rattle.lines.specs.declared.LineFault.{LineFault}
use Rattle.lines.specs.declared.LineFault.TheVariants.{Shape}
use Rattle.lines.specs.declared.LineProblem.TheVariants.{HeaderPlace, NoEnd}
use Rattle.lines.specs.Headers.{header_of}
use Rattle.recordings.specs.InTurn.{told_in, all_calls}

-- How many bytes stand before the first byte 10.
abbrev pub line_length : List ℕ → ℕ
line_length bs = prefix_len (λ b. not (b == 10)) bs

-- The place of the first byte 10, if there is one.
abbrev pub end_in : List ℕ → Option ℕ
end_in bs = cond (nat_lt (line_length bs) (length bs)) (Some (line_length bs)) None

-- The header of a recording. Without a byte it has no header, and without a byte 10 no line that ends.
abbrev pub read_first : List ℕ → Result Header LineFault
read_first bs =
    cond (length bs == 0) (Err (Shape HeaderPlace 1 0))
    (cond (nat_lt (line_length bs) (length bs)) (header_of (take (line_length bs) bs))
    (Err (Shape NoEnd 1 0)))

-- The same, under a name that stays shut.
unfoldable pub first_header : List ℕ → Result Header LineFault
first_header bs = read_first bs

-- What stands after line 1.
abbrev pub later_lines : List ℕ → List ℕ
later_lines bs = drop (line_length bs + 1) bs

-- The calls on the lines after the header, which begin with line 2.
unfoldable pub calls_in : ℕ → List ℕ → Result (List CallRecord) LineFault
calls_in pages bs = all_calls [] (told_in pages 2 bs)

-- How many calls they are.
abbrev pub counted : Result (List CallRecord) LineFault → Result ℕ LineFault
counted cs = result_map_both length (λ e. e) cs

-- A table whose first records are the calls, and whose others are as they were.
abbrev pub put_first : List CallRecord → List CallRecord → List CallRecord
put_first cs table = cs ++ drop (length cs) table
