use Rattle.std.specs.Prelude.{ℕ, ◌+◌, ◌-◌, ◌^◌, min}
use Rattle.fields.specs.declared.NumberProblem.{NumberProblem}
use Rattle.fields.specs.declared.FieldFault.{FieldFault}

-- The column of the byte at place i, counted from 0, of a field that begins at some column.
-- A column past the largest number of 64 bits, which no recording has, is told as that number.
abbrev pub column_at : ℕ → ℕ → ℕ
column_at column i = min (column + i) (2 ^ 64 - 1)

-- A problem of the byte at place i of a field that begins at a line's column.
abbrev pub fault_at : NumberProblem → ℕ → ℕ → ℕ → FieldFault
fault_at problem line column i = record { problem = problem; line = line; column = column_at column i }
