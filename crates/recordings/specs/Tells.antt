use Rattle.std.specs.Prelude.{ℕ, List, ◌++◌}
use Rattle.fields.specs.Justified.{justified}
use Rattle.fields.specs.Problems.{number_of as field_number}
use Rattle.lines.specs.declared.LineFault.{LineFault}
use Rattle.lines.specs.declared.LineFault.TheVariants.{Field, Shape}
use Rattle.lines.specs.Problems.{number_of as line_number}
use Rattle.recordings.specs.declared.Told.{Told}
use Rattle.recordings.specs.declared.RunFault.{RunFault}
use Rattle.recordings.specs.declared.RunFault.TheVariants.{Line, TooLong, TableShort}

-- What a fault of a line tells: its number and its place.
abbrev pub line_tells : LineFault → Told
line_tells (Field f) = record { number = field_number f.problem; line = f.line; column = f.column }
line_tells (Shape problem line column) = record { number = line_number problem; line = line; column = column }

-- What a fault of a recording tells. One that belongs to no line is told at line 0, column 0.
abbrev pub tells_of : RunFault → Told
tells_of (Line e) = line_tells e
tells_of TooLong = record { number = 35; line = 0; column = 0 }
tells_of TableShort = record { number = 5; line = 0; column = 0 }

-- A fault as it is printed: its number in 4 columns, its line in 6 and its column in 4.
abbrev pub told_text : Told → List ℕ
told_text t = justified 4 t.number ++ (justified 6 t.line ++ justified 4 t.column)
