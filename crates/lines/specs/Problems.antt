use Rattle.std.specs.Prelude.{ℕ}
use Rattle.lines.specs.declared.LineProblem.{LineProblem}
use Rattle.lines.specs.declared.LineProblem.TheVariants.{UnknownLetter, WrongLength, HeaderPlace, NoEnd, PageCount, TopSize, RuleLetter, NoSuchPage}

-- The number by which each problem of a line is told.
abbrev pub number_of : LineProblem → ℕ
number_of UnknownLetter = 21
number_of WrongLength = 22
number_of HeaderPlace = 23
number_of NoEnd = 24
number_of PageCount = 31
number_of TopSize = 32
number_of RuleLetter = 33
number_of NoSuchPage = 34
