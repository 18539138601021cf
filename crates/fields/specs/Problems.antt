use Rattle.std.specs.Prelude.{ℕ}
use Rattle.fields.specs.declared.NumberProblem.{NumberProblem}
use Rattle.fields.specs.declared.NumberProblem.TheVariants.{NoDigit, Stray, LeadingZero, TooLarge}

-- The number by which each problem of a field is told.
abbrev pub number_of : NumberProblem → ℕ
number_of NoDigit = 11
number_of Stray = 12
number_of LeadingZero = 13
number_of TooLarge = 14
