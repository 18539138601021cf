use Rattle.std.specs.Prelude.{ℕ}
use Rattle.census.specs.declared.refusal.CensusRefusal.{CensusRefusal}
use Rattle.census.specs.declared.refusal.CensusRefusal.TheVariants.{PageCount, TopSize, ShortTable, NoSuchPage, NoSuchRow}

-- The number of each refusal.
abbrev pub number_of : CensusRefusal → ℕ
number_of PageCount = 31
number_of TopSize = 4
number_of ShortTable = 5
number_of NoSuchPage = 2
number_of NoSuchRow = 6
