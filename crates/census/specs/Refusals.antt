use Rattle.std.specs.Prelude.{ℕ, ◌+◌, ◌*◌, cond, ◌||◌, Ok, Err, Result, ◌==◌, nat_lt}
use Rattle.model.specs.declared.Call.{Call}
use Rattle.model.specs.declared.Call.TheVariants.{Use, Settle}
use Rattle.census.specs.declared.refusal.CensusRefusal.{CensusRefusal}
use Rattle.census.specs.declared.refusal.CensusRefusal.TheVariants.{PageCount, TopSize, ShortTable, NoSuchPage, NoSuchRow}

-- How many places of the count table a census of n pages needs.
abbrev pub needed : ℕ → ℕ
needed n = 3 * (n + 1)

-- Whether tables of these lengths are long enough for n pages.
abbrev pub may_keep : ℕ → ℕ → ℕ → Result (Unit {0}) CensusRefusal
may_keep n records places = cond (nat_lt records n || nat_lt places (needed n)) (Err ShortTable) (Ok tt)

-- Opening for n pages and k slots: the page count, then the top, then the tables.
abbrev pub may_open : ℕ → ℕ → ℕ → ℕ → Result (Unit {0}) CensusRefusal
may_open n k records places =
    cond (n == 0 || nat_lt 512 n) (Err PageCount) (cond (k == 0 || nat_lt 64 k) (Err TopSize) (may_keep n records places))

-- A shown use: the tables, then the page.
abbrev pub may_show : ℕ → ℕ → ℕ → ℕ → Result (Unit {0}) CensusRefusal
may_show n records places page =
    cond (nat_lt records n || nat_lt places (needed n)) (Err ShortTable) (cond (nat_lt page n) (Ok tt) (Err NoSuchPage))

-- A shown call of either kind.
abbrev pub may_take : ℕ → ℕ → ℕ → Call → Result (Unit {0}) CensusRefusal
may_take n records places (Use kind page) = may_show n records places page
may_take n records places Settle = may_keep n records places

-- A row: the tables, then the bottom size.
abbrev pub may_ask : ℕ → ℕ → ℕ → ℕ → Result (Unit {0}) CensusRefusal
may_ask n records places l =
    cond (nat_lt records n || nat_lt places (needed n)) (Err ShortTable) (cond (nat_lt n l) (Err NoSuchRow) (Ok tt))
