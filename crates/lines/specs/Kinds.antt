use Rattle.std.specs.Prelude.{ℕ, cond, Some, None, Option, ◌==◌}
use Rattle.model.specs.declared.UseKind.{UseKind}
use Rattle.model.specs.declared.UseKind.TheVariants.{Read, Write}
use Rattle.lines.specs.declared.LineKind.{LineKind}
use Rattle.lines.specs.declared.LineKind.TheVariants.{Header, Use, Settle}

-- The letter of each kind of use: R and W.
abbrev pub letter_of : UseKind → ℕ
letter_of Read = 82
letter_of Write = 87

-- The kind of a line by its first letter: H, R, W or S.
abbrev pub kind_by : ℕ → Option LineKind
kind_by b =
    cond (b == 72) (Some Header)
    (cond (b == 82) (Some (Use Read))
    (cond (b == 87) (Some (Use Write))
    (cond (b == 83) (Some Settle)
    None)))

-- How long a line of each kind is, the byte that ends it left out.
abbrev pub length_of : LineKind → ℕ
length_of Header = 20
length_of (Use kind) = 6
length_of Settle = 1
