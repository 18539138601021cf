-- A number that is printed at the right of its columns.
use Rattle.std.proofs.Common.{◌≡◌, ℕ, ◌-◌, ◌^◌, decimal, refl, ◌∙◌, lit<}
use Rattle.std.specs.Fmt.{styled_decimal, format_spec}
use Rattle.std.proofs.Padding.{styled_decimal_is, padded_integral_right}
use Rattle.fields.specs.Justified.{justified}

pub printed : (w n : ℕ) → styled_decimal (format_spec 32 3 0 w (2 ^ 64 - 1)) n ≡ justified w n
printed w n =
    let s = format_spec 32 3 0 w (2 ^ 64 - 1) in
    styled_decimal_is s n ∙ padded_integral_right s (decimal n) refl refl (λ e. cc) (λ e. cc) (lit< tt)
