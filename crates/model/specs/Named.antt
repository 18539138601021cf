use Rattle.std.specs.Prelude.{ℕ, map}
use Rattle.model.specs.Order.{Order}

-- An order whose numbers are renamed: frames by the pages that they hold.
abbrev pub named : (ℕ → ℕ) → Order → Order
named f o = record { top = map f o.top; bottom = map f o.bottom; told = o.told }
