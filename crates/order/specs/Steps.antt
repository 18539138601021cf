use Rattle.std.specs.Prelude.{ℕ, ◌-◌, length, take}
use Rattle.model.specs.Order.{Rule, Order}

-- An order without the last of its bottom, its oldest.
abbrev pub without_last : Order → Order
without_last o = record { top = o.top; bottom = take (length o.bottom - 1) o.bottom; told = o.told }

-- An order whose rule was asked for a slot, under a top of k slots, and nothing else was done.
abbrev pub asked : Rule → ℕ → Order → Order
asked r k o = record { top = o.top; bottom = o.bottom; told = r.next o.told k }
