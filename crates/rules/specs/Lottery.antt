use Rattle.std.specs.Prelude.{cond, ℕ, ◌+◌, ◌*◌, ◌/◌, ◌%◌, eqb}

-- The number that follows s in the sequence of draws.
abbrev pub drawn : ℕ → ℕ
drawn s = (s * 1664525 + 1013904223) % 4294967296

-- The lottery draws first, and the upper half of what is drawn names the slot.
abbrev pub lottery_slot : ℕ → ℕ → ℕ
lottery_slot s k = cond (eqb k 0) 0 ((drawn s / 65536) % k)

-- Its next state is what was drawn.
abbrev pub lottery_next : ℕ → ℕ → ℕ
lottery_next s k = cond (eqb k 0) s (drawn s)
