use Rattle.std.specs.Prelude.{cond, ℕ, ◌+◌, ◌%◌, eqb}

-- The oldest rule in state s names the slot whose number is s, counted round the top.
abbrev pub oldest_slot : ℕ → ℕ → ℕ
oldest_slot s k = cond (eqb k 0) 0 (s % k)

-- Its next state is the slot after the one that it named.
abbrev pub oldest_next : ℕ → ℕ → ℕ
oldest_next s k = cond (eqb k 0) s ((s % k + 1) % k)
