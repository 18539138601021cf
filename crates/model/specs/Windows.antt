use Rattle.std.specs.Prelude.{ℕ, max, Bool, false, not, List, ◌∷◌, Some, None, Option, nat_lt}
use Rattle.lists.specs.Weights.{one}
use Rattle.lists.specs.Places.{place}
use Rattle.model.specs.Order.{Order}

-- A write opens a window on its page, and the next write to the page, or a settle, ends it.
-- The mark of an open window is the greatest depth that the page has had since the write.
-- A page without an open window has no mark.

-- A mark after its page was seen at depth d.
abbrev pub raised : Option ℕ → ℕ → Option ℕ
raised None d = None
raised (Some m) d = Some (max m d)

-- The marks after every page was seen where it now is.
abbrev pub watched : Order → (ℕ → Option ℕ) → ℕ → Option ℕ
watched o marks q = raised (marks q) (place q o.bottom)

-- 1 for an open window.
abbrev pub is_open : Option ℕ → ℕ
is_open None = 0
is_open (Some m) = 1

-- 1 for an open window with a mark above l.
abbrev pub over : ℕ → Option ℕ → ℕ
over l None = 0
over l (Some m) = one (nat_lt l m)

-- Whether a window is open with a mark of at most l.
abbrev pub shallow : ℕ → Option ℕ → Bool
shallow l None = false
shallow l (Some m) = not (nat_lt l m)

-- A list of depths with one more at its head, where there is one.
abbrev pub noted : Option ℕ → List ℕ → List ℕ
noted None xs = xs
noted (Some d) xs = d ∷ xs

-- 1 where there is no depth.
abbrev pub absent : Option ℕ → ℕ
absent None = 1
absent (Some d) = 0
