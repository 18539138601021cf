use Rattle.std.specs.Prelude.{ℕ, ◌-◌, cond, List, [], ◌∷◌, ◌++◌, length, Some, None, Option, nat_lt, slice_index, slice_set}
use Rattle.lists.specs.Weights.{has}
use Rattle.lists.specs.Places.{without, place}

-- A top rule as two functions of its told state and the number of slots:
-- the slot that it names, and its next state.
pub record Rule : Type 0 where
  pub slot : ℕ → ℕ → ℕ
  pub next : ℕ → ℕ → ℕ

-- A rule's two functions together.
abbrev pub rule_of : (ℕ → ℕ → ℕ) → (ℕ → ℕ → ℕ) → Rule
rule_of slot next = record { slot = slot; next = next }

-- Where the pages are. The top is the pages of its slots, the lowest slot first; its pages are used unnoticed.
-- The bottom is the pages that left the top, the newest first. The rule is in the state that it tells.
pub record Order : Type 0 where
  pub top : List ℕ
  pub bottom : List ℕ
  pub told : ℕ

-- No page is anywhere yet.
abbrev pub fresh : ℕ → Order
fresh told = record { top = []; bottom = []; told = told }

-- Page p takes the lowest empty slot, and nothing leaves.
abbrev pub entered : ℕ → Order → Order
entered p o = record { top = o.top ++ p ∷ []; bottom = o.bottom; told = o.told }

-- The rule names a slot of the full top. Page p is taken out of the bottom if it is there,
-- the slot's page becomes the newest of the bottom, and p takes the slot.
abbrev pub exchanged : Rule → ℕ → ℕ → Order → Order
exchanged r k p o = record {
  top = slice_set o.top (r.slot o.told k) p;
  bottom = slice_index o.top (r.slot o.told k) ∷ without p o.bottom;
  told = r.next o.told k;
}

-- A use of page p under a top of k slots, the bottom being without limit.
-- A page in the top is used unnoticed.
abbrev pub used : Rule → ℕ → ℕ → Order → Order
used r k p o = cond (has p o.top) o (cond (nat_lt (length o.top) k) (entered p o) (exchanged r k p o))

-- The depth of a page: 0 in the top, its place in the bottom from 1, and none if it was never used.
abbrev pub depth_of : ℕ → Order → Option ℕ
depth_of p o = cond (has p o.top) (Some 0) (cond (has p o.bottom) (Some (place p o.bottom)) None)

-- The slot of a page in the top, counted from 0, and none if it is not there.
abbrev pub slot_of : ℕ → Order → Option ℕ
slot_of p o = cond (has p o.top) (Some (place p o.top - 1)) None
