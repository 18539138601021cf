use Rattle.std.specs.Prelude.{◌≡◌, ℕ, ◌<◌, false, cond, ◌≢◌, List, [], ◌∷◌, length, slice_set}
use Rattle.model.specs.Order.{Rule, Order, used}
use Rattle.model.specs.Pager.{cut, evicted}
use Rattle.order.specs.declared.parts.TwoParts.{TwoParts}
use Rattle.pager.specs.declared.frame.Frame.{Frame}
use Rattle.pager.specs.Frames.{at, contents, taken, In}
use Rattle.pager.specs.Framed.{Framed, renamed}

-- The page that a frame holds, as a list: none where it holds none.
abbrev pub held_by : Frame → List ℕ
held_by f = cond (taken f.links.part) (f.page ∷ []) []

-- Frame i is free for page p, in a table t that showed the order o and is u now. What the pager's use of p drives out
-- is what the frame held; and once the frame is named after p, a use of p leads to the order that the pager's use of p leads to.
pub record Vacant {X : Type 0} (told : X → ℕ) (r : Rule) (k l : ℕ) (t : List Frame) (o : Order) (p i : ℕ) (c : TwoParts X) (u : List Frame) : Type 0 where
  pub within : i < length t
  pub before : (q j : ℕ) → In u q j → In t q j
  pub drives : evicted r k l p o ≡ held_by (at t i)
  pub between : Order
  pub shows : Framed told c (slice_set u i (renamed p (at u i))) between
  pub leads : used r k p between ≡ cut l (used r k p o)

-- Frame i took page p in a table t whose frame i, once it was named after p, showed the order o: p was used.
-- Every other page is in the frame that it was in, which holds what it held, and p's frame is clean.
pub record Taken {X : Type 0} (told : X → ℕ) (r : Rule) (k : ℕ) (t : List Frame) (o : Order) (i p : ℕ) (c : TwoParts X) (u : List Frame) : Type 0 where
  pub shows : Framed told c u (used r k p o)
  pub here : In u p i
  pub clean : (at u i).dirty ≡ false
  pub others : (q j : ℕ) → q ≢ p → In u q j → (j ≢ i) × In t q j × (contents (at u j) ≡ contents (at t j))
