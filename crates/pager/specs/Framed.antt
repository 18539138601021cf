use Rattle.std.specs.Prelude.{◌≡◌, ℕ, ◌<◌, Bool, false, cond, ◌≢◌, List, [], ◌∷◌, ◌++◌, map, length, ◌==◌, slice_index}
use Rattle.links.specs.declared.Part.TheVariants.{Unused}
use Rattle.model.specs.Order.{Rule, Order, used}
use Rattle.model.specs.Named.{named}
use Rattle.order.specs.declared.parts.TwoParts.{TwoParts}
use Rattle.order.specs.Stands.{Stands}
use Rattle.order.specs.Steps.{without_last, asked}
use Rattle.pager.specs.declared.frame.Frame.{Frame}
use Rattle.pager.specs.Frames.{at, page_in, contents, seats_of, In}

-- A frame table shows an order of pages: its frames stand for an order of frames, and the pages that they hold are those of o.
pub record Framed {X : Type 0} (told : X → ℕ) (c : TwoParts X) (t : List Frame) (o : Order) : Type 0 where
  pub seats : Order
  pub stands : Stands told c (seats_of t) seats
  pub names : o ≡ named (page_in t) seats

-- No frame but i holds the page that frame i is named after.
abbrev pub Alone : List Frame → ℕ → Type 0
Alone t i = (j : ℕ) → In t (page_in t i) j → j ≡ i

-- The same frames, differently seated.
abbrev pub SameContents : List Frame → List Frame → Type 0
SameContents t u = map contents u ≡ map contents t

-- The name of a page once page p has taken the place of page q.
abbrev pub replacing : ℕ → ℕ → ℕ → ℕ
replacing q p x = cond (x == q) p x

-- A frame named after page p, which is clean.
abbrev pub renamed : ℕ → Frame → Frame
renamed p f = record f { page = p; dirty = false }

-- A frame whose page is dirty, or clean.
abbrev pub marked : Bool → Frame → Frame
marked d f = record f { dirty = d }

-- Frame i took its seat in a table that showed the order o: the page that it is named after was used.
pub record Sat {X : Type 0} (told : X → ℕ) (r : Rule) (k : ℕ) (t : List Frame) (o : Order) (i : ℕ) (c' : TwoParts X) (t' : List Frame) : Type 0 where
  pub shows : Framed told c' t' (used r k (page_in t i) o)
  pub here : In t' (page_in t i) i
  pub others : (q j : ℕ) → j ≢ i → In t' q j → In t q j

-- Frame i, which held the oldest page of the bottom, is in no part any more.
pub record Released {X : Type 0} (told : X → ℕ) (t : List Frame) (o : Order) (i : ℕ) (c' : TwoParts X) (t' : List Frame) : Type 0 where
  pub within : i < length t
  pub was : In t (page_in t i) i
  pub oldest : o.bottom ≡ (without_last o).bottom ++ page_in t i ∷ []
  pub idle : (at t' i).links.part ≡ Unused
  pub shows : Framed told c' t' (without_last o)

-- Frame i was released, and no frame holds a page that it did not hold before.
pub record Left {X : Type 0} (told : X → ℕ) (t : List Frame) (o : Order) (i : ℕ) (c' : TwoParts X) (t' : List Frame) : Type 0 where
  pub released : Released told t o i c' t'
  pub before : (q j : ℕ) → In t' q j → In t q j

-- Frame i is in the slot that the rule names, and the rule was asked.
pub record Slotted {X : Type 0} (told : X → ℕ) (r : Rule) (k : ℕ) (t : List Frame) (o : Order) (i : ℕ) (c' : TwoParts X) : Type 0 where
  pub held : In t (page_in t i) i
  pub page : page_in t i ≡ slice_index o.top (r.slot o.told k)
  pub shows : Framed told c' t (asked r k o)
