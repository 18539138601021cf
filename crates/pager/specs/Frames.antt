use Rattle.std.specs.Prelude.{◌≡◌, ℕ, ◌<◌, Bool, true, false, cond, List, [], length, replicate, None, slice_index_or}
use Rattle.links.specs.declared.Part.{Part}
use Rattle.links.specs.declared.Part.TheVariants.{Unused, Top, Bottom}
use Rattle.store.specs.Meaning.{Meaning, saved}
use Rattle.order.specs.Views.{Views, views_of}
use Rattle.pager.specs.declared.frame.Frame.{Frame}

-- A frame that holds nothing.
abbrev pub blank : Frame
blank = record { links = record { next = None; prev = None; part = Unused }; page = 0; dirty = false; bytes = [] }

-- A frame as it is laid out when a pager is opened: it holds no page.
abbrev pub idle : Frame
idle = record { links = record { next = None; prev = None; part = Unused }; page = 0; dirty = false; bytes = replicate 64 0 }

-- Frame i of a table.
abbrev pub at : List Frame → ℕ → Frame
at t i = slice_index_or t i blank

-- The page of frame i.
abbrev pub page_in : List Frame → ℕ → ℕ
page_in t i = (at t i).page

-- A frame without its seat: what it holds.
abbrev pub contents : Frame → Frame
contents f = record f { links = record { next = None; prev = None; part = Unused } }

-- A frame whose page is the same as below.
abbrev pub cleaned : Frame → Frame
cleaned f = record f { dirty = false }

-- A frame that has got its page's bytes from below.
abbrev pub filled : List ℕ → Frame → Frame
filled x f = record f { bytes = x }

-- A frame whose page was written.
abbrev pub written : List ℕ → Frame → Frame
written x f = record f { dirty = true; bytes = x }

-- The store below once a frame's page was saved there if it was dirty.
abbrev pub flushed : Frame → Meaning → Meaning
flushed f m = cond f.dirty (saved m f.page f.bytes) m

-- What the order reads of a frame table.
abbrev pub seats_of : List Frame → Views
seats_of t = views_of (λ (f : Frame). f.links) t

-- Whether a frame in this part holds a page.
abbrev pub taken : Part → Bool
taken Unused = false
taken Top = true
taken Bottom = true

-- Frame i holds page p.
pub record In (t : List Frame) (p i : ℕ) : Type 0 where
  pub within : i < length t
  pub held : taken (at t i).links.part ≡ true
  pub here : page_in t i ≡ p

-- No frame holds page p.
abbrev pub Absent : List Frame → ℕ → Type 0
Absent t p = (i : ℕ) → In t p i → ⊥

-- No page is in two frames.
abbrev pub Apart : List Frame → Type 0
Apart t = (p i j : ℕ) → In t p i → In t p j → i ≡ j
