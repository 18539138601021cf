use Rattle.std.specs.Prelude.{ℕ, cond, ◌&&◌, List, [], ◌∷◌, map, length, ◌==◌, slice_index_or}
use Rattle.std.specs.List.{range_with_len}
use Rattle.store.specs.declared.tallies.Tallies.{Tallies}
use Rattle.store.specs.Meaning.{Meaning}
use Rattle.pager.specs.declared.frame.Frame.{Frame}
use Rattle.pager.specs.declared.works.Works.{Works}
use Rattle.pager.specs.Frames.{taken}
use Rattle.pager.specs.Shows.{frames_of}

-- The bytes of page q: those of the frame that holds it, and else those below.
abbrev pub bytes_of : List Frame → ℕ → List ℕ → List ℕ
bytes_of [] q below = below
bytes_of (f ∷ t) q below = cond (taken f.links.part && f.page == q) f.bytes (bytes_of t q below)

-- The byte book of a frame table over a store's pages.
abbrev pub book_in : List Frame → List (List ℕ) → List (List ℕ)
book_in t below = map (λ q. bytes_of t q (slice_index_or below q [])) (range_with_len 0 (length below))

-- The byte book of a pager's works.
abbrev pub book_of : {S R : Type 0} → (S → Meaning) → Works S R → List (List ℕ)
book_of meaning p = book_in (frames_of p) (meaning p.below).bytes

-- What a pager means as a store: its byte book, and how many reads and writes it has accepted.
abbrev pub pager_meaning : {S R : Type 0} → (S → Meaning) → Works S R → Tallies → Meaning
pager_meaning meaning p t = record { bytes = book_of meaning p; tallies = t }
