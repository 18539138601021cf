-- A pager that was just opened.
use Rattle.std.proofs.Common.{◌≡◌, ℕ, ◌+◌, ◌<◌, List, length, get_or, replicate, sym, refl, ap, ◌∙◌, arith}
use Rattle.std.proofs.lemmas.List.{length-replicate, get_or-replicate, get_or-map}
use Rattle.std.proofs.lemmas.Bool.{true≢false}
use Rattle.links.specs.declared.Part.TheVariants.{Unused}
use Rattle.model.specs.Order.{fresh}
use Rattle.model.proofs.Uses.{sound_fresh}
use Rattle.model.proofs.Bytes.{kept_fresh}
use Rattle.store.specs.Meaning.{Meaning}
use Rattle.store.specs.Sized.{Sized}
use Rattle.order.specs.declared.parts.TwoParts.{TwoParts}
use Rattle.order.specs.Views.{Views}
use Rattle.order.specs.Stands.{AllUnused, Stands}
use Rattle.pager.specs.declared.frame.Frame.{Frame}
use Rattle.pager.specs.Frames.{blank, idle, at, seats_of, taken, In}
use Rattle.pager.specs.Seats.{Seated}
use Rattle.pager.specs.Settings.{Setting, pages_of, first_bytes, untouched}
use Rattle.pager.specs.declared.works.UseCounts.{UseCounts}
use Rattle.pager.specs.declared.works.Works.{Works}
use Rattle.pager.specs.Booked.{Booked}
use Rattle.pager.specs.Shows.{frames_of, FramesShow, Shows}

-- Frames that were just laid out, under parts that were just made.
module _ {X : Type 0} (told : X → ℕ) (state : ℕ) (c : TwoParts X) (count : ℕ) (t : List Frame) (laid : t ≡ replicate count idle)
    (stands : (v : Views) → AllUnused v → Stands told c v (fresh state)) where
  long : length t ≡ count
  long = ap length laid ∙ length-replicate count idle

  each_idle : (i : ℕ) → i < length t → at t i ≡ idle
  each_idle i low = ap (λ xs. get_or xs i blank) laid ∙ get_or-replicate count i idle blank (omega (arith, long))

  none_held : (q i : ℕ) → In t q i → ⊥
  none_held q i h = true≢false (sym h.held ∙ ap (λ (f : Frame). taken f.links.part) (each_idle i h.within))

  unused : AllUnused (seats_of t)
  unused q low = get_or-map (λ (f : Frame). f.links.part) t q blank Unused low ∙ ap (λ (f : Frame). f.links.part) (each_idle q low)

  pub fresh_seated : Seated c t
  fresh_seated = (fresh state, (stands (seats_of t) unused).arranged, λ p i j h k. absurd (none_held p i h))

  pub fresh_frames : (s : Setting) → c.slots ≡ s.slots → count ≡ s.slots + s.bottom → FramesShow told s c t (untouched s state)
  fresh_frames s slots room = record {
    slots_are = slots;
    room_is = long ∙ room;
    order_is = record { seats = fresh state; stands = stands (seats_of t) unused; names = refl };
    sound = sound_fresh (pages_of s) s.slots state;
    dirty_are = λ q i h. absurd (none_held q i h);
    others_clean = λ q a. refl;
    bytes_are = λ q i h. absurd (none_held q i h);
  }

-- Nothing was counted yet.
abbrev pub zeros : UseCounts
zeros = record { hits = 0; reclaims = 0; faults = 0; evictions = 0 }

pub fresh_shows : {S R : Type 0} (told : R → ℕ) (meaning : S → Meaning) (s : Setting) (p : Works S R) (state : ℕ) → meaning p.below ≡ s.first → p.counts ≡ zeros →
    FramesShow told s p.table.parts (frames_of p) (untouched s state) → Shows told meaning s p (untouched s state)
fresh_shows told meaning s p state first counts frames = record {
  frames = frames;
  store = rw first (record { pages_are = refl; bytes_are = λ q low. refl; fetches_are = omega arith; saves_are = omega arith });
  counts = rw counts (record { hits_are = refl; reclaims_are = refl; faults_are = refl; evictions_are = refl });
}

-- Its works are booked.
pub fresh_ready : {S R : Type 0} (told : R → ℕ) (meaning : S → Meaning) (s : Setting) (p : Works S R) (state : ℕ) → Sized s.first.bytes → Shows told meaning s p (untouched s state) → Booked meaning told p
fresh_ready told meaning s p state sized shows = record {
  setting = s;
  model = untouched s state;
  book = first_bytes s;
  sized = sized;
  shows = shows;
  kept = kept_fresh (pages_of s) s.slots state (first_bytes s);
  long = sized.even;
}
