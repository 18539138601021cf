-- A pager after a use of a page that had no frame.
use Rattle.std.proofs.Common.{◌≡◌, ℕ, ◌<◌, cond, ◌≢◌, [], ◌∷◌, length, sym, refl, ap, ◌∙◌, subst}
use Rattle.store.specs.Meaning.{Meaning}
use Rattle.links.specs.declared.Part.TheVariants.{Unused}
use Rattle.model.specs.Order.{Rule, used}
use Rattle.model.specs.Pager.{cut, frames, evicted}
use Rattle.model.specs.Bytes.{Paged}
use Rattle.pager.specs.declared.works.Works.{Works}
use Rattle.pager.specs.Frames.{at, page_in, contents, taken, In, Absent, Apart, flushed}
use Rattle.pager.specs.Framed.{Framed}
use Rattle.pager.specs.Vacant.{Vacant, Taken}
use Rattle.pager.specs.Settings.{Setting, pages_of}
use Rattle.pager.specs.Shows.{frames_of, FramesShow, Shows}
use Rattle.pager.specs.Touched.{touched}
use Rattle.pager.specs.Counted.{faulted, driven_out}
use Rattle.pager.specs.Roomy.{Roomy}
use Rattle.pager.proofs.Holders.{in_order, none_in}
use Rattle.pager.proofs.Vacating.{vacant_free}
use Rattle.pager.proofs.Using.{use_new, store_kept, store_saved}
use Rattle.pager.proofs.Touching.{framed_low, room_as, sound_as, counts_fault, counts_evicting}

-- A pager P shows a model in which page p has no frame.
module _ {S R : Type 0} (told : R → ℕ) (meaning : S → Meaning) (r : Rule) (s : Setting) (P : Works S R) (w : Paged) (p : ℕ) (sh : Shows told meaning s P w) (slots : (state : ℕ) → r.slot state s.slots < s.slots)
    (low : p < pages_of s) (none : Absent (frames_of P) p) where
  gone : frames p w.pager.order ≡ 0
  gone = none_in told P.table.parts (frames_of P) w.pager.order sh.frames.order_is p none

  -- A frame was free.
  module _ (i : ℕ) (within : i < length (frames_of P)) (idle : (at (frames_of P) i).links.part ≡ Unused) where
    free : Vacant told r s.slots s.bottom (frames_of P) w.pager.order p i P.table.parts (frames_of P)
    free = subst (λ k. Vacant told r k s.bottom (frames_of P) w.pager.order p i P.table.parts (frames_of P)) sh.frames.slots_are
        (vacant_free told r (pages_of s) s.bottom p P.table.parts (frames_of P) w.pager.order sh.frames.order_is (sound_as told s P.table.parts (frames_of P) w sh.frames)
        (subst (λ k. r.slot w.pager.order.told k < k) (sym sh.frames.slots_are) (slots w.pager.order.told)) (room_as told s P.table.parts (frames_of P) w sh.frames) none low i within idle)

    nothing : evicted r s.slots s.bottom p w.pager.order ≡ []
    nothing = free.drives ∙ ap (λ x. cond (taken x) (page_in (frames_of P) i ∷ []) []) idle

    pub room_free : Roomy told meaning r s P P w p i
    room_free = record {
      vacant = free;
      others = λ j ne. refl;
      long = refl;
      slots = refl;
      store = λ x. store_kept r s p w x (meaning P.below) sh.store nothing;
      counts = λ x. counts_fault r s.slots s.bottom p x w P.counts sh.counts gone nothing;
    }

  -- The page of a frame was driven out.
  module _ (Q : Works S R) (i : ℕ) (held : In (frames_of P) (page_in (frames_of P) i) i) (vacant : Vacant told r s.slots s.bottom (frames_of P) w.pager.order p i Q.table.parts (frames_of Q)) where
    out : evicted r s.slots s.bottom p w.pager.order ≡ page_in (frames_of P) i ∷ []
    out = vacant.drives ∙ ap (λ x. cond x (page_in (frames_of P) i ∷ []) []) held.held

    pub room_evicted : ((j : ℕ) → j ≢ i → contents (at (frames_of Q) j) ≡ contents (at (frames_of P) j)) → length (frames_of Q) ≡ length (frames_of P) → Q.table.parts.slots ≡ P.table.parts.slots →
        meaning Q.below ≡ flushed (at (frames_of P) i) (meaning P.below) → Q.counts ≡ driven_out P.counts → Roomy told meaning r s P Q w p i
    room_evicted others long same below counts = record {
      vacant = vacant;
      others = others;
      long = long;
      slots = same;
      store = λ x. rw below (store_saved r s p w x (meaning P.below) sh.store (at (frames_of P) i) out
          (framed_low (pages_of s) s.slots (page_in (frames_of P) i) w.pager.order sh.frames.sound (in_order told P.table.parts (frames_of P) w.pager.order sh.frames.order_is (page_in (frames_of P) i) i held))
          (sh.frames.dirty_are (page_in (frames_of P) i) i held) (sh.frames.bytes_are (page_in (frames_of P) i) i held));
      counts = λ x. rw counts (counts_evicting r s.slots s.bottom p x w P.counts sh.counts gone (page_in (frames_of P) i) out);
    }

  -- The frame took the page.
  module _ (Q Z : Works S R) (i : ℕ) (room : Roomy told meaning r s P Q w p i) (same-slots : Z.table.parts.slots ≡ Q.table.parts.slots) (long : length (frames_of Z) ≡ length (frames_of Q)) (apart : Apart (frames_of Z))
      (takes : Taken told r Q.table.parts.slots (frames_of Q) room.vacant.between i p Z.table.parts (frames_of Z)) where
    shown : Framed told Z.table.parts (frames_of Z) (cut s.bottom (used r s.slots p w.pager.order))
    shown = subst (λ o. Framed told Z.table.parts (frames_of Z) o) room.vacant.leads (subst (λ k. Framed told Z.table.parts (frames_of Z) (used r k p room.vacant.between)) (room.slots ∙ sh.frames.slots_are) takes.shows)

    frames_after : FramesShow told s Z.table.parts (frames_of Z) (touched r s.slots s.bottom p (at (frames_of Z) i).bytes w)
    frames_after = use_new told r s P.table.parts Z.table.parts (frames_of P) (frames_of Z) w p i sh.frames slots low (same-slots ∙ room.slots) (long ∙ room.long) apart takes.here shown
        (λ q j ne h. let m = takes.others q j ne h in (room.vacant.before q j m.1, m.2 ∙ room.others j m.0)) takes.clean none

    pub admit_shows : Z.below ≡ Q.below → Z.counts ≡ faulted Q.counts → Shows told meaning s Z (touched r s.slots s.bottom p (at (frames_of Z) i).bytes w)
    admit_shows below counts = record {
      frames = frames_after;
      store = rw below (room.store (at (frames_of Z) i).bytes);
      counts = rw counts (room.counts (at (frames_of Z) i).bytes);
    }
