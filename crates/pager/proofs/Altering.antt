-- A pager whose frame i was altered in its seat, its page being the same.
use Rattle.std.proofs.Common.{◌≡◌, ℕ, ◌<◌, true, false, ◌≢◌, List, [], length, get_or, set, sym, refl, ap, ◌∙◌, subst, inl, inr, arith}
use Rattle.std.proofs.lemmas.Bool.{cases_eq, eq-eqb, ne_eqb}
use Rattle.store.specs.Meaning.{Meaning, fetched}
use Rattle.model.specs.Order.{Rule}
use Rattle.model.specs.Pager.{holds}
use Rattle.model.specs.Bytes.{Paged, paged_read, paged_write}
use Rattle.order.specs.declared.parts.TwoParts.{TwoParts}
use Rattle.pager.specs.declared.frame.Frame.{Frame}
use Rattle.pager.specs.declared.works.Works.{Works}
use Rattle.pager.specs.Frames.{at, page_in, taken, filled, written, In, Apart}
use Rattle.pager.specs.Framed.{Framed}
use Rattle.pager.specs.Settings.{Setting, pages_of}
use Rattle.pager.specs.Shows.{frames_of, FramesShow, Shows}
use Rattle.pager.specs.Touched.{touched}
use Rattle.pager.proofs.Naming.{at_here, at_other, as_long, in_other, framed_kept}

module _ (t t' : List Frame) (i : ℕ) (f : Frame) (is : t' ≡ set t i f) (low : i < length t) (next : f.links.next ≡ (at t i).links.next) (prev : f.links.prev ≡ (at t i).links.prev) (part : f.links.part ≡ (at t i).links.part) (page : f.page ≡ page_in t i) where
  here_is : at t' i ≡ f
  here_is = at_here t t' i f is low next prev part

  there_is : (j : ℕ) → j ≢ i → at t' j ≡ at t j
  there_is = at_other t t' i f is low next prev part

  -- Every page is in the frame that it was in.
  pub in_back : (q j : ℕ) → In t' q j → In t q j
  in_back q j h = elim (cases_eq j i) [
    | inl e ↦ subst (λ x. In t q x) (sym e) (at_i (subst (λ x. In t' q x) e h))
    | inr n ↦ in_other t t' i f is low next prev part q j n h
  ] where
    at_i : In t' q i → In t q i
    at_i y = record { within = low; held = ap taken (sym part) ∙ (ap (λ (x : Frame). taken x.links.part) (sym here_is) ∙ y.held); here = sym page ∙ (ap (λ (x : Frame). x.page) (sym here_is) ∙ y.here) }

  pub in_forth : (q j : ℕ) → In t q j → In t' q j
  in_forth q j h = elim (cases_eq j i) [
    | inl e ↦ subst (λ x. In t' q x) (sym e) (at_i (subst (λ x. In t q x) e h))
    | inr n ↦ record { within = rw (as_long t t' i f is low next prev part) h.within; held = ap (λ (x : Frame). taken x.links.part) (there_is j n) ∙ h.held; here = ap (λ (x : Frame). x.page) (there_is j n) ∙ h.here }
  ] where
    at_i : In t q i → In t' q i
    at_i y = record { within = rw (as_long t t' i f is low next prev part) low; held = ap (λ (x : Frame). taken x.links.part) here_is ∙ (ap taken part ∙ y.held); here = ap (λ (x : Frame). x.page) here_is ∙ (page ∙ y.here) }

  -- The frames show another model, which differs from the first at that page alone.
  pub altered_frames : {X : Type 0} (told : X → ℕ) (s : Setting) (c : TwoParts X) (w w' : Paged) (p : ℕ) → FramesShow told s c t w → Apart t → In t p i → w'.pager.order ≡ w.pager.order → f.dirty ≡ w'.pager.dirty p → f.bytes ≡ w'.frame p →
      ((q : ℕ) → q ≢ p → w'.pager.dirty q ≡ w.pager.dirty q) → ((q : ℕ) → q ≢ p → w'.frame q ≡ w.frame q) → FramesShow told s c t' w'
  altered_frames told s c w w' p fs apart was order dirty bytes others_dirty others_bytes = record {
    slots_are = fs.slots_are;
    room_is = as_long t t' i f is low next prev part ∙ fs.room_is;
    order_is = subst (λ o. Framed told c t' o) (sym order) (framed_kept t t' i f is low next prev part told c w.pager.order fs.order_is page);
    sound = rw order fs.sound;
    dirty_are = λ q j h. elim (cases_eq q p) [
      | inl e ↦ ap (λ x. (at t' x).dirty) (same q j h e) ∙ (ap (λ (x : Frame). x.dirty) here_is ∙ (dirty ∙ ap w'.pager.dirty (sym e)))
      | inr n ↦ ap (λ (x : Frame). x.dirty) (there_is j (away q j h n)) ∙ (fs.dirty_are q j (in_back q j h) ∙ sym (others_dirty q n))
    ];
    others_clean = λ q none. elim (cases_eq q p) [
      | inl e ↦ absurd (none i (in_forth q i (subst (λ x. In t x i) (sym e) was)))
      | inr n ↦ others_dirty q n ∙ fs.others_clean q (λ j h. none j (in_forth q j h))
    ];
    bytes_are = λ q j h. elim (cases_eq q p) [
      | inl e ↦ ap (λ x. (at t' x).bytes) (same q j h e) ∙ (ap (λ (x : Frame). x.bytes) here_is ∙ (bytes ∙ ap w'.frame (sym e)))
      | inr n ↦ ap (λ (x : Frame). x.bytes) (there_is j (away q j h n)) ∙ (fs.bytes_are q j (in_back q j h) ∙ sym (others_bytes q n))
    ];
  } where
    same : (q j : ℕ) → In t' q j → q ≡ p → j ≡ i
    same q j h e = apart p j i (subst (λ x. In t x j) e (in_back q j h)) was

    away : (q j : ℕ) → In t' q j → q ≢ p → j ≢ i
    away q j h n e = n (sym (in_back q j h).here ∙ (ap (page_in t) e ∙ was.here))

-- A read of a page that had a frame: nothing is fetched.
module _ {S R : Type 0} (told : R → ℕ) (meaning : S → Meaning) (r : Rule) (s : Setting) (P : Works S R) (w : Paged) (p : ℕ) (x : List ℕ) (sh : Shows told meaning s P (touched r s.slots s.bottom p x w)) where
  pub read_found : holds p w.pager.order ≡ true → Shows told meaning s P (paged_read r s.slots s.bottom p w)
  read_found h = record {
    frames = record {
      slots_are = sh.frames.slots_are;
      room_is = sh.frames.room_is;
      order_is = sh.frames.order_is;
      sound = sh.frames.sound;
      dirty_are = sh.frames.dirty_are;
      others_clean = sh.frames.others_clean;
      bytes_are = λ q j y. rw h (rw h at (sh.frames.bytes_are q j y));
    };
    store = record { pages_are = sh.store.pages_are; bytes_are = sh.store.bytes_are; fetches_are = rw h (sh.store.fetches_are ∙ omega arith); saves_are = sh.store.saves_are };
    counts = record { hits_are = sh.counts.hits_are; reclaims_are = sh.counts.reclaims_are; faults_are = sh.counts.faults_are; evictions_are = sh.counts.evictions_are };
  }

  module _ (Q : Works S R) (i : ℕ) (here : In (frames_of P) p i) (apart : Apart (frames_of P)) (parts : Q.table.parts ≡ P.table.parts) (counts : Q.counts ≡ P.counts) (low : p < pages_of s) where
    -- A read of a page that had none: its bytes were fetched.
    pub read_new : holds p w.pager.order ≡ false → meaning Q.below ≡ fetched (meaning P.below) → frames_of Q ≡ set (frames_of P) i (filled (get_or (meaning P.below).bytes (page_in (frames_of P) i) []) (at (frames_of P) i)) → Shows told meaning s Q (paged_read r s.slots s.bottom p w)
    read_new h below wrote = record {
      frames = rw parts (altered_frames (frames_of P) (frames_of Q) i (filled (get_or (meaning P.below).bytes (page_in (frames_of P) i) []) (at (frames_of P) i)) wrote here.within refl refl refl refl told s P.table.parts (touched r s.slots s.bottom p x w) (paged_read r s.slots s.bottom p w) p sh.frames apart here refl
          (sh.frames.dirty_are p i here)
          (rw (h, eq-eqb p p refl) (ap (λ q. get_or (meaning P.below).bytes q []) here.here ∙ sh.store.bytes_are p low))
          (λ q ne. refl)
          (λ q ne. rw (ne_eqb q p ne) refl));
      store = rw below (record { pages_are = sh.store.pages_are; bytes_are = sh.store.bytes_are; fetches_are = rw h (omega (arith, sh.store.fetches_are)); saves_are = sh.store.saves_are });
      counts = rw counts (record { hits_are = sh.counts.hits_are; reclaims_are = sh.counts.reclaims_are; faults_are = sh.counts.faults_are; evictions_are = sh.counts.evictions_are });
    }

    -- A write: the page's frame has the bytes written, and is dirty.
    pub write_shows : (b : List ℕ) → Q.below ≡ P.below → frames_of Q ≡ set (frames_of P) i (written b (at (frames_of P) i)) → Shows told meaning s Q (paged_write r s.slots s.bottom p b w)
    write_shows b below wrote = record {
      frames = rw parts (altered_frames (frames_of P) (frames_of Q) i (written b (at (frames_of P) i)) wrote here.within refl refl refl refl told s P.table.parts (touched r s.slots s.bottom p x w) (paged_write r s.slots s.bottom p b w) p sh.frames apart here refl
          (rw (eq-eqb p p refl) refl)
          (rw (eq-eqb p p refl) refl)
          (λ q ne. rw (ne_eqb q p ne) refl)
          (λ q ne. rw (ne_eqb q p ne) refl));
      store = rw below (record { pages_are = sh.store.pages_are; bytes_are = sh.store.bytes_are; fetches_are = sh.store.fetches_are; saves_are = sh.store.saves_are });
      counts = rw counts (record { hits_are = sh.counts.hits_are; reclaims_are = sh.counts.reclaims_are; faults_are = sh.counts.faults_are; evictions_are = sh.counts.evictions_are });
    }

-- A write to page p of a pager P, which had Q when the page was in frame i and is Z now.
module _ {S R : Type 0} (told : R → ℕ) (meaning : S → Meaning) (r : Rule) (P Q Z : Works S R) (p i : ℕ) (held : (s : Setting) (w : Paged) → Shows told meaning s P w → Shows told meaning s Q (touched r s.slots s.bottom p (at (frames_of Q) i).bytes w)) (here : In (frames_of Q) p i)
    (apart : Apart (frames_of Q)) (low : p < length (meaning P.below).bytes) where
  pub write_after : (b : List ℕ) → Z.table.parts ≡ Q.table.parts → Z.counts ≡ Q.counts → Z.below ≡ Q.below → frames_of Z ≡ set (frames_of Q) i (written b (at (frames_of Q) i)) →
      (s : Setting) (w : Paged) → Shows told meaning s P w → Shows told meaning s Z (paged_write r s.slots s.bottom p b w)
  write_after b parts counts below wrote s w sh = write_shows told meaning r s Q w p (at (frames_of Q) i).bytes (held s w sh) Z i here apart parts counts (omega (arith, low, sh.store.pages_are)) b below wrote
