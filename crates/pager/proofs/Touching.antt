-- A pager after a use of a page that has a frame, and one that has driven a page out.
use Rattle.std.proofs.Common.{◌≡◌, ℕ, ◌+◌, ◌<◌, ◌≤◌, true, false, List, [], ◌∷◌, length, set, sym, refl, ap, ◌∙◌, subst, inl, inr, arith}
use Rattle.std.proofs.lemmas.List.{drop_all, set-set}
use Rattle.std.proofs.lemmas.Bool.{cases_lt, cases_eq, le-ltb, true≢false}
use Rattle.store.specs.Meaning.{Meaning}
use Rattle.links.specs.declared.Part.{Part}
use Rattle.links.specs.declared.Part.TheVariants.{Unused, Top, Bottom}
use Rattle.lists.specs.Weights.{occ, has}
use Rattle.model.specs.Order.{Rule, Order, used}
use Rattle.model.specs.Sound.{Sound}
use Rattle.model.specs.Pager.{frames, evicted}
use Rattle.model.specs.Bytes.{Paged}
use Rattle.pager.proofs.Faults.{cut_none}
use Rattle.order.specs.declared.parts.TwoParts.{TwoParts}
use Rattle.pager.specs.declared.frame.Frame.{Frame}
use Rattle.pager.specs.declared.works.UseCounts.{UseCounts}
use Rattle.pager.specs.declared.works.Works.{Works}
use Rattle.pager.specs.Frames.{at, page_in, cleaned, taken, In, Apart}
use Rattle.pager.specs.Framed.{Framed, SameContents, renamed, Sat}
use Rattle.pager.specs.Vacant.{Vacant}
use Rattle.pager.specs.Settings.{Setting, pages_of}
use Rattle.pager.specs.Shows.{frames_of, FramesShow, CountsShow, Shows}
use Rattle.pager.specs.Touched.{touched}
use Rattle.pager.specs.Counted.{hit, reclaimed, faulted, driven_out, found_in}
use Rattle.pager.proofs.Seating.{same_at, same_page, same_length}
use Rattle.pager.proofs.Naming.{at_here, in_other}
use Rattle.pager.proofs.Holders.{in_order, page_in_top, page_in_bottom, bottom_fits}
use Rattle.pager.proofs.Using.{use_found, store_kept}

-- A page of the order is a page of the store.
pub framed_low : (n k q : ℕ) (o : Order) → Sound n k o → 0 < frames q o → q < n
framed_low n k q o s h = elim (cases_lt q n) [ inl y ↦ y | inr m ↦ absurd (omega (arith, rw (le-ltb q n m) at (s.once q))) ]

-- The rule names a slot of the top that a table shows.
pub rule_below : {X : Type 0} (told : X → ℕ) (r : Rule) (s : Setting) (c : TwoParts X) (t : List Frame) (w : Paged) → FramesShow told s c t w → ((state k : ℕ) → 0 < k → r.slot state k < k) → (state : ℕ) → r.slot state s.slots < s.slots
rule_below told r s c t w fs below state = below state s.slots (omega (arith, c.sized.0, fs.slots_are))

-- The counters after a use of page p.
module _ (r : Rule) (k l p : ℕ) (x : List ℕ) (w : Paged) (c : UseCounts) (cs : CountsShow c w) where
  module _ (none : evicted r k l p w.pager.order ≡ []) where
    pub counts_hit : has p w.pager.order.top ≡ true → CountsShow (hit c) (touched r k l p x w)
    counts_hit y = record {
      hits_are = rw y (omega (arith, cs.hits_are));
      reclaims_are = rw y (cs.reclaims_are ∙ omega arith);
      faults_are = rw y (cs.faults_are ∙ omega arith);
      evictions_are = rw none (cs.evictions_are ∙ omega arith);
    }

    pub counts_reclaim : has p w.pager.order.top ≡ false → has p w.pager.order.bottom ≡ true → CountsShow (reclaimed c) (touched r k l p x w)
    counts_reclaim n y = record {
      hits_are = rw n (cs.hits_are ∙ omega arith);
      reclaims_are = rw (n, y) (omega (arith, cs.reclaims_are));
      faults_are = rw (n, y) (cs.faults_are ∙ omega arith);
      evictions_are = rw none (cs.evictions_are ∙ omega arith);
    }

  module _ (gone : frames p w.pager.order ≡ 0) where
    no_top : has p w.pager.order.top ≡ false
    no_top = le-ltb 0 (occ p w.pager.order.top) (omega arith)

    no_bottom : has p w.pager.order.bottom ≡ false
    no_bottom = le-ltb 0 (occ p w.pager.order.bottom) (omega arith)

    pub counts_fault : evicted r k l p w.pager.order ≡ [] → CountsShow (faulted c) (touched r k l p x w)
    counts_fault none = record {
      hits_are = rw no_top (cs.hits_are ∙ omega arith);
      reclaims_are = rw (no_top, no_bottom) (cs.reclaims_are ∙ omega arith);
      faults_are = rw (no_top, no_bottom) (omega (arith, cs.faults_are));
      evictions_are = rw none (cs.evictions_are ∙ omega arith);
    }

    pub counts_evicting : (e : ℕ) → evicted r k l p w.pager.order ≡ e ∷ [] → CountsShow (faulted (driven_out c)) (touched r k l p x w)
    counts_evicting e some = record {
      hits_are = rw no_top (cs.hits_are ∙ omega arith);
      reclaims_are = rw (no_top, no_bottom) (cs.reclaims_are ∙ omega arith);
      faults_are = rw (no_top, no_bottom) (omega (arith, cs.faults_are));
      evictions_are = rw some (omega (arith, cs.evictions_are));
    }

-- The page of frame i was used where it was.
module _ {S R : Type 0} (told : R → ℕ) (meaning : S → Meaning) (r : Rule) (s : Setting) (P Q : Works S R) (w : Paged) (i : ℕ) (sh : Shows told meaning s P w) (slots : (state : ℕ) → r.slot state s.slots < s.slots)
    (was : In (frames_of P) (page_in (frames_of P) i) i) (apart : Apart (frames_of P)) (apart' : Apart (frames_of Q)) (same : SameContents (frames_of P) (frames_of Q)) (same-slots : Q.table.parts.slots ≡ P.table.parts.slots)
    (sat : Sat told r P.table.parts.slots (frames_of P) w.pager.order i Q.table.parts (frames_of Q)) where
  abbrev page : ℕ
  page = page_in (frames_of P) i

  shown : Framed told Q.table.parts (frames_of Q) (used r s.slots page w.pager.order)
  shown = subst (λ k. Framed told Q.table.parts (frames_of Q) (used r k page w.pager.order)) sh.frames.slots_are sat.shows

  few : length (used r s.slots page w.pager.order).bottom ≤ s.bottom
  few = bottom_fits told Q.table.parts (frames_of Q) (used r s.slots page w.pager.order) shown s.bottom (same_length (frames_of P) (frames_of Q) same ∙ (sh.frames.room_is ∙ ap (λ k. k + s.bottom) (sym (same-slots ∙ sh.frames.slots_are))))

  nothing_gone : evicted r s.slots s.bottom page w.pager.order ≡ []
  nothing_gone = drop_all s.bottom (used r s.slots page w.pager.order).bottom few

  frames_after : FramesShow told s Q.table.parts (frames_of Q) (touched r s.slots s.bottom page (at (frames_of Q) i).bytes w)
  frames_after = use_found told r s P.table.parts Q.table.parts (frames_of P) (frames_of Q) w page i sh.frames slots
      (framed_low (pages_of s) s.slots page w.pager.order sh.frames.sound (in_order told P.table.parts (frames_of P) w.pager.order sh.frames.order_is page i was))
      same-slots (same_length (frames_of P) (frames_of Q) same) apart' sat.here (subst (λ o. Framed told Q.table.parts (frames_of Q) o) (sym (cut_none s.bottom (used r s.slots page w.pager.order) few)) shown)
      (λ q j ne h. (sat.others q j (λ e. ne (sym h.here ∙ (same_page (frames_of P) (frames_of Q) same j ∙ ap (page_in (frames_of P)) e))) h, same_at (frames_of P) (frames_of Q) same j))
      (same_at (frames_of P) (frames_of Q) same i) was

  counts_after : (part : Part) → (at (frames_of P) i).links.part ≡ part → CountsShow (found_in part P.counts) (touched r s.slots s.bottom page (at (frames_of Q) i).bytes w)
  counts_after Unused e = absurd (true≢false (sym was.held ∙ ap taken e))
  counts_after Top e = counts_hit r s.slots s.bottom page (at (frames_of Q) i).bytes w P.counts sh.counts nothing_gone (page_in_top told P.table.parts (frames_of P) w.pager.order sh.frames.order_is page i was e)
  counts_after Bottom e =
      let h = page_in_bottom told P.table.parts (frames_of P) w.pager.order sh.frames.order_is apart page i was e in
      counts_reclaim r s.slots s.bottom page (at (frames_of Q) i).bytes w P.counts sh.counts nothing_gone h.0 h.1

  pub touch_shows : Q.below ≡ P.below → Q.counts ≡ found_in (at (frames_of P) i).links.part P.counts → Shows told meaning s Q (touched r s.slots s.bottom page (at (frames_of Q) i).bytes w)
  touch_shows below counts = record {
    frames = frames_after;
    store = rw below (store_kept r s page w (at (frames_of Q) i).bytes (meaning P.below) sh.store nothing_gone);
    counts = rw counts (counts_after (at (frames_of P) i).links.part refl);
  }

-- A frame that was made free stays free once its page is marked clean.
module _ {X : Type 0} (told : X → ℕ) (r : Rule) (k l : ℕ) (t : List Frame) (o : Order) (p i : ℕ) (c : TwoParts X) (u u' : List Frame) (long : length u ≡ length t) (is : u' ≡ set u i (cleaned (at u i))) (v : Vacant told r k l t o p i c u) where
  low : i < length u
  low = rw long v.within

  back : (q j : ℕ) → In u' q j → In u q j
  back q j h = elim (cases_eq j i) [
    | inl e ↦ here (subst (λ x. In u' q x) e h) e
    | inr n ↦ in_other u u' i (cleaned (at u i)) is low refl refl refl q j n h
  ] where
    here : In u' q i → j ≡ i → In u q j
    here y e = subst (λ x. In u q x) (sym e) (record {
      within = low;
      held = ap (λ (f : Frame). taken f.links.part) (sym (at_here u u' i (cleaned (at u i)) is low refl refl refl)) ∙ y.held;
      here = ap (λ (f : Frame). f.page) (sym (at_here u u' i (cleaned (at u i)) is low refl refl refl)) ∙ y.here;
    })

  pub vacant_cleaned : Vacant told r k l t o p i c u'
  vacant_cleaned = record {
    within = v.within;
    before = λ q j h. v.before q j (back q j h);
    drives = v.drives;
    between = v.between;
    shows = subst (λ x. Framed told c x v.between) (sym (ap (λ (f : Frame). set u' i (renamed p f)) (at_here u u' i (cleaned (at u i)) is low refl refl refl) ∙ (ap (λ x. set x i (renamed p (at u i))) is ∙ set-set u i (cleaned (at u i)) (renamed p (at u i))))) v.shows;
    leads = v.leads;
  }

-- How many frames there are, by the slots of the table itself.
pub room_as : {X : Type 0} (told : X → ℕ) (s : Setting) (c : TwoParts X) (t : List Frame) (w : Paged) → FramesShow told s c t w → length t ≡ c.slots + s.bottom
room_as told s c t w fs = fs.room_is ∙ ap (λ k. k + s.bottom) (sym fs.slots_are)

pub sound_as : {X : Type 0} (told : X → ℕ) (s : Setting) (c : TwoParts X) (t : List Frame) (w : Paged) → FramesShow told s c t w → Sound (pages_of s) c.slots w.pager.order
sound_as told s c t w fs = subst (λ k. Sound (pages_of s) k w.pager.order) (sym fs.slots_are) fs.sound

pub vacant_evicted : {X : Type 0} (told : X → ℕ) (r : Rule) (s : Setting) (c c₁ c₂ : TwoParts X) (t u u' : List Frame) (w : Paged) (p i : ℕ) → FramesShow told s c t w → length u ≡ length t → u' ≡ set u i (cleaned (at u i)) → c₂ ≡ c₁ →
    Vacant told r c.slots s.bottom t w.pager.order p i c₁ u → Vacant told r s.slots s.bottom t w.pager.order p i c₂ u'
vacant_evicted told r s c c₁ c₂ t u u' w p i fs long is parts v =
    vacant_cleaned told r s.slots s.bottom t w.pager.order p i c₂ u u' long is
    (subst (λ x. Vacant told r s.slots s.bottom t w.pager.order p i x u) (sym parts) (subst (λ k. Vacant told r k s.bottom t w.pager.order p i c₁ u) fs.slots_are v))
