-- What a pager shows once a page was used, before its bytes move.
use Rattle.std.proofs.Common.{◌≡◌, ℕ, ◌+◌, ◌<◌, ◌≤◌, true, false, cond, eqb, ltb, ◌≢◌, List, [], ◌∷◌, length, get_or, set, sym, refl, ap, ◌∙◌, subst, inl, inr, arith}
use Rattle.std.proofs.Math.Bool.{and-false, and-true}
use Rattle.std.proofs.lemmas.List.{length-set, get_or-set_same, get_or-set_other}
use Rattle.std.proofs.lemmas.Bool.{cases_lt, cases_Bool, lt-ltb, le-ltb, eq-eqb}
use Rattle.store.specs.Meaning.{Meaning}
use Rattle.lists.specs.Weights.{one, occ, has}
use Rattle.lists.proofs.Weights.{eqb_cases, ltb_cases, weigh_parts}
use Rattle.model.specs.Order.{Rule, Order, used}
use Rattle.model.specs.Pager.{cut, holds, frames, evicted, still_dirty}
use Rattle.model.specs.Bytes.{Paged, saved_below}
use Rattle.model.proofs.Uses.{sound_used, used_out}
use Rattle.model.proofs.Moves.{holds_cases, sound_cut, parted}
use Rattle.order.specs.declared.parts.TwoParts.{TwoParts}
use Rattle.pager.specs.declared.frame.Frame.{Frame}
use Rattle.pager.specs.Frames.{at, contents, In, Absent, Apart, flushed}
use Rattle.pager.specs.Framed.{Framed}
use Rattle.pager.specs.Settings.{Setting, pages_of}
use Rattle.pager.specs.Shows.{FramesShow, StoreShows}
use Rattle.pager.specs.Touched.{touched}
use Rattle.pager.proofs.Holders.{in_order, none_in}

at_most_one : (n q x : ℕ) → x ≤ one (ltb q n) → x ≤ 1
at_most_one n q x h = elim (ltb_cases q n) [ inl y ↦ omega (arith, rw y.1 at h) | inr m ↦ omega (arith, rw m.1 at h) ]

-- The frames, once page p is in frame i and no other page has moved from its frame.
module _ {X : Type 0} (told : X → ℕ) (r : Rule) (s : Setting) (c c' : TwoParts X) (t u : List Frame) (w : Paged) (p i : ℕ) (fs : FramesShow told s c t w)
    (slots : (state : ℕ) → r.slot state s.slots < s.slots) (low : p < pages_of s) (same-slots : c'.slots ≡ c.slots) (long : length u ≡ length t) (apart : Apart u) (here : In u p i)
    (shows : Framed told c' u (cut s.bottom (used r s.slots p w.pager.order)))
    (others : (q j : ℕ) → q ≢ p → In u q j → In t q j × (contents (at u j) ≡ contents (at t j))) where
  abbrev o : Order
  o = w.pager.order

  abbrev gone : List ℕ
  gone = evicted r s.slots s.bottom p o

  parts : (q : ℕ) → p ≢ q → frames q (cut s.bottom (used r s.slots p o)) + occ q gone ≡ frames q o
  parts = parted r (pages_of s) s.slots p o fs.sound (slots o.told) s.bottom

  -- The page itself is not driven out.
  self_stays : has p gone ≡ false
  self_stays = le-ltb 0 (occ p gone) (omega (arith, used_out (pages_of s) s.slots p o r fs.sound low (slots o.told), weigh_parts (λ x. one (eqb x p)) s.bottom (used r s.slots p o).bottom))

  -- Nor is a page that still has a frame.
  framed_stays : (q j : ℕ) → q ≢ p → In u q j → has q gone ≡ false
  framed_stays q j ne h = le-ltb 0 (occ q gone) (omega (arith, parts q (λ e. ne (sym e)), in_order told c' u (cut s.bottom (used r s.slots p o)) shows q j h, at_most_one (pages_of s) q (frames q o) (fs.sound.once q)))

  others_dirty : (q j : ℕ) → q ≢ p → In u q j → (at u j).dirty ≡ still_dirty r s.slots s.bottom p w.pager q
  others_dirty q j ne h = let m = others q j ne h in rw (framed_stays q j ne h, and-true (w.pager.dirty q)) (ap (λ (f : Frame). f.dirty) m.1 ∙ fs.dirty_are q j m.0)

  left_clean : (q : ℕ) → Absent u q → still_dirty r s.slots s.bottom p w.pager q ≡ false
  left_clean q none = elim (cases_lt 0 (frames q o)) [
    | inl y ↦ rw (lt-ltb 0 (occ q gone) (omega (arith, parts q away, none_in told c' u (cut s.bottom (used r s.slots p o)) shows q none))) (and-false (w.pager.dirty q))
    | inr m ↦ rw (fs.others_clean q (λ j h. omega (arith, in_order told c t o fs.order_is q j h))) refl
  ] where
    away : p ≢ q
    away e = none i (subst (λ x. In u x i) e here)

  others_bytes : (q j : ℕ) → q ≢ p → In u q j → (at u j).bytes ≡ w.frame q
  others_bytes q j ne h = let m = others q j ne h in ap (λ (f : Frame). f.bytes) m.1 ∙ fs.bytes_are q j m.0

  -- What the page's own frame has.
  module _ (dirty : (at u i).dirty ≡ w.pager.dirty p) (bytes : (at u i).bytes ≡ cond (holds p o) (w.frame p) (at u i).bytes) where
    pub use_frames : FramesShow told s c' u (touched r s.slots s.bottom p (at u i).bytes w)
    use_frames = record {
      slots_are = same-slots ∙ fs.slots_are;
      room_is = long ∙ fs.room_is;
      order_is = shows;
      sound = sound_cut (pages_of s) s.slots s.bottom (used r s.slots p o) (sound_used (pages_of s) s.slots p o fs.sound low r (slots o.told));
      dirty_are = λ q j h. elim (eqb_cases q p) [
        | inl e ↦ rw (e.0, self_stays, and-true (w.pager.dirty p)) (ap (λ x. (at u x).dirty) (apart p j i (subst (λ x. In u x j) e.0 h) here) ∙ dirty)
        | inr m ↦ others_dirty q j m.0 h
      ];
      others_clean = left_clean;
      bytes_are = λ q j h. elim (eqb_cases q p) [
        | inl e ↦ rw e.1 (ap (λ x. (at u x).bytes) (apart p j i (subst (λ x. In u x j) e.0 h) here) ∙ bytes)
        | inr m ↦ rw m.1 (others_bytes q j m.0 h)
      ];
    }

  -- The page was in the same frame before.
  pub use_found : contents (at u i) ≡ contents (at t i) → In t p i → FramesShow told s c' u (touched r s.slots s.bottom p (at u i).bytes w)
  use_found same was = use_frames (ap (λ (f : Frame). f.dirty) same ∙ fs.dirty_are p i was)
      (elim (holds_cases p o) [
        | inl y ↦ rw y.1 (ap (λ (f : Frame). f.bytes) same ∙ fs.bytes_are p i was)
        | inr m ↦ rw m.1 refl
      ])

  -- The page had no frame.
  pub use_new : (at u i).dirty ≡ false → Absent t p → FramesShow told s c' u (touched r s.slots s.bottom p (at u i).bytes w)
  use_new clean none = use_frames (clean ∙ sym (fs.others_clean p none))
      (elim (holds_cases p o) [
        | inl y ↦ absurd (omega (arith, y.0, none_in told c t o fs.order_is p none))
        | inr m ↦ rw m.1 refl
      ])

-- The store below, once what the use drives out was saved there.
module _ (r : Rule) (s : Setting) (p : ℕ) (w : Paged) (x : List ℕ) (m : Meaning) (ss : StoreShows s m w) where
  -- Nothing was driven out.
  pub store_kept : evicted r s.slots s.bottom p w.pager.order ≡ [] → StoreShows s m (touched r s.slots s.bottom p x w)
  store_kept e = record {
    pages_are = ss.pages_are;
    bytes_are = λ q h. rw (e, and-false (w.pager.dirty q)) (ss.bytes_are q h);
    fetches_are = ss.fetches_are;
    saves_are = rw e (ss.saves_are ∙ omega arith);
  }

  -- The page of a frame was driven out.
  module _ (f : Frame) (e : evicted r s.slots s.bottom p w.pager.order ≡ f.page ∷ []) (low : f.page < pages_of s) (dirty : f.dirty ≡ w.pager.dirty f.page) (bytes : f.bytes ≡ w.frame f.page) where
    alone_there : (q : ℕ) → has q (f.page ∷ []) ≡ eqb f.page q
    alone_there q = elim (eqb_cases f.page q) [ inl y ↦ rw y.1 refl | inr n ↦ rw n.1 refl ]

    kept_below : (q : ℕ) → w.pager.dirty f.page ≡ false → saved_below r s.slots s.bottom p w q ≡ w.below q
    kept_below q clean = rw (e, alone_there q) (elim (eqb_cases f.page q) [
      | inl y ↦ rw (← y.0, clean) refl
      | inr n ↦ rw (n.1, and-false (w.pager.dirty q)) refl
    ])

    saved_below_lem : (q : ℕ) → w.pager.dirty f.page ≡ true → q < pages_of s → get_or (set m.bytes f.page f.bytes) q [] ≡ saved_below r s.slots s.bottom p w q
    saved_below_lem q is h = rw (e, alone_there q) (elim (eqb_cases f.page q) [
      | inl y ↦ rw (← y.0, is, eq-eqb f.page f.page refl) (get_or-set_same m.bytes f.page f.bytes [] (omega (arith, ss.pages_are)) ∙ bytes)
      | inr n ↦ rw (n.1, and-false (w.pager.dirty q)) (get_or-set_other m.bytes f.page q f.bytes [] (λ z. n.0 (sym z)) ∙ ss.bytes_are q h)
    ])

    pub store_saved : StoreShows s (flushed f m) (touched r s.slots s.bottom p x w)
    store_saved = elim (cases_Bool (w.pager.dirty f.page)) [
      | inl y ↦ rw (dirty, y) (record {
        pages_are = length-set m.bytes f.page f.bytes ∙ ss.pages_are;
        bytes_are = λ q h. saved_below_lem q y h;
        fetches_are = ss.fetches_are;
        saves_are = rw (e, y) (omega (arith, ss.saves_are));
      })
      | inr n ↦ rw (dirty, n) (record {
        pages_are = ss.pages_are;
        bytes_are = λ q h. ss.bytes_are q h ∙ sym (kept_below q n);
        fetches_are = ss.fetches_are;
        saves_are = rw (e, n) (omega (arith, ss.saves_are));
      })
    ]
