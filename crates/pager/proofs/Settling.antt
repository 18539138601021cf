-- A pager in the course of a settle.
use mathlib.Core.Logic.{∥∥₁_elim}
use Rattle.std.specs.Coded.{le_prop}
use Rattle.std.proofs.Common.{◌≡◌, ℕ, ◌+◌, ◌<◌, true, false, cond, ltb, ◌≢◌, [], length, get_or, set, sym, refl, ap, ◌∙◌, subst, inl, inr, add-one, arith}
use Rattle.std.proofs.lemmas.List.{ext_get_or, length-set, get_or-set_same, get_or-set_other}
use Rattle.std.proofs.lemmas.Bool.{cases_eq, cases_Bool, lt-ltb, le-ltb}
use Rattle.lists.specs.Weights.{one, total}
use Rattle.lists.proofs.Weights.{ltb_cases}
use Rattle.store.specs.Meaning.{Meaning}
use Rattle.model.specs.Bytes.{Paged, paged_settle}
use Rattle.model.specs.Kept.{Kept}
use Rattle.model.proofs.Bytes.{kept_settle, settle_leaves}
use Rattle.pager.specs.declared.works.Works.{Works}
use Rattle.pager.specs.Frames.{at, page_in, cleaned, flushed, In, Absent, Apart}
use Rattle.pager.specs.Settings.{Setting, pages_of}
use Rattle.pager.specs.Shows.{frames_of, StoreShows, CountsShow, Shows}
use Rattle.pager.specs.Book.{book_of}
use Rattle.pager.specs.Booked.{Booked}
use Rattle.pager.specs.Partly.{partly}
use Rattle.pager.specs.Settling.{Settling}
use Rattle.pager.proofs.Holders.{in_order}
use Rattle.pager.proofs.Touching.{framed_low}
use Rattle.pager.proofs.Altering.{altered_frames}
use Rattle.pager.proofs.Booking.{pages_by, pages_length, page_at, book_is}
use Rattle.pager.proofs.Accepting.{books_set, bytes_are}

-- A page of a frame is a page of the store below.
pub frames_low : {S R : Type 0} (told : R → ℕ) (meaning : S → Meaning) (s : Setting) (P : Works S R) (w : Paged) → Shows told meaning s P w → (q i : ℕ) → In (frames_of P) q i → q < length (meaning P.below).bytes
frames_low told meaning s P w sh q i h =
    omega (arith, sh.store.pages_are, framed_low (pages_of s) s.slots q w.pager.order sh.frames.sound (in_order told P.table.parts (frames_of P) w.pager.order sh.frames.order_is q i h))

pub low_ready : {S R : Type 0} (meaning : S → Meaning) (told : R → ℕ) (P : Works S R) → ∥ Booked meaning told P ∥₁ → (q i : ℕ) → In (frames_of P) q i → q < length (meaning P.below).bytes
low_ready meaning told P booked q i h = ∥∥₁_elim booked le_prop (λ y. frames_low told meaning y.setting P y.model y.shows q i h)

-- The turn of page m.
module _ (m : ℕ) where
  next : ltb m (m + 1) ≡ true
  next = lt-ltb m (m + 1) (omega arith)

  not_yet : ltb m m ≡ false
  not_yet = le-ltb m m (omega arith)

  shift : (q : ℕ) → q ≢ m → ltb q (m + 1) ≡ ltb q m
  shift q ne = elim (ltb_cases q m) [
    | inl y ↦ rw y.1 (lt-ltb q (m + 1) (omega (arith, y.0)))
    | inr n ↦ rw n.1 (le-ltb q (m + 1) (omega (arith, n.0, ne)))
  ]

  module _ (w : Paged) where
    others_dirty : (q : ℕ) → q ≢ m → (partly (m + 1) w).pager.dirty q ≡ (partly m w).pager.dirty q
    others_dirty q ne = ap (λ b. cond b false (w.pager.dirty q)) (shift q ne)

    others_below : (q : ℕ) → q ≢ m → (partly m w).below q ≡ (partly (m + 1) w).below q
    others_below q ne = sym (ap (λ b. cond b (cond (w.pager.dirty q) (w.frame q) (w.below q)) (w.below q)) (shift q ne))

    total_next : total (m + 1) (λ q. one (w.pager.dirty q)) ≡ total m (λ q. one (w.pager.dirty q)) + one (w.pager.dirty m)
    total_next = ap (λ n. total n (λ q. one (w.pager.dirty q))) (add-one m)

    module _ {S R : Type 0} (told : R → ℕ) (meaning : S → Meaning) (s : Setting) (P : Works S R) (sh : Shows told meaning s P (partly m w)) where
      counts_as : CountsShow P.counts (partly (m + 1) w)
      counts_as = record { hits_are = sh.counts.hits_are; reclaims_are = sh.counts.reclaims_are; faults_are = sh.counts.faults_are; evictions_are = sh.counts.evictions_are }

      -- The page has no frame, so it is clean.
      pub settle_absent : Absent (frames_of P) m → Shows told meaning s P (partly (m + 1) w)
      settle_absent none = record {
        frames = record {
          slots_are = sh.frames.slots_are;
          room_is = sh.frames.room_is;
          order_is = sh.frames.order_is;
          sound = sh.frames.sound;
          dirty_are = λ q i h. sh.frames.dirty_are q i h ∙ sym (others_dirty q (λ e. none i (subst (λ x. In (frames_of P) x i) e h)));
          others_clean = λ q a. elim (cases_eq q m) [ inl e ↦ rw (e, next) refl | inr n ↦ others_dirty q n ∙ sh.frames.others_clean q a ];
          bytes_are = sh.frames.bytes_are;
        };
        store = record {
          pages_are = sh.store.pages_are;
          bytes_are = λ q low. elim (cases_eq q m) [
            | inl e ↦ rw (e, next, clean) (rw not_yet at (sh.store.bytes_are m (omega (arith, low, e))))
            | inr n ↦ sh.store.bytes_are q low ∙ others_below q n
          ];
          fetches_are = sh.store.fetches_are;
          saves_are = sh.store.saves_are ∙ omega (arith, total_next, ap one clean);
        };
        counts = counts_as;
      } where
        clean : w.pager.dirty m ≡ false
        clean = rw not_yet at (sh.frames.others_clean m none)

      -- Its frame was saved if it was dirty, and is clean.
      module _ (Q : Works S R) (i : ℕ) (here : In (frames_of P) m i) (apart : Apart (frames_of P)) (parts : Q.table.parts ≡ P.table.parts) (counts : Q.counts ≡ P.counts)
          (wrote : frames_of Q ≡ set (frames_of P) i (cleaned (at (frames_of P) i))) (below : meaning Q.below ≡ flushed (at (frames_of P) i) (meaning P.below)) (low : m < length (meaning P.below).bytes) where
        dirty_is : (at (frames_of P) i).dirty ≡ w.pager.dirty m
        dirty_is = rw not_yet at (sh.frames.dirty_are m i here)

        bytes_is : (at (frames_of P) i).bytes ≡ w.frame m
        bytes_is = sh.frames.bytes_are m i here

        saved_at : w.pager.dirty m ≡ true → (q : ℕ) → q < pages_of s → get_or (set (meaning P.below).bytes (page_in (frames_of P) i) (at (frames_of P) i).bytes) q [] ≡ (partly (m + 1) w).below q
        saved_at d q fits = elim (cases_eq q m) [
          | inl e ↦ rw (e, next, d, here.here) (get_or-set_same (meaning P.below).bytes m (at (frames_of P) i).bytes [] low ∙ bytes_is)
          | inr n ↦ rw here.here (get_or-set_other (meaning P.below).bytes m q (at (frames_of P) i).bytes [] n ∙ (sh.store.bytes_are q fits ∙ others_below q n))
        ]

        kept_at : w.pager.dirty m ≡ false → (q : ℕ) → q < pages_of s → get_or (meaning P.below).bytes q [] ≡ (partly (m + 1) w).below q
        kept_at d q fits = elim (cases_eq q m) [
          | inl e ↦ rw (e, next, d) (rw not_yet at (sh.store.bytes_are m (omega (arith, fits, e))))
          | inr n ↦ sh.store.bytes_are q fits ∙ others_below q n
        ]

        store_after : StoreShows s (flushed (at (frames_of P) i) (meaning P.below)) (partly (m + 1) w)
        store_after = elim (cases_Bool (w.pager.dirty m)) [
          | inl y ↦ rw (dirty_is, y) (record {
            pages_are = length-set (meaning P.below).bytes (page_in (frames_of P) i) (at (frames_of P) i).bytes ∙ sh.store.pages_are;
            bytes_are = saved_at y;
            fetches_are = sh.store.fetches_are;
            saves_are = omega (arith, sh.store.saves_are, total_next, ap one y);
          })
          | inr n ↦ rw (dirty_is, n) (record {
            pages_are = sh.store.pages_are;
            bytes_are = kept_at n;
            fetches_are = sh.store.fetches_are;
            saves_are = sh.store.saves_are ∙ omega (arith, total_next, ap one n);
          })
        ]

        pub settle_held : Shows told meaning s Q (partly (m + 1) w)
        settle_held = record {
          frames = rw parts (altered_frames (frames_of P) (frames_of Q) i (cleaned (at (frames_of P) i)) wrote here.within refl refl refl refl told s P.table.parts (partly m w) (partly (m + 1) w) m sh.frames apart here refl (rw next refl) bytes_is (others_dirty) (λ q ne. refl));
          store = rw below store_after;
          counts = rw counts counts_as;
        }

module _ {S R : Type 0} (told : R → ℕ) (meaning : S → Meaning) (s : Setting) where
  -- Before the first page nothing is done.
  pub partly_none : (P : Works S R) (w : Paged) → Shows told meaning s P w → Shows told meaning s P (partly 0 w)
  partly_none P w sh = record {
    frames = record {
      slots_are = sh.frames.slots_are;
      room_is = sh.frames.room_is;
      order_is = sh.frames.order_is;
      sound = sh.frames.sound;
      dirty_are = λ q i h. rw (none q) (sh.frames.dirty_are q i h);
      others_clean = λ q a. rw (none q) (sh.frames.others_clean q a);
      bytes_are = sh.frames.bytes_are;
    };
    store = record {
      pages_are = sh.store.pages_are;
      bytes_are = λ q low. rw (none q) (sh.store.bytes_are q low);
      fetches_are = sh.store.fetches_are;
      saves_are = sh.store.saves_are ∙ omega arith;
    };
    counts = record { hits_are = sh.counts.hits_are; reclaims_are = sh.counts.reclaims_are; faults_are = sh.counts.faults_are; evictions_are = sh.counts.evictions_are };
  } where
    none : (q : ℕ) → ltb q 0 ≡ false
    none q = le-ltb q 0 (omega arith)

  -- After the last page everything is.
  pub partly_all : (P : Works S R) (w : Paged) → Shows told meaning s P (partly (pages_of s) w) → Shows told meaning s P (paged_settle (pages_of s) w)
  partly_all P w sh = record {
    frames = record {
      slots_are = sh.frames.slots_are;
      room_is = sh.frames.room_is;
      order_is = sh.frames.order_is;
      sound = sh.frames.sound;
      dirty_are = λ q i h. rw (lt-ltb q (pages_of s) (omega (arith, frames_low told meaning s P (partly (pages_of s) w) sh q i h, sh.store.pages_are))) at (sh.frames.dirty_are q i h);
      others_clean = λ q a. refl;
      bytes_are = sh.frames.bytes_are;
    };
    store = record {
      pages_are = sh.store.pages_are;
      bytes_are = λ q low. rw (lt-ltb q (pages_of s) low) at (sh.store.bytes_are q low);
      fetches_are = sh.store.fetches_are;
      saves_are = sh.store.saves_are;
    };
    counts = record { hits_are = sh.counts.hits_are; reclaims_are = sh.counts.reclaims_are; faults_are = sh.counts.faults_are; evictions_are = sh.counts.evictions_are };
  }

-- The settle has come to the end.
pub partly_end : {S R : Type 0} (meaning : S → Meaning) (told : R → ℕ) (P Q : Works S R) (m : ℕ) → Settling meaning told P Q m → m ≡ length (meaning P.below).bytes →
    (s : Setting) (w : Paged) → Shows told meaning s P w → Shows told meaning s Q (paged_settle (pages_of s) w)
partly_end meaning told P Q m inv over s w sh = partly_all told meaning s Q w (subst (λ n. Shows told meaning s Q (partly n w)) (over ∙ sh.store.pages_are) (inv.shows s w sh))

-- A settled pager.
module _ {S R : Type 0} (meaning : S → Meaning) (told : R → ℕ) (P Q : Works S R) (booked : Booked meaning told P) (shows : Shows told meaning booked.setting Q (paged_settle (pages_of booked.setting) booked.model)) where
  kept' : Kept (pages_of booked.setting) booked.setting.slots (paged_settle (pages_of booked.setting) booked.model) booked.book
  kept' = kept_settle (pages_of booked.setting) booked.setting.slots booked.model booked.book booked.kept

  pub settle_ready : Booked meaning told Q
  settle_ready = record {
    setting = booked.setting;
    model = paged_settle (pages_of booked.setting) booked.model;
    book = booked.book;
    sized = booked.sized;
    shows = shows;
    kept = kept';
    long = booked.long;
  }

  settle_keeps : book_of meaning Q ≡ book_of meaning P
  settle_keeps = book_is told meaning booked.setting Q (paged_settle (pages_of booked.setting) booked.model) booked.book shows kept' ∙ sym (bytes_are meaning told P booked)

  pub settle_below : (meaning Q.below).bytes ≡ book_of meaning P
  settle_below = ext_get_or [] _ _ (shows.store.pages_are ∙ sym (pages_length booked.book (pages_of booked.setting))) each ∙ sym (bytes_are meaning told P booked) where
    each : (q : ℕ) → q < length (meaning Q.below).bytes → get_or (meaning Q.below).bytes q [] ≡ get_or (pages_by booked.book (pages_of booked.setting)) q []
    each q h =
        let low : q < pages_of booked.setting = omega (arith, shows.store.pages_are) in
        shows.store.bytes_are q low ∙ (settle_leaves (pages_of booked.setting) booked.setting.slots booked.model booked.book booked.kept q ∙ sym (page_at booked.book (pages_of booked.setting) q low))

module _ {S R : Type 0} (meaning : S → Meaning) (told : R → ℕ) (P Q : Works S R) (booked : ∥ Booked meaning told P ∥₁) (step : (s : Setting) (w : Paged) → Shows told meaning s P w → Shows told meaning s Q (paged_settle (pages_of s) w)) where
  pub settle_goes_on : Booked meaning told P → Booked meaning told Q
  settle_goes_on y = settle_ready meaning told P Q y (step y.setting y.model y.shows)

  pub settled_keeps : book_of meaning Q ≡ book_of meaning P
  settled_keeps = ∥∥₁_elim booked (books_set _ _) (λ y. settle_keeps meaning told P Q y (step y.setting y.model y.shows))

  pub settled_below : (meaning Q.below).bytes ≡ book_of meaning P
  settled_below = ∥∥₁_elim booked (books_set _ _) (λ y. settle_below meaning told P Q y (step y.setting y.model y.shows))

-- A page of a frame is a page of the store below in the course of a settle too.
pub low_of : {S R : Type 0} (meaning : S → Meaning) (told : R → ℕ) (P Q : Works S R) (m : ℕ) → ∥ Booked meaning told P ∥₁ → Settling meaning told P Q m → (q i : ℕ) → In (frames_of Q) q i → q < length (meaning Q.below).bytes
low_of meaning told P Q m booked inv q i h = ∥∥₁_elim booked le_prop (λ y. frames_low told meaning y.setting Q (partly m y.model) (inv.shows y.setting y.model y.shows) q i h)
