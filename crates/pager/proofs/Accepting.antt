-- A pager as a store: what an accepted and a refused call do to its meaning.
use mathlib.Core.Logic.{∥∥₁_elim}
use Rattle.std.proofs.Common.{◌≡◌, ℕ, ◌<◌, List, [], length, get_or, set, Ok, Err, sym, refl, ap, ◌∙◌, inl, inr, arith}
use Rattle.std.proofs.lemmas.List.FromFn.{length-map-range_with_len}
use Rattle.lists.proofs.Weights.{eqb_cases}
use Rattle.store.specs.declared.StoreRefusal.{StoreRefusal}
use Rattle.store.specs.declared.tallies.Tallies.{Tallies}
use Rattle.store.specs.Meaning.{Meaning}
use Rattle.store.specs.Counting.{one_fetch, one_save}
use Rattle.store.specs.Sized.{Sized}
use Rattle.store.specs.Uses.{may_use, Fetched, Saved}
use Rattle.store.proofs.Calls.{accepted_length, accepted_page}
use Rattle.model.specs.Order.{Rule}
use Rattle.model.specs.Bytes.{Paged, paged_read, paged_write, writes, book_step}
use Rattle.model.proofs.Bytes.{kept_read, kept_write}
use Rattle.pager.specs.declared.works.Works.{Works}
use Rattle.std.proofs.Props.{props}
use Rattle.pager.specs.declared.frame.Frame.{Frame}
use Rattle.pager.specs.Frames.{at, In}
use Rattle.pager.specs.Settings.{Setting, pages_of}
use Rattle.pager.specs.Shows.{frames_of, Shows}
use Rattle.pager.specs.Book.{bytes_of, book_of, pager_meaning}
use Rattle.pager.specs.Booked.{Booked}
use Rattle.pager.proofs.Holders.{in_order}
use Rattle.pager.proofs.Touching.{rule_below}
use Rattle.pager.proofs.Booking.{pages_by, page_at, book_is, book_write}

-- Of each of these facts there is one proof at most.
pub sized_prop : (a : List (List ℕ)) → IsProp (Sized a)
sized_prop a = hlevel props

pub books_set : (a b : List (List ℕ)) → IsProp (a ≡ b)
books_set a b = hlevel props

pub bytes_set : (a b : List ℕ) → IsProp (a ≡ b)
bytes_set a b = hlevel props

pub counts_set : (a b : ℕ) → IsProp (a ≡ b)
counts_set a b = hlevel props

pub never_prop : IsProp ⊥
never_prop = hlevel props

pub in_prop : (t : List Frame) (q i : ℕ) → IsProp (In t q i)
in_prop t q i = hlevel props

-- The book has a page for each of the store below.
pub count_is : {S R : Type 0} (meaning : S → Meaning) (P : Works S R) → length (book_of meaning P) ≡ length (meaning P.below).bytes
count_is meaning P = length-map-range_with_len (λ q. bytes_of (frames_of P) q (get_or (meaning P.below).bytes q [])) 0 (length (meaning P.below).bytes)

module _ {S R : Type 0} (meaning : S → Meaning) (told : R → ℕ) (P : Works S R) (booked : Booked meaning told P) where
  pub bytes_are : book_of meaning P ≡ pages_by booked.book (pages_of booked.setting)
  bytes_are = book_is told meaning booked.setting P booked.model booked.book booked.shows booked.kept

  sized_ready : Sized (book_of meaning P)
  sized_ready = record {
    some = omega (arith, count_is meaning P, booked.shows.store.pages_are, booked.sized.some);
    few = omega (arith, count_is meaning P, booked.shows.store.pages_are, booked.sized.few);
    even = λ q h. let low : q < pages_of booked.setting = omega (arith, count_is meaning P, booked.shows.store.pages_are) in ap (λ xs. length (get_or xs q [])) bytes_are ∙ (ap length (page_at booked.book (pages_of booked.setting) q low) ∙ booked.long q low);
  }

  -- A call that is accepted, and the pager Q then.
  module _ (page : ℕ) (low : page < pages_of booked.setting) (Q : Works S R) (r : Rule) (slots : (state : ℕ) → r.slot state booked.setting.slots < booked.setting.slots) where
    module _ (shows : Shows told meaning booked.setting Q (paged_read r booked.setting.slots booked.setting.bottom page booked.model)) where
      pub read_ready : Booked meaning told Q
      read_ready = record {
        setting = booked.setting;
        model = paged_read r booked.setting.slots booked.setting.bottom page booked.model;
        book = booked.book;
        sized = booked.sized;
        shows = shows;
        kept = kept_read r (pages_of booked.setting) booked.setting.slots booked.setting.bottom page slots low booked.model booked.book booked.kept;
        long = booked.long;
      }

      read_keeps : book_of meaning Q ≡ book_of meaning P
      unfolding read_ready
      read_keeps = book_is told meaning booked.setting Q read_ready.model booked.book shows read_ready.kept ∙ sym bytes_are

      read_gives : (i : ℕ) → In (frames_of Q) page i → (at (frames_of Q) i).bytes ≡ get_or (book_of meaning P) page []
      unfolding read_ready
      read_gives i here = shows.frames.bytes_are page i here ∙ (read_ready.kept.framed page (in_order told Q.table.parts (frames_of Q) read_ready.model.pager.order shows.frames.order_is page i here)
          ∙ (sym (page_at booked.book (pages_of booked.setting) page low) ∙ sym (ap (λ xs. get_or xs page []) bytes_are)))

    module _ (b : List ℕ) (long : length b ≡ 64) (shows : Shows told meaning booked.setting Q (paged_write r booked.setting.slots booked.setting.bottom page b booked.model)) where
      pub write_ready : Booked meaning told Q
      write_ready = record {
        setting = booked.setting;
        model = paged_write r booked.setting.slots booked.setting.bottom page b booked.model;
        book = book_step booked.book (writes page b);
        sized = booked.sized;
        shows = shows;
        kept = kept_write r (pages_of booked.setting) booked.setting.slots booked.setting.bottom page slots low booked.model booked.book booked.kept b;
        long = λ q h. elim (eqb_cases q page) [
          | inl e ↦ rw e.1 long
          | inr n ↦ rw n.1 (booked.long q h)
        ];
      }

      write_keeps : book_of meaning Q ≡ set (book_of meaning P) page b
      unfolding write_ready
      write_keeps = book_is told meaning booked.setting Q write_ready.model (book_step booked.book (writes page b)) shows write_ready.kept ∙ (book_write booked.book (pages_of booked.setting) page b ∙ ap (λ xs. set xs page b) (sym bytes_are))

-- A step that goes along with the model leaves the store below as many pages.
pub pages_stay : {S R : Type 0} (meaning : S → Meaning) (told : R → ℕ) (P Q : Works S R) → ∥ Booked meaning told P ∥₁ → (f : Setting → Paged → Paged) →
    ((s : Setting) (w : Paged) → Shows told meaning s P w → Shows told meaning s Q (f s w)) → length (meaning P.below).bytes ≡ length (meaning Q.below).bytes
pages_stay meaning told P Q booked f step = ∥∥₁_elim booked (counts_set _ _) (λ y. y.shows.store.pages_are ∙ sym (step y.setting y.model y.shows).store.pages_are)

-- The same of works of which it is known only that they are booked.
module _ {S R : Type 0} (meaning : S → Meaning) (told : R → ℕ) (P : Works S R) (booked : ∥ Booked meaning told P ∥₁) where
  pub pager_sized : Sized (book_of meaning P)
  pager_sized = ∥∥₁_elim booked (sized_prop _) (λ y. sized_ready meaning told P y)

  module _ (t : Tallies) (page : ℕ) (b : List ℕ) where
    pub refused_read : (e : StoreRefusal) → Err e ≡ may_use (length (meaning P.below).bytes) page (length b) → Fetched (pager_meaning meaning P t) page b (Err e) (pager_meaning meaning P t) b
    refused_read e h = record { answered = h ∙ ap (λ n. may_use n page (length b)) (sym (count_is meaning P)); effect = (refl, refl) }

    pub refused_write : (e : StoreRefusal) → Err e ≡ may_use (length (meaning P.below).bytes) page (length b) → Saved (pager_meaning meaning P t) page b (Err e) (pager_meaning meaning P t)
    refused_write e h = record { answered = h ∙ ap (λ n. may_use n page (length b)) (sym (count_is meaning P)); effect = refl }

    -- The call is accepted, and the pager is Q then.
    module _ (Q : Works S R) (r : Rule) (below : (state k : ℕ) → 0 < k → r.slot state k < k) (ok : Ok tt ≡ may_use (length (meaning P.below).bytes) page (length b)) where
      answer : Ok tt ≡ may_use (length (book_of meaning P)) page (length b)
      answer = ok ∙ ap (λ n. may_use n page (length b)) (sym (count_is meaning P))

      low : (y : Booked meaning told P) → page < pages_of y.setting
      low y = omega (arith, accepted_page (length (meaning P.below).bytes) page (length b) ok, y.shows.store.pages_are)

      slots : (y : Booked meaning told P) (state : ℕ) → r.slot state y.setting.slots < y.setting.slots
      slots y = rule_below told r y.setting P.table.parts (frames_of P) y.model y.shows.frames below

      module _ (shows : (s : Setting) (w : Paged) → Shows told meaning s P w → Shows told meaning s Q (paged_read r s.slots s.bottom page w)) where
        pub read_goes_on : Booked meaning told P → Booked meaning told Q
        read_goes_on y = read_ready meaning told P y page (low y) Q r (slots y) (shows y.setting y.model y.shows)

        pub read_effect : (i : ℕ) (b2 : List ℕ) → In (frames_of Q) page i → b2 ≡ (at (frames_of Q) i).bytes → Fetched (pager_meaning meaning P t) page b (Ok tt) (pager_meaning meaning Q (one_fetch t)) b2
        read_effect i b2 here is = record {
          answered = answer;
          effect = (
            ap (λ xs. record { bytes = xs; tallies = one_fetch t }) (∥∥₁_elim booked (books_set _ _) (λ y. read_keeps meaning told P y page (low y) Q r (slots y) (shows y.setting y.model y.shows))),
            is ∙ ∥∥₁_elim booked (bytes_set _ _) (λ y. read_gives meaning told P y page (low y) Q r (slots y) (shows y.setting y.model y.shows) i here),
          );
        }

      module _ (shows : (s : Setting) (w : Paged) → Shows told meaning s P w → Shows told meaning s Q (paged_write r s.slots s.bottom page b w)) where
        long : length b ≡ 64
        long = accepted_length (length (meaning P.below).bytes) page (length b) ok

        pub write_goes_on : Booked meaning told P → Booked meaning told Q
        write_goes_on y = write_ready meaning told P y page (low y) Q r (slots y) b long (shows y.setting y.model y.shows)

        pub write_effect : Saved (pager_meaning meaning P t) page b (Ok tt) (pager_meaning meaning Q (one_save t))
        write_effect = record {
          answered = answer;
          effect = ap (λ xs. record { bytes = xs; tallies = one_save t }) (∥∥₁_elim booked (books_set _ _) (λ y. write_keeps meaning told P y page (low y) Q r (slots y) b long (shows y.setting y.model y.shows)));
        }
