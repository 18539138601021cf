-- The byte book of a pager.
use Rattle.std.proofs.Common.{◌≡◌, ℕ, zero, suc, ◌<◌, true, false, cond, ◌&&◌, eqb, ◌⊎◌, List, [], ◌∷◌, map, length, get_or, set, sym, refl, ap, ◌∙◌, inl, inr, arith}
use Rattle.std.specs.List.{range_with_len}
use Rattle.std.proofs.lemmas.List.{ext_get_or, length-set, get_or-set_same, get_or-set_other}
use Rattle.std.proofs.lemmas.List.FromFn.{length-map-range_with_len, get_or-map-range_with_len}
use Rattle.std.proofs.lemmas.Bool.{cases_Bool, and_parts, eq-eqb, true≢false}
use Rattle.lists.proofs.Weights.{eqb_cases}
use Rattle.store.specs.Meaning.{Meaning}
use Rattle.model.specs.Bytes.{Paged, book_step, writes}
use Rattle.model.specs.Kept.{Kept}
use Rattle.pager.specs.declared.frame.Frame.{Frame}
use Rattle.pager.specs.declared.works.Works.{Works}
use Rattle.pager.specs.Frames.{at, taken, In, Absent}
use Rattle.pager.specs.Settings.{Setting, pages_of}
use Rattle.pager.specs.Shows.{frames_of, Shows}
use Rattle.pager.specs.Book.{bytes_of, book_in}
use Rattle.pager.proofs.Holders.{in_order}

-- A page's bytes are those of a frame that holds it, or no frame does.
Found : List Frame → ℕ → List ℕ → Type 0
Found t q d = ((i : ℕ) × In t q i × (bytes_of t q d ≡ (at t i).bytes)) ⊎ (Absent t q × (bytes_of t q d ≡ d))

further : (f : Frame) (t : List Frame) (q : ℕ) (d : List ℕ) → (taken f.links.part && eqb f.page q) ≡ false → Found t q d → Found (f ∷ t) q d
unfolding Found
further f t q d n (inl w) = inl (suc w.0, record { within = omega (arith, w.1.within); held = w.1.held; here = w.1.here }, rw n w.2)
further f t q d n (inr w) = inr (none, rw n w.1) where
  none : Absent (f ∷ t) q
  none zero h = true≢false (sym (rw (h.held, eq-eqb f.page q h.here) refl) ∙ n)
  none (suc i) h = w.0 i (record { within = omega (arith, h.within); held = h.held; here = h.here })

found : (t : List Frame) (q : ℕ) (d : List ℕ) → Found t q d
unfolding Found
found [] q d = inr ((λ i h. omega (arith, h.within)), refl)
found (f ∷ t) q d = elim (cases_Bool (taken f.links.part && eqb f.page q)) [
  | inl y ↦ let a = and_parts (taken f.links.part) (eqb f.page q) y in inl (0, record { within = omega arith; held = a.0; here = page a.1 }, rw y refl)
  | inr n ↦ further f t q d n (found t q d)
] where
  page : eqb f.page q ≡ true → f.page ≡ q
  page e = elim (eqb_cases f.page q) [ inl y ↦ y.0 | inr n ↦ absurd (true≢false (sym e ∙ n.1)) ]

-- The book as a list of the pages' bytes.
abbrev pub pages_by : (ℕ → List ℕ) → ℕ → List (List ℕ)
pages_by book n = map book (range_with_len 0 n)

pub pages_length : (book : ℕ → List ℕ) (n : ℕ) → length (pages_by book n) ≡ n
pages_length book n = length-map-range_with_len book 0 n

pub page_at : (book : ℕ → List ℕ) (n q : ℕ) → q < n → get_or (pages_by book n) q [] ≡ book q
page_at book n q h = get_or-map-range_with_len book 0 n q q [] h (omega arith)

module _ {S R : Type 0} (told : R → ℕ) (meaning : S → Meaning) (s : Setting) (P : Works S R) (w : Paged) (book : ℕ → List ℕ) (sh : Shows told meaning s P w) (kept : Kept (pages_of s) s.slots w book) where
  each : (q : ℕ) → q < pages_of s → bytes_of (frames_of P) q (get_or (meaning P.below).bytes q []) ≡ book q
  unfolding Found
  each q low = elim (found (frames_of P) q (get_or (meaning P.below).bytes q [])) [
    | inl y ↦ y.2 ∙ (sh.frames.bytes_are q y.0 y.1 ∙ kept.framed q (in_order told P.table.parts (frames_of P) w.pager.order sh.frames.order_is q y.0 y.1))
    | inr n ↦ n.1 ∙ (sh.store.bytes_are q low ∙ kept.clean q (sh.frames.others_clean q n.0))
  ]

  -- The book that the frames and the store below make up is the model's.
  pub book_is : book_in (frames_of P) (meaning P.below).bytes ≡ pages_by book (pages_of s)
  book_is = ext_get_or [] _ _ long (λ q h. let low : q < length (meaning P.below).bytes = omega (arith, ap (λ n. n) (pages_length (λ x. bytes_of (frames_of P) x (get_or (meaning P.below).bytes x [])) (length (meaning P.below).bytes))) in
      page_at (λ x. bytes_of (frames_of P) x (get_or (meaning P.below).bytes x [])) (length (meaning P.below).bytes) q low ∙ (each q (omega (arith, sh.store.pages_are)) ∙ sym (page_at book (pages_of s) q (omega (arith, sh.store.pages_are))))) where
        long : length (book_in (frames_of P) (meaning P.below).bytes) ≡ length (pages_by book (pages_of s))
        long = pages_length (λ x. bytes_of (frames_of P) x (get_or (meaning P.below).bytes x [])) (length (meaning P.below).bytes) ∙ (sh.store.pages_are ∙ sym (pages_length book (pages_of s)))

-- The book after a write.
pub book_write : (book : ℕ → List ℕ) (n p : ℕ) (b : List ℕ) → pages_by (book_step book (writes p b)) n ≡ set (pages_by book n) p b
book_write book n p b = ext_get_or [] _ _ (pages_length (book_step book (writes p b)) n ∙ (sym (pages_length book n) ∙ sym (length-set (pages_by book n) p b))) (λ q h. let low : q < n = omega (arith, pages_length (book_step book (writes p b)) n) in page_at (book_step book (writes p b)) n q low ∙ at_q q low) where
  at_q : (q : ℕ) → q < n → cond (eqb q p) b (book q) ≡ get_or (set (pages_by book n) p b) q []
  at_q q low = elim (eqb_cases q p) [
    | inl e ↦ rw (e.1, e.0) (sym (get_or-set_same (pages_by book n) p b [] (omega (arith, pages_length book n, e.0))))
    | inr m ↦ rw m.1 (sym (get_or-set_other (pages_by book n) p q b [] m.0 ∙ page_at book n q low))
  ]
