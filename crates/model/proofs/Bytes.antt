-- The bytes of a pager, deed by deed, against the byte book.
use Rattle.std.proofs.Common.{◌≡◌, ℕ, ◌+◌, ◌<◌, true, false, cond, not, ◌≢◌, List, [], ◌∷◌, sym, refl, inl, inr, arith}
use Rattle.std.specs.List.{AllByRecursion}
use Rattle.std.proofs.lemmas.Bool.{cases_Bool, both_ways, eq-eqb, ltb-false, and_parts, not-true}
use Rattle.lists.specs.Weights.{occ, has}
use Rattle.lists.proofs.Weights.{eqb_cases}
use Rattle.model.specs.Order.{Rule, used}
use Rattle.model.specs.Sound.{Sound}
use Rattle.model.specs.Pager.{cut, holds, frames, evicted, still_dirty}
use Rattle.model.specs.Bytes.{Deed, reads, writes, settles, Paged, paged_fresh, saved_below, paged_read, paged_write, paged_settle, paged_run, given, book_step, book_run}
use Rattle.model.proofs.Uses.{sound_fresh, sound_used, used_in}
use Rattle.model.specs.Kept.{Kept}
use Rattle.model.proofs.Moves.{holds_cases, sound_cut, parted}

-- A use of page p.
module _ (r : Rule) (n k l p : ℕ) (slots : (state : ℕ) → r.slot state k < k) (low : p < n) (w : Paged) (book : ℕ → List ℕ) (c : Kept n k w book) where
  kin : (q : ℕ) → p ≢ q → frames q (cut l (used r k p w.pager.order)) + occ q (evicted r k l p w.pager.order) ≡ frames q w.pager.order
  kin = parted r n k p w.pager.order c.sound (slots w.pager.order.told) l

  use_sound : Sound n k (cut l (used r k p w.pager.order))
  use_sound = sound_cut n k l (used r k p w.pager.order) (sound_used n k p w.pager.order c.sound low r (slots w.pager.order.told))

  use_framed : (q : ℕ) → p ≢ q → 0 < frames q (cut l (used r k p w.pager.order)) → w.frame q ≡ book q
  use_framed q ne h = c.framed q (omega (arith, kin q ne))

  use_clean : (q : ℕ) → still_dirty r k l p w.pager q ≡ false → saved_below r k l p w q ≡ book q
  use_clean q = elim (cases_Bool (w.pager.dirty q)) [
    | inl t ↦ rw t (elim (cases_Bool (has q (evicted r k l p w.pager.order))) [
      | inl y ↦ rw y (λ z. c.framed q (c.held q t))
      | inr m ↦ rw m (λ z. absurd (both_ways true z refl))
    ])
    | inr f ↦ rw f (λ z. c.clean q f)
  ]

  use_held : (q : ℕ) → still_dirty r k l p w.pager q ≡ true → 0 < frames q (cut l (used r k p w.pager.order))
  use_held q t = elim (eqb_cases p q) [
    | inl e ↦ rw (← e.0) (omega (arith, used_in n k p w.pager.order r (slots w.pager.order.told)))
    | inr m ↦ let a = and_parts (w.pager.dirty q) (not (has q (evicted r k l p w.pager.order))) t in omega (arith, kin q m.0, c.held q a.0, ltb-false 0 (occ q (evicted r k l p w.pager.order)) (not-true (has q (evicted r k l p w.pager.order)) a.1))
  ]

  -- What a read finds is the book's.
  found : cond (holds p w.pager.order) (w.frame p) (saved_below r k l p w p) ≡ book p
  found = elim (holds_cases p w.pager.order) [
    | inl y ↦ rw y.1 (c.framed p y.0)
    | inr m ↦ rw m.1 (elim (cases_Bool (w.pager.dirty p)) [
      | inl t ↦ absurd (omega (arith, c.held p t, m.0))
      | inr f ↦ rw f (c.clean p f)
    ])
  ]

  pub read_gives : given r k l p w ≡ book p
  read_gives = rw (eq-eqb p p refl) found

  pub kept_read : Kept n k (paged_read r k l p w) book
  kept_read = record {
    sound = use_sound;
    framed = λ q. elim (eqb_cases q p) [
      | inl e ↦ rw (e.1, e.0) (λ z. found)
      | inr m ↦ rw m.1 (use_framed q (λ z. m.0 (sym z)))
    ];
    clean = use_clean;
    held = use_held;
  }

  pub kept_write : (bytes : List ℕ) → Kept n k (paged_write r k l p bytes w) (book_step book (writes p bytes))
  kept_write bytes = record {
    sound = use_sound;
    framed = λ q. elim (eqb_cases q p) [
      | inl e ↦ rw e.1 (λ z. refl)
      | inr m ↦ rw m.1 (use_framed q (λ z. m.0 (sym z)))
    ];
    clean = λ q. elim (eqb_cases q p) [
      | inl e ↦ rw e.1 (λ z. absurd (both_ways true z refl))
      | inr m ↦ rw m.1 (use_clean q)
    ];
    held = λ q. elim (eqb_cases q p) [
      | inl e ↦ rw (e.1, e.0) (λ z. omega (arith, used_in n k p w.pager.order r (slots w.pager.order.told)))
      | inr m ↦ rw m.1 (use_held q)
    ];
  }

module _ (n k : ℕ) (w : Paged) (book : ℕ → List ℕ) (c : Kept n k w book) where
  pub settle_leaves : (q : ℕ) → (paged_settle n w).below q ≡ book q
  settle_leaves q = elim (cases_Bool (w.pager.dirty q)) [
    | inl t ↦ rw t (c.framed q (c.held q t))
    | inr f ↦ rw f (c.clean q f)
  ]

  pub kept_settle : Kept n k (paged_settle n w) book
  kept_settle = record {
    sound = c.sound;
    framed = c.framed;
    clean = λ q f. settle_leaves q;
    held = λ q t. absurd (both_ways false refl t);
  }

-- A deed of a page below n, or a settle.
abbrev pub Within : ℕ → Deed → Type 0
Within n (reads p) = p < n
Within n (writes p bytes) = p < n
Within n settles = Unit {0}

pub kept_run : (r : Rule) (n k l : ℕ) → ((state : ℕ) → r.slot state k < k) → (w : Paged) (book : ℕ → List ℕ) → Kept n k w book → (ds : List Deed) → AllByRecursion (Within n) ds → Kept n k (paged_run r n k l w ds) (book_run book ds)
kept_run r n k l slots w book c [] h = c
kept_run r n k l slots w book c (reads p ∷ ds) h = kept_run r n k l slots (paged_read r k l p w) book (kept_read r n k l p slots h.0 w book c) ds h.1
kept_run r n k l slots w book c (writes p bytes ∷ ds) h = kept_run r n k l slots (paged_write r k l p bytes w) (book_step book (writes p bytes)) (kept_write r n k l p slots h.0 w book c bytes) ds h.1
kept_run r n k l slots w book c (settles ∷ ds) h = kept_run r n k l slots (paged_settle n w) book (kept_settle n k w book c) ds h.1

pub kept_fresh : (n k told : ℕ) (first : ℕ → List ℕ) → Kept n k (paged_fresh told first) first
kept_fresh n k told first = record {
  sound = sound_fresh n k told;
  framed = λ q h. absurd (omega arith);
  clean = λ q f. refl;
  held = λ q t. absurd (both_ways false refl t);
}
