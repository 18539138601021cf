use Rattle.std.specs.Prelude.{◌≡◌, ℕ, ◌+◌, ◌<◌, ◌≤◌, List, length}
use Rattle.model.specs.Order.{Rule}
use Rattle.model.specs.Ledger.{Ledger, unseen, shown_all}
use Rattle.model.specs.Rows.{wrapped, row_of}
use Rattle.model.specs.Pager.{cut}
use Rattle.model.specs.Bytes.{Deed, accepted, shown_of, Paged, paged_fresh, paged_settle, paged_run, given, book_run}
use Rattle.model.specs.Lru.{lru_faults}

-- A pager of n pages, k slots and a bottom of at most l pages, with its bytes; a census that was shown the same calls;
-- the faults of plain LRU with l + 1 frames over them; and the byte book. What holds between them:
pub record Agree (r : Rule) (n k l : ℕ) (w : Paged) (b : Ledger) (lru : ℕ) (book : ℕ → List ℕ) : Type 0 where
  -- the pager is where the census is, but for what its bottom has no room for
  pub frames_are_first : w.pager.order ≡ cut l b.order
  -- the pager's counts are the row's
  pub fetches_are_row : wrapped w.pager.fetches ≡ (row_of n k l b).fetches
  pub saves_are_row : wrapped w.pager.saves ≡ (row_of n k l b).saves
  pub faults_are_row : wrapped w.pager.faults ≡ (row_of n k l b).faults
  pub reclaims_are_row : wrapped w.pager.reclaims ≡ (row_of n k l b).reclaims
  pub evictions_are_row : wrapped w.pager.evictions ≡ (row_of n k l b).evictions
  -- a longer bottom never has more faults, and never more saves
  pub faults_fall : (row_of n k (l + 1) b).faults ≤ (row_of n k l b).faults
  pub saves_fall : (row_of n k (l + 1) b).saves ≤ (row_of n k l b).saves
  -- never more faults than plain LRU with l + 1 frames, and as many with one slot
  pub faults_under_lru : (row_of n k l b).faults ≤ wrapped lru
  pub faults_with_one_slot : k ≡ 1 → (row_of n k l b).faults ≡ wrapped lru
  -- a read gives the book's bytes
  pub read_gives_book : (p : ℕ) → p < n → given r k l p w ≡ book p
  -- right after a settle the store below has the book's bytes
  pub settle_leaves_book : (q : ℕ) → (paged_settle n w).below q ≡ book q

-- For every rule, page count, slots from 1, bottom size, first state of the rule, first bytes below,
-- and every list of at most 2^32 − 1 deeds, with refused ones anywhere: after it the pager and the census agree.
-- A list may end anywhere, so this holds before each read and each settle of a longer one too.
abbrev pub Agreement : Type 0
Agreement = (r : Rule) (n k l told : ℕ) (first : ℕ → List ℕ) → 0 < k → ((state : ℕ) → r.slot state k < k) →
    (deeds : List Deed) → length deeds ≤ 4294967295 →
    Agree r n k l
    (paged_run r n k l (paged_fresh told first) (accepted n deeds))
    (shown_all r n k (unseen told) (shown_of (accepted n deeds)))
    (lru_faults (l + 1) (shown_of (accepted n deeds)))
    (book_run first (accepted n deeds))
