use Rattle.std.specs.Prelude.{◌≡◌, ℕ, ◌<◌, true, false, List}
use Rattle.model.specs.Sound.{Sound}
use Rattle.model.specs.Pager.{frames}
use Rattle.model.specs.Bytes.{Paged}

-- A pager of n pages and k slots keeps the bytes of a book: a frame has the book's bytes;
-- so has the store below for each page that is not dirty; and a dirty page has a frame.
pub record Kept (n k : ℕ) (w : Paged) (book : ℕ → List ℕ) : Type 0 where
  pub sound : Sound n k w.pager.order
  pub framed : (q : ℕ) → 0 < frames q w.pager.order → w.frame q ≡ book q
  pub clean : (q : ℕ) → w.pager.dirty q ≡ false → w.below q ≡ book q
  pub held : (q : ℕ) → w.pager.dirty q ≡ true → 0 < frames q w.pager.order
