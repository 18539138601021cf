use Rattle.std.specs.Prelude.{ℕ, Bool, true, cond, ◌&&◌, List, [], ◌∷◌, map, length, fold, ◌==◌, nat_lt}
use Rattle.lists.specs.Weights.{has}
use Rattle.model.specs.declared.UseKind.TheVariants.{Read, Write}
use Rattle.model.specs.declared.Call.{Call}
use Rattle.model.specs.declared.Call.TheVariants.{Use, Settle}
use Rattle.model.specs.Order.{Rule}
use Rattle.model.specs.Pager.{Pager, holds, evicted, pager_fresh, pager_read, pager_write, pager_settle}

-- A call with the bytes that it brings.
pub data Deed : Type 0 where
  reads : ℕ → Deed
  writes : ℕ → List ℕ → Deed
  settles : Deed

-- A deed without its bytes.
abbrev pub call_of : Deed → Call
call_of (reads p) = Use Read p
call_of (writes p bytes) = Use Write p
call_of settles = Settle

-- The calls of a list of deeds.
abbrev pub shown_of : List Deed → List Call
shown_of ds = map call_of ds

-- Whether a pager of n pages accepts a deed: the page is one of them, and a page's bytes are 64.
abbrev pub accepts : ℕ → Deed → Bool
accepts n (reads p) = nat_lt p n
accepts n (writes p bytes) = length bytes == 64 && nat_lt p n
accepts n settles = true

-- The deeds that are accepted; the others alter nothing.
abbrev pub accepted : ℕ → List Deed → List Deed
accepted n [] = []
accepted n (d ∷ ds) = cond (accepts n d) (d ∷ accepted n ds) (accepted n ds)

-- A pager with its bytes: those in the frame of each page that has one, and those of each page in the store below.
pub record Paged : Type 0 where
  pub pager : Pager
  pub frame : ℕ → List ℕ
  pub below : ℕ → List ℕ

-- A fresh pager over a store with these bytes.
abbrev pub paged_fresh : ℕ → (ℕ → List ℕ) → Paged
paged_fresh told first = record { pager = pager_fresh told; frame = λ q. []; below = first }

-- The store below once a use of p has saved the dirty pages that it drives out.
abbrev pub saved_below : Rule → ℕ → ℕ → ℕ → Paged → ℕ → List ℕ
saved_below r k l p w q = cond (w.pager.dirty q && has q (evicted r k l p w.pager.order)) (w.frame q) (w.below q)

-- A read of p: what is driven out is saved first, and then a fault fetches the page's bytes into its frame.
abbrev pub paged_read : Rule → ℕ → ℕ → ℕ → Paged → Paged
paged_read r k l p w = record {
  pager = pager_read r k l p w.pager;
  frame = λ q. cond (q == p) (cond (holds p w.pager.order) (w.frame p) (saved_below r k l p w p)) (w.frame q);
  below = saved_below r k l p w;
}

-- A write of p: what is driven out is saved first, and then the page's frame has the bytes written.
abbrev pub paged_write : Rule → ℕ → ℕ → ℕ → List ℕ → Paged → Paged
paged_write r k l p bytes w = record {
  pager = pager_write r k l p w.pager;
  frame = λ q. cond (q == p) bytes (w.frame q);
  below = saved_below r k l p w;
}

-- A settle: the store below has the bytes of every dirty page.
abbrev pub paged_settle : ℕ → Paged → Paged
paged_settle n w = record {
  pager = pager_settle n w.pager;
  frame = w.frame;
  below = λ q. cond (w.pager.dirty q) (w.frame q) (w.below q);
}

-- One accepted deed.
abbrev pub paged_step : Rule → ℕ → ℕ → ℕ → Paged → Deed → Paged
paged_step r n k l w (reads p) = paged_read r k l p w
paged_step r n k l w (writes p bytes) = paged_write r k l p bytes w
paged_step r n k l w settles = paged_settle n w

-- A list of accepted deeds, in order.
abbrev pub paged_run : Rule → ℕ → ℕ → ℕ → Paged → List Deed → Paged
paged_run r n k l w ds = fold (paged_step r n k l) w ds

-- What a read of p gives: the bytes that the page's frame then has.
abbrev pub given : Rule → ℕ → ℕ → ℕ → Paged → List ℕ
given r k l p w = (paged_read r k l p w).frame p

-- The byte book: a write sets its page, and no other deed alters it.
abbrev pub book_step : (ℕ → List ℕ) → Deed → ℕ → List ℕ
book_step book (reads p) = book
book_step book (writes p bytes) = λ q. cond (q == p) bytes (book q)
book_step book settles = book

-- The byte book after a list of accepted deeds.
abbrev pub book_run : (ℕ → List ℕ) → List Deed → ℕ → List ℕ
book_run book ds = fold book_step book ds
