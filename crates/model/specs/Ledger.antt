use Rattle.std.specs.Prelude.{ℕ, ◌+◌, cond, List, [], Some, None, fold, Option, ◌==◌}
use Rattle.lists.specs.Weights.{total}
use Rattle.model.specs.declared.UseKind.{UseKind}
use Rattle.model.specs.declared.UseKind.TheVariants.{Read, Write}
use Rattle.model.specs.declared.Call.{Call}
use Rattle.model.specs.declared.Call.TheVariants.{Use, Settle}
use Rattle.model.specs.Order.{Rule, Order, fresh, used, depth_of}
use Rattle.model.specs.Windows.{watched, is_open, noted, absent}

-- What a census has seen: the order of a pager whose bottom is without limit, the mark of each page's open window,
-- and what it counted, as lists of what was counted: the depths at which reads and writes found their pages,
-- the marks of the windows that writes ended, and how often a page was new, a window was ended by a settle, and a call was shown.
pub record Ledger : Type 0 where
  pub order : Order
  pub marks : ℕ → Option ℕ
  pub reads : List ℕ
  pub writes : List ℕ
  pub ended : List ℕ
  pub new_reads : ℕ
  pub new_writes : ℕ
  pub settled : ℕ
  pub calls : ℕ

-- Nothing was shown yet.
abbrev pub unseen : ℕ → Ledger
unseen told = record {
  order = fresh told;
  marks = λ q. None;
  reads = [];
  writes = [];
  ended = [];
  new_reads = 0;
  new_writes = 0;
  settled = 0;
  calls = 0;
}

-- A read of page p. Its depth is found before anything moves.
abbrev pub shown_read : Rule → ℕ → ℕ → Ledger → Ledger
shown_read r k p b = record {
  order = used r k p b.order;
  marks = watched (used r k p b.order) b.marks;
  reads = noted (depth_of p b.order) b.reads;
  writes = b.writes;
  ended = b.ended;
  new_reads = b.new_reads + absent (depth_of p b.order);
  new_writes = b.new_writes;
  settled = b.settled;
  calls = b.calls + 1;
}

-- A write of page p. It ends the page's window, with the mark that the window has, and opens one with the mark 0.
abbrev pub shown_write : Rule → ℕ → ℕ → Ledger → Ledger
shown_write r k p b = record {
  order = used r k p b.order;
  marks = λ q. cond (q == p) (Some 0) (watched (used r k p b.order) b.marks q);
  reads = b.reads;
  writes = noted (depth_of p b.order) b.writes;
  ended = noted (b.marks p) b.ended;
  new_reads = b.new_reads;
  new_writes = b.new_writes + absent (depth_of p b.order);
  settled = b.settled;
  calls = b.calls + 1;
}

-- A settle ends every open window of the n pages, and moves nothing.
abbrev pub shown_settle : ℕ → Ledger → Ledger
shown_settle n b = record {
  order = b.order;
  marks = λ q. None;
  reads = b.reads;
  writes = b.writes;
  ended = b.ended;
  new_reads = b.new_reads;
  new_writes = b.new_writes;
  settled = b.settled + total n (λ q. is_open (b.marks q));
  calls = b.calls + 1;
}

-- A use of either kind.
abbrev pub shown_use : Rule → ℕ → UseKind → ℕ → Ledger → Ledger
shown_use r k Read p b = shown_read r k p b
shown_use r k Write p b = shown_write r k p b

-- One call.
abbrev pub shown : Rule → ℕ → ℕ → Ledger → Call → Ledger
shown r n k b (Use kind p) = shown_use r k kind p b
shown r n k b Settle = shown_settle n b

-- A list of calls, in order.
abbrev pub shown_all : Rule → ℕ → ℕ → Ledger → List Call → Ledger
shown_all r n k b calls = fold (shown r n k) b calls
