use Rattle.std.specs.Prelude.{◌≡◌, ℕ, ◌<◌, ◌≤◌, List, length, take, Some, None, Option, slice_index_or}
use Rattle.lists.specs.Places.{place}
use Rattle.model.specs.Windows.{raised}
use Rattle.model.specs.Ledger.{Ledger}
use Rattle.model.specs.Rows.{wrapped}
use Rattle.order.specs.Stands.{Stands}
use Rattle.census.specs.declared.page.PageRecord.{PageRecord}
use Rattle.census.specs.Views.{marks, orderly}
use Rattle.census.specs.declared.state.Census.{Census}
use Rattle.census.specs.Refusals.{needed}
use Rattle.census.specs.Columns.{Column, reads_from, writes_from, ended_from}

-- A mark is at most n.
abbrev pub Low : ℕ → Option ℕ → Type 0
Low n None = Unit {0}
Low n (Some m) = m ≤ n

-- A census with its tables, which are as long as it needs, means a ledger: the table stands for the order;
-- a page's mark is the stored one, raised to the depth that the page has now; the columns count the depths and the marks;
-- and the counters are the ledger's, modulo 2^32.
pub record Means {X : Type 0} (told : X → ℕ) (c : Census X) (t : List PageRecord) (counts : List ℕ) (b : Ledger) : Type 0 where
  pub long : length t ≡ c.pages
  pub wide : length counts ≡ needed c.pages
  pub stands : Stands told c.parts (orderly t) b.order
  pub marks_are : (q : ℕ) → q < c.pages → b.marks q ≡ raised (slice_index_or (marks t) q None) (place q b.order.bottom)
  pub marks_low : (q : ℕ) → q < c.pages → Low c.pages (b.marks q)
  pub reads_are : Column c.pages counts (reads_from c.pages) b.reads
  pub writes_are : Column c.pages counts (writes_from c.pages) b.writes
  pub ended_are : Column c.pages counts (ended_from c.pages) b.ended
  pub new_reads_are : c.new_reads ≡ wrapped b.new_reads
  pub new_writes_are : c.new_writes ≡ wrapped b.new_writes
  pub settled_are : c.settled ≡ wrapped b.settled
  pub calls_are : c.calls ≡ wrapped b.calls

-- The same in tables that may be longer: the rest of them plays no part.
abbrev pub Keeps : {X : Type 0} → (X → ℕ) → Census X → List PageRecord → List ℕ → Ledger → Type 0
Keeps told c t counts b = Means told c (take c.pages t) (take (needed c.pages) counts) b
