use Rattle.std.specs.Prelude.{ℕ, ◌+◌, ◌-◌, ◌*◌, ◌/◌, ◌%◌, min, cond, not, ◌&&◌, List, ◌==◌, nat_lt}
use Rattle.lists.specs.Weights.{weigh, one, total}
use Rattle.model.specs.declared.Row.{Row}
use Rattle.model.specs.Windows.{over}
use Rattle.model.specs.Ledger.{Ledger}

-- A count as it is kept: modulo 2^32.
abbrev pub wrapped : ℕ → ℕ
wrapped x = x % 4294967296

-- One count less another, modulo 2^32; both are below 2^32.
abbrev pub less : ℕ → ℕ → ℕ
less a b = (a + (4294967296 - b)) % 4294967296

-- How many of the depths are above l.
abbrev pub above : ℕ → List ℕ → ℕ
above l ds = weigh (λ d. one (nat_lt l d)) ds

-- How many of the depths are from 1 to l.
abbrev pub up_to : ℕ → List ℕ → ℕ
up_to l ds = weigh (λ d. one (nat_lt 0 d && not (nat_lt l d))) ds

-- The fetches of a pager whose bottom has at most l pages: new reads, and reads at depths above l.
abbrev pub row_fetches : ℕ → Ledger → ℕ
row_fetches l b = b.new_reads + above l b.reads

-- Its faults: its fetches, new writes, and writes at depths above l.
abbrev pub row_faults : ℕ → Ledger → ℕ
row_faults l b = row_fetches l b + (b.new_writes + above l b.writes)

-- Its reclaims: uses at depths from 1 to l.
abbrev pub row_reclaims : ℕ → Ledger → ℕ
row_reclaims l b = up_to l b.reads + up_to l b.writes

-- Its saves: windows ended by settles, windows ended by a write with a mark above l, and open windows with a mark above l.
abbrev pub row_saves : ℕ → ℕ → Ledger → ℕ
row_saves n l b = b.settled + (above l b.ended + total n (λ q. over l (b.marks q)))

-- The pages used so far: each was new once.
abbrev pub pages_used : Ledger → ℕ
pages_used b = b.new_reads + b.new_writes

-- Its evictions: its faults less the frames that are taken, which are k + l, or fewer if fewer pages were used.
abbrev pub row_evictions : ℕ → ℕ → Ledger → ℕ
row_evictions k l b = less (wrapped (row_faults l b)) (min (wrapped (pages_used b)) (k + l))

-- The rate: faults for each thousand calls, and 0 where there were no calls.
abbrev pub rate_of : ℕ → ℕ → ℕ
rate_of faults calls = cond (calls == 0) 0 (faults * 1000 / calls)

-- Row l of a census of n pages under a top of k slots.
abbrev pub row_of : ℕ → ℕ → ℕ → Ledger → Row
row_of n k l b = record {
  fetches = wrapped (row_fetches l b);
  faults = wrapped (row_faults l b);
  reclaims = wrapped (row_reclaims l b);
  evictions = row_evictions k l b;
  saves = wrapped (row_saves n l b);
  rate = rate_of (wrapped (row_faults l b)) (wrapped b.calls);
}
