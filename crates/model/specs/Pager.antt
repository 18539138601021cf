use Rattle.std.specs.Prelude.{ℕ, ◌+◌, Bool, true, false, cond, not, ◌&&◌, ◌||◌, List, length, take, drop, fold, ◌==◌}
use Rattle.lists.specs.Weights.{weigh, one, occ, has, total}
use Rattle.model.specs.declared.UseKind.{UseKind}
use Rattle.model.specs.declared.UseKind.TheVariants.{Read, Write}
use Rattle.model.specs.declared.Call.{Call}
use Rattle.model.specs.declared.Call.TheVariants.{Use, Settle}
use Rattle.model.specs.Order.{Rule, Order, fresh, used}

-- An order whose bottom keeps its first l pages.
abbrev pub cut : ℕ → Order → Order
cut l o = record { top = o.top; bottom = take l o.bottom; told = o.told }

-- Whether a page has a frame: it is in the top or in the bottom.
abbrev pub holds : ℕ → Order → Bool
holds p o = has p o.top || has p o.bottom

-- How many frames a page has: 1 where it is in the top or in the bottom, and 0 elsewhere.
abbrev pub frames : ℕ → Order → ℕ
frames q o = occ q o.top + occ q o.bottom

-- 1 for a use of a page in the top.
abbrev pub top_hit : ℕ → Order → ℕ
top_hit p o = one (has p o.top)

-- 1 for a use of a page in the bottom.
abbrev pub reclaim : ℕ → Order → ℕ
reclaim p o = one (not (has p o.top) && has p o.bottom)

-- 1 for a use of a page in neither part.
abbrev pub fault : ℕ → Order → ℕ
fault p o = one (not (holds p o))

-- The pages that a use of p drives out of a bottom of at most l: those behind its first l once p is in the top.
abbrev pub evicted : Rule → ℕ → ℕ → ℕ → Order → List ℕ
evicted r k l p o = drop l (used r k p o).bottom

-- A pager: the order of its frames, whether each page is dirty, the fetches and saves that it asked of the store below,
-- and its faults, reclaims, evictions and top hits. A page without a frame is not dirty.
pub record Pager : Type 0 where
  pub order : Order
  pub dirty : ℕ → Bool
  pub fetches : ℕ
  pub saves : ℕ
  pub faults : ℕ
  pub reclaims : ℕ
  pub evictions : ℕ
  pub hits : ℕ

-- A pager that holds no page and has called nothing below.
abbrev pub pager_fresh : ℕ → Pager
pager_fresh told = record {
  order = fresh told;
  dirty = λ q. false;
  fetches = 0;
  saves = 0;
  faults = 0;
  reclaims = 0;
  evictions = 0;
  hits = 0;
}

-- The pages that are still dirty once a use of p drove out what it drives out.
abbrev pub still_dirty : Rule → ℕ → ℕ → ℕ → Pager → ℕ → Bool
still_dirty r k l p s q = s.dirty q && not (has q (evicted r k l p s.order))

-- How many of the pages that a use of p drives out are dirty: each is saved.
abbrev pub saved_by : Rule → ℕ → ℕ → ℕ → Pager → ℕ
saved_by r k l p s = weigh (λ q. one (s.dirty q)) (evicted r k l p s.order)

-- A read of page p: a fault fetches once.
abbrev pub pager_read : Rule → ℕ → ℕ → ℕ → Pager → Pager
pager_read r k l p s = record {
  order = cut l (used r k p s.order);
  dirty = still_dirty r k l p s;
  fetches = s.fetches + fault p s.order;
  saves = s.saves + saved_by r k l p s;
  faults = s.faults + fault p s.order;
  reclaims = s.reclaims + reclaim p s.order;
  evictions = s.evictions + length (evicted r k l p s.order);
  hits = s.hits + top_hit p s.order;
}

-- A write of page p: it fetches nothing, and the page is dirty after it.
abbrev pub pager_write : Rule → ℕ → ℕ → ℕ → Pager → Pager
pager_write r k l p s = record {
  order = cut l (used r k p s.order);
  dirty = λ q. cond (q == p) true (still_dirty r k l p s q);
  fetches = s.fetches;
  saves = s.saves + saved_by r k l p s;
  faults = s.faults + fault p s.order;
  reclaims = s.reclaims + reclaim p s.order;
  evictions = s.evictions + length (evicted r k l p s.order);
  hits = s.hits + top_hit p s.order;
}

-- A settle saves each dirty page of the n once, and moves nothing.
abbrev pub pager_settle : ℕ → Pager → Pager
pager_settle n s = record {
  order = s.order;
  dirty = λ q. false;
  fetches = s.fetches;
  saves = s.saves + total n (λ q. one (s.dirty q));
  faults = s.faults;
  reclaims = s.reclaims;
  evictions = s.evictions;
  hits = s.hits;
}

-- A use of either kind.
abbrev pub pager_use : Rule → ℕ → ℕ → UseKind → ℕ → Pager → Pager
pager_use r k l Read p s = pager_read r k l p s
pager_use r k l Write p s = pager_write r k l p s

-- One call of a pager of n pages whose top has k slots and whose bottom has at most l pages.
abbrev pub pager_step : Rule → ℕ → ℕ → ℕ → Pager → Call → Pager
pager_step r n k l s (Use kind p) = pager_use r k l kind p s
pager_step r n k l s Settle = pager_settle n s

-- A list of calls, in order.
abbrev pub pager_run : Rule → ℕ → ℕ → ℕ → Pager → List Call → Pager
pager_run r n k l s calls = fold (pager_step r n k l) s calls
