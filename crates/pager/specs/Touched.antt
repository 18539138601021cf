use Rattle.std.specs.Prelude.{ℕ, ◌+◌, cond, List, length, ◌==◌}
use Rattle.model.specs.Order.{Rule, used}
use Rattle.model.specs.Pager.{cut, holds, top_hit, reclaim, fault, evicted, still_dirty, saved_by}
use Rattle.model.specs.Bytes.{Paged, saved_below}

-- A use of page p before its bytes move: what it drives out is saved, and p has a frame in the top.
-- A page that had none is clean, and its frame still has the bytes x of before.
abbrev pub touched : Rule → ℕ → ℕ → ℕ → List ℕ → Paged → Paged
touched r k l p x w = record {
  pager = record {
    order = cut l (used r k p w.pager.order);
    dirty = still_dirty r k l p w.pager;
    fetches = w.pager.fetches;
    saves = w.pager.saves + saved_by r k l p w.pager;
    faults = w.pager.faults + fault p w.pager.order;
    reclaims = w.pager.reclaims + reclaim p w.pager.order;
    evictions = w.pager.evictions + length (evicted r k l p w.pager.order);
    hits = w.pager.hits + top_hit p w.pager.order;
  };
  frame = λ q. cond (q == p) (cond (holds p w.pager.order) (w.frame p) x) (w.frame q);
  below = saved_below r k l p w;
}
