use Rattle.std.specs.Prelude.{ℕ, ◌+◌, false, cond, nat_lt}
use Rattle.lists.specs.Weights.{one, total}
use Rattle.model.specs.Bytes.{Paged}

-- A settle that has come as far as page m: each dirty page below m was saved, once, and is clean.
abbrev pub partly : ℕ → Paged → Paged
partly m w = record {
  pager = record {
    order = w.pager.order;
    dirty = λ q. cond (nat_lt q m) false (w.pager.dirty q);
    fetches = w.pager.fetches;
    saves = w.pager.saves + total m (λ q. one (w.pager.dirty q));
    faults = w.pager.faults;
    reclaims = w.pager.reclaims;
    evictions = w.pager.evictions;
    hits = w.pager.hits;
  };
  frame = w.frame;
  below = λ q. cond (nat_lt q m) (cond (w.pager.dirty q) (w.frame q) (w.below q)) (w.below q);
}
