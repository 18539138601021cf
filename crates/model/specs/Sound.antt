use Rattle.std.specs.Prelude.{◌≡◌, ℕ, ◌+◌, ◌<◌, ◌≤◌, [], length, nat_lt}
use Rattle.lists.specs.Weights.{one, occ}
use Rattle.model.specs.Order.{Order}

-- What is true of every order that uses of pages below n led to, under a top of k slots:
-- no page stands twice, every page is below n, the top has at most k pages,
-- and the bottom is empty until the top is full.
pub record Sound (n k : ℕ) (o : Order) : Type 0 where
  pub once : (q : ℕ) → occ q o.top + occ q o.bottom ≤ one (nat_lt q n)
  pub fits : length o.top ≤ k
  pub full : length o.top < k → o.bottom ≡ []
