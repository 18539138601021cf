use Rattle.std.proofs.Common.{ℕ, ◌≤◌, List, length, drop}
use Rattle.lists.specs.Weights.{weigh}
use Rattle.links.specs.Chain.{Chain}
use Rattle.census.specs.Views.{nexts, marks}
use Rattle.census.specs.Sinking.{shallow_at, Sinking}
use Rattle.census.proofs.rows.sunk_below.Given as goal

abbrev pub invariant-loop-ahead : goal.invariant-loop-ahead
invariant-loop-ahead l = (l.sunk ≤ l.ahead) × ((bs : List ℕ) → Chain (nexts l.table) (length l.table) l.fn.newest bs → length bs ≤ length l.table →
    Sinking (nexts l.table) (marks l.table) (length l.table) l.l l.here l.ahead l.sunk (weigh (shallow_at l.l (marks l.table)) (drop l.l bs)))
