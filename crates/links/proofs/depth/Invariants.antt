-- So many steps have led here, and for every list that stands there, what is left of it tells the place.
use Rattle.std.proofs.Common.{◌≡◌, ℕ, ◌-◌, ◌≤◌, List, length}
use Rattle.lists.specs.Places.{place}
use Rattle.links.specs.Reads.{nexts}
use Rattle.links.specs.Chain.{Chain}
use Rattle.links.specs.Stepped.{stepped}
use Rattle.links.specs.Left.{Left}
use Rattle.links.proofs.depth.Given as goal

abbrev pub invariant-loop-here : goal.invariant-loop-here
invariant-loop-here g l =
    (stepped (nexts g.R.Linked.links l.initial.table) l.walked l.initial.here ≡ l.here) × ((bs : List ℕ) → Chain (nexts g.R.Linked.links l.initial.table) (length l.initial.table) l.initial.here bs → length bs ≤ length l.initial.table → Left (nexts g.R.Linked.links l.initial.table) (length l.initial.table) l.here l.walked l.initial.at (place l.initial.at bs))

abbrev pub decreases-loop-here : goal.decreases-loop-here
decreases-loop-here g l = length l.initial.table - l.walked
