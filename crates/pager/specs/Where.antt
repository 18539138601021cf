use Rattle.std.specs.Prelude.{ℕ, ◌-◌, cond, Some, None, Option}
use Rattle.lists.specs.Weights.{has}
use Rattle.lists.specs.Places.{place}
use Rattle.model.specs.Order.{Order}
use Rattle.pager.specs.declared.places.Place.{Place}
use Rattle.pager.specs.declared.places.Place.TheVariants.{InTop, InBottom}

-- Where a page is: its slot in the top, from 0; its place in the bottom, from 1 at the newest; or none in neither.
abbrev pub where_in : ℕ → Order → Option Place
where_in p o = cond (has p o.top) (Some (InTop (place p o.top - 1))) (cond (has p o.bottom) (Some (InBottom (place p o.bottom))) None)
