use Rattle.std.specs.Prelude.{List}
use Rattle.model.specs.Order.{Order}
use Rattle.order.specs.declared.parts.TwoParts.{TwoParts}
use Rattle.order.specs.Stands.{Arranged}
use Rattle.pager.specs.declared.frame.Frame.{Frame}
use Rattle.pager.specs.Frames.{seats_of, Apart}

-- A frame table as it always is: its frames are arranged in some order, top and bottom, and no page is in two of them.
abbrev pub Seated : {X : Type 0} → TwoParts X → List Frame → Type 0
Seated c t = (o : Order) × Arranged c (seats_of t) o × Apart t
