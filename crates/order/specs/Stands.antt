use Rattle.std.specs.Prelude.{◌≡◌, ℕ, ◌<◌, cond, ◌≢◌, List, get_or, slice_index_or}
use Rattle.lists.specs.Weights.{has, occ}
use Rattle.links.specs.declared.Part.{Part}
use Rattle.links.specs.declared.Part.TheVariants.{Unused, Top, Bottom}
use Rattle.model.specs.Order.{Order}
use Rattle.model.specs.Sound.{Sound}
use Rattle.order.specs.declared.parts.TwoParts.{TwoParts}
use Rattle.order.specs.Views.{Views, LinkedAs}

-- The part that page q is in.
abbrev pub part_of : Order → ℕ → Part
part_of o q = cond (has q o.top) Top (cond (has q o.bottom) Bottom Unused)

-- No record of the table is in a part.
abbrev pub AllUnused : Views → Type 0
AllUnused v = (q : ℕ) → q < v.size → slice_index_or v.parts q Unused ≡ Unused

-- The parts have page p in the bottom exactly if p is in the list bs.
pub record SaysBottom (parts : List Part) (p : ℕ) (bs : List ℕ) : Type 0 where
  pub there : get_or parts p Unused ≡ Bottom → 0 < occ p bs
  pub away : get_or parts p Unused ≢ Bottom → occ p bs ≡ 0

-- The two parts and a table are arranged as an order: the pages of the slots are its top, the links give its bottom both ways,
-- and each record has its page's part. Nothing is said of the rule.
pub record Arranged {X : Type 0} (c : TwoParts X) (v : Views) (o : Order) : Type 0 where
  pub sound : Sound v.size c.slots o
  pub top_is : c.top.items ≡ o.top
  pub bottom_is : LinkedAs v c.bottom o.bottom
  pub parts_are : (q : ℕ) → q < v.size → slice_index_or v.parts q Unused ≡ part_of o q

-- They stand for the order: they are arranged as it, and the rule tells its state.
pub record Stands {X : Type 0} (told : X → ℕ) (c : TwoParts X) (v : Views) (o : Order) : Type 0 where
  pub arranged : Arranged c v o
  pub told_is : told c.rule ≡ o.told
