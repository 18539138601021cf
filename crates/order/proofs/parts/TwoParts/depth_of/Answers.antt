use Rattle.links.proofs.Holding.{holds_chain, holds_fits}
use Rattle.order.specs.Views.{views_of}
use Rattle.order.proofs.Standing.{depth_bottom}
use Rattle.order.proofs.parts.TwoParts.depth_of.Goals as goal

pub returns-in-Bottom-clause-depth : goal.returns-in-Bottom-clause-depth
returns-in-Bottom-clause-depth g c = λ o s low. depth_bottom c.args.self.now (views_of g.T.Linked.links c.args.table.now) o c.args.page s low c.in_ok-part_at.field-0 c.depth.result c.in_ok-part_at.ensures.1 c.in-Bottom.is
    (c.depth.ensures.place o.bottom (holds_chain _ _ _ _ _ o.bottom s.bottom_is) (holds_fits _ _ _ _ _ o.bottom s.bottom_is))
