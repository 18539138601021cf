use Rattle.std.proofs.Common.{rules}
use Rattle.order.proofs.Standing.{stands_fresh}
use Rattle.order.proofs.parts.TwoParts.make.Goals as goal

pub returns-clause-stands : goal.returns-clause-stands
returns-clause-stands g c = λ v u. stands_fresh g.R.TopRule.told _ v (search rules) (c.empty.ensures _ _ _) u
