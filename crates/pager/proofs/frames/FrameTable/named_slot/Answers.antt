use Rattle.std.proofs.Common.{vec_items}
use mathlib.Core.Logic.{∥∥₁_map}
use Rattle.model.specs.Order.{rule_of}
use Rattle.pager.proofs.Leaving.{slot_seated, slot_shows}
use Rattle.pager.proofs.frames.FrameTable.named_slot.Goals as goal

pub invariant_of-self : goal.invariant_of-self
invariant_of-self g c = record { seated = ∥∥₁_map c.args.self.now.seated (slot_seated g.R.TopRule.told (rule_of g.R.TopRule.slot g.R.TopRule.next) c.args.self.now.parts c.choose_slot.new.self (vec_items c.args.self.now.frames) c.choose_slot.ensures.step) }

pub returns-clause-step : goal.returns-clause-step
returns-clause-step g c = λ o f full. slot_shows g.R.TopRule.told (rule_of g.R.TopRule.slot g.R.TopRule.next) c.args.self.now.parts c.choose_slot.new.self (vec_items c.args.self.now.frames) c.choose_slot.ensures.step o c.choose_slot.result f
    (g.met.R.TopRule.below o.told c.args.self.now.parts.slots c.args.self.now.parts.sized.0) full c.choose_slot.ensures.chosen
