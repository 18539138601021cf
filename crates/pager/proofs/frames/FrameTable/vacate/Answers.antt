use Rattle.std.proofs.Common.{vec_items, refl, ap}
use Rattle.model.specs.Order.{rule_of}
use Rattle.pager.proofs.Seating.{same_length, apart_in}
use Rattle.pager.proofs.Vacating.{vacant_last, slot_held, vacant_none}
use Rattle.pager.proofs.frames.FrameTable.vacate.Goals as goal

pub returns-in-Some-clause-step : goal.returns-in-Some-clause-step
returns-in-Some-clause-step g c =
    let parts = c.args.self.now.parts in
    let t = vec_items c.args.self.now.frames in
    λ n l p o f s room none. vacant_last g.R.TopRule.told (rule_of g.R.TopRule.slot g.R.TopRule.next) n l p parts t o f s (g.met.R.TopRule.below o.told parts.slots parts.sized.0) room none c.requires.full c.in-Some.i c.release_last.new.self.parts (vec_items c.release_last.new.self.frames)
    (same_length t (vec_items c.release_last.new.self.frames) c.in-Some.ensures.same) (c.in-Some.ensures.left o f)

pub returns-in-Some-clause-held : goal.returns-in-Some-clause-held
returns-in-Some-clause-held g c = λ l o f room. (c.in-Some.ensures.left o f).released.was

pub returns-in-None-clause-step : goal.returns-in-None-clause-step
returns-in-None-clause-step g c =
    let parts = c.args.self.now.parts in
    let t = vec_items c.args.self.now.frames in
    let kept = c.in-None.ensures.none refl in
    let frames = ap vec_items c.named_slot.ensures.same in
    λ n l p o f s room none. vacant_none g.R.TopRule.told (rule_of g.R.TopRule.slot g.R.TopRule.next) l parts c.release_last.new.self.parts c.named_slot.new.self.parts t (vec_items c.release_last.new.self.frames) (vec_items c.named_slot.new.self.frames) c.named_slot.result
    kept.0 kept.1 frames c.requires.full c.named_slot.ensures.step n p o f s (g.met.R.TopRule.below o.told parts.slots parts.sized.0) room none (c.in-None.ensures.step o f) (apart_in parts t c.args.self.now.seated)

pub returns-in-None-clause-held : goal.returns-in-None-clause-held
returns-in-None-clause-held g c =
    let parts = c.args.self.now.parts in
    let t = vec_items c.args.self.now.frames in
    let kept = c.in-None.ensures.none refl in
    let frames = ap vec_items c.named_slot.ensures.same in
    λ l o f room. (slot_held g.R.TopRule.told (rule_of g.R.TopRule.slot g.R.TopRule.next) l parts c.release_last.new.self.parts c.named_slot.new.self.parts t (vec_items c.release_last.new.self.frames) (vec_items c.named_slot.new.self.frames) c.named_slot.result
    kept.0 kept.1 frames c.requires.full c.named_slot.ensures.step o f room).held
