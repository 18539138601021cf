use Rattle.std.proofs.Common.{◌<◌, length, vec_items, arith}
use Rattle.model.specs.Order.{rule_of}
use Rattle.pager.proofs.Vacating.{takes}
use Rattle.pager.proofs.frames.FrameTable.occupy.Goals as goal

pub returns-clause-step : goal.returns-clause-step
returns-clause-step g c =
    let v = c.args.self.now.frames in
    let t₁ = vec_items c.name.new.self.frames in
    let t₂ = vec_items c.seat.new.self.frames in
    let low : c.args.i < length (vec_items v) = omega (arith, c.requires.within, v.ok.0) in
    takes g.R.TopRule.told (rule_of g.R.TopRule.slot g.R.TopRule.next) c.args.self.now.parts c.name.new.self.parts c.seat.new.self.parts (vec_items v) t₁ t₂ c.args.page c.args.i low c.name.ensures.parts c.name.ensures.wrote c.seat.ensures.same c.seat.ensures.sat
