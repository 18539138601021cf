use Rattle.std.proofs.Common.{ℕ, ◌<◌, length, vec_items, ◌∙◌, arith}
use mathlib.Core.Logic.{∥∥₁_map}
use Rattle.std.proofs.lemmas.List.{with_items_is}
use Rattle.model.specs.Order.{rule_of}
use Rattle.pager.proofs.Seating.{seat_shows, seat_sits, seat_seated}
use Rattle.pager.proofs.frames.FrameTable.seat.Goals as goal

pub invariant_of-self : goal.invariant_of-self
invariant_of-self g c =
    let v = c.args.self.now.frames in
    let low : c.args.i < length (vec_items v) = omega (arith, c.requires.within, v.ok.0) in
    let back = with_items_is v c.touch.new.table (c.touch.auto.table ∙ c.deref_mut.ensures.len) in record {
      seated = ∥∥₁_map c.args.self.now.seated (seat_seated g.R.TopRule.told (rule_of g.R.TopRule.slot g.R.TopRule.next) c.args.self.now.parts c.touch.new.self (vec_items v) c.deref_mut.result.now c.touch.new.table _ c.args.i c.deref_mut.ensures.value back low c.requires.alone c.touch.ensures.rest
          (λ s. g.met.R.TopRule.below s c.args.self.now.parts.slots c.args.self.now.parts.sized.0) c.touch.ensures.step);
    }

pub returns-clause-step : goal.returns-clause-step
returns-clause-step g c =
    let v = c.args.self.now.frames in
    let low : c.args.i < length (vec_items v) = omega (arith, c.requires.within, v.ok.0) in
    let back = with_items_is v c.touch.new.table (c.touch.auto.table ∙ c.deref_mut.ensures.len) in
    let slots = λ (s : ℕ). g.met.R.TopRule.below s c.args.self.now.parts.slots c.args.self.now.parts.sized.0 in
    seat_shows g.R.TopRule.told (rule_of g.R.TopRule.slot g.R.TopRule.next) c.args.self.now.parts c.touch.new.self (vec_items v) c.deref_mut.result.now c.touch.new.table _ c.args.i c.deref_mut.ensures.value back low c.requires.alone c.touch.ensures.rest slots c.touch.ensures.step

pub returns-clause-sat : goal.returns-clause-sat
returns-clause-sat g c =
    let v = c.args.self.now.frames in
    let low : c.args.i < length (vec_items v) = omega (arith, c.requires.within, v.ok.0) in
    let back = with_items_is v c.touch.new.table (c.touch.auto.table ∙ c.deref_mut.ensures.len) in
    let slots = λ (s : ℕ). g.met.R.TopRule.below s c.args.self.now.parts.slots c.args.self.now.parts.sized.0 in
    seat_sits g.R.TopRule.told (rule_of g.R.TopRule.slot g.R.TopRule.next) c.args.self.now.parts c.touch.new.self (vec_items v) c.deref_mut.result.now c.touch.new.table _ c.args.i c.deref_mut.ensures.value back low c.requires.alone c.touch.ensures.rest slots c.touch.ensures.step
