use Rattle.std.proofs.Common.{vec_items, sym, ◌∙◌, subst}
use mathlib.Core.Logic.{∥∥₁_map}
use Rattle.std.proofs.lemmas.List.{with_items_is}
use Rattle.order.specs.Stands.{Arranged}
use Rattle.pager.specs.Frames.{seats_of}
use Rattle.pager.proofs.Leaving.{leave_seated, leave_cases, left_cases}
use Rattle.pager.proofs.frames.FrameTable.release_last.Goals as goal

pub invariant_of-self : goal.invariant_of-self
invariant_of-self g c =
    let v = c.args.self.now.frames in
    let back = with_items_is v c.drop_last.new.table (c.drop_last.auto.table ∙ c.deref_mut.ensures.len) in
    record { seated = ∥∥₁_map c.args.self.now.seated (leave_seated g.R.TopRule.told c.args.self.now.parts c.drop_last.new.self (vec_items v) c.deref_mut.result.now c.drop_last.new.table _ c.deref_mut.ensures.value back c.drop_last.ensures.rest c.drop_last.ensures.step) }

pub returns-clause-step : goal.returns-clause-step
returns-clause-step g c =
    let v = c.args.self.now.frames in
    let back = with_items_is v c.drop_last.new.table (c.drop_last.auto.table ∙ c.deref_mut.ensures.len) in
    λ o f. leave_cases g.R.TopRule.told c.args.self.now.parts c.drop_last.new.self (vec_items v) c.deref_mut.result.now c.drop_last.new.table _ c.deref_mut.ensures.value back c.drop_last.ensures.rest c.drop_last.ensures.step o f c.drop_last.result
    (c.drop_last.ensures.oldest f.seats (subst (λ x. Arranged c.args.self.now.parts (seats_of x) f.seats) (sym c.deref_mut.ensures.value) f.stands.arranged))

pub returns-clause-left : goal.returns-clause-left
returns-clause-left g c =
    let v = c.args.self.now.frames in
    let back = with_items_is v c.drop_last.new.table (c.drop_last.auto.table ∙ c.deref_mut.ensures.len) in
    λ o f. left_cases g.R.TopRule.told c.args.self.now.parts c.drop_last.new.self (vec_items v) c.deref_mut.result.now c.drop_last.new.table _ c.deref_mut.ensures.value back c.drop_last.ensures.rest c.drop_last.ensures.step o f c.drop_last.result
    (c.drop_last.ensures.oldest f.seats (subst (λ x. Arranged c.args.self.now.parts (seats_of x) f.seats) (sym c.deref_mut.ensures.value) f.stands.arranged))
