use Rattle.std.proofs.Common.{◌<◌, length, get_or, set, refl, ap, ◌∙◌, arith}
use Rattle.std.proofs.lemmas.List.{length-map, length-set}
use Rattle.arrayvec.proofs.ArrayVecLemmas.{items-with_items}
use Rattle.model.specs.Order.{rule_of}
use Rattle.order.specs.Views.{views_of}
use Rattle.order.proofs.Standing.{exchange_stands}
use Rattle.order.proofs.parts.TwoParts.exchange.Goals as goal

pub returns-clause-step : goal.returns-clause-step
returns-clause-step g c =
    let inside : c.choose-slot.result < c.args.self.now.slots = rw c.choose-slot.ensures.slot (g.met.R.TopRule.below _ c.args.self.now.slots c.args.self.now.sized.0) in
    let seen = views_of g.T.Linked.links in
    λ o s low away. exchange_stands g.R.TopRule.told c.args.self.now _ (seen c.args.table.now) (seen c.detach.new.table) (seen c.push_front.new.table) (seen c.note_part.new.table) (seen c.note_part-2.new.table) c.detach.new.bottom o c.args.page c.choose-slot.result _
    (rule_of g.R.TopRule.slot g.R.TopRule.next) s (length-map c.args.table.now (λ x. (g.T.Linked.links x).part)) low away c.choose-slot.ensures.slot inside c.requires.full (ap (λ xs. get_or xs c.choose-slot.result 0) c.deref.ensures.0)
    c.detach.auto.table c.push_front.auto.table c.note_part.auto.table c.note_part-2.auto.table
    c.detach.ensures.list c.push_front.ensures.list
    c.note_part.ensures.next c.note_part-2.ensures.next c.note_part.ensures.prev c.note_part-2.ensures.prev
    c.detach.ensures.same.same_part c.push_front.ensures.same.same_part c.note_part.ensures.part c.note_part-2.ensures.part
    refl (items-with_items c.args.self.now.top _ (omega (arith, length-set c.deref_mut.result.now c.choose-slot.result c.args.page, ap length c.deref_mut.ensures.value)) ∙ ap (λ xs. set xs c.choose-slot.result c.args.page) c.deref_mut.ensures.value) c.choose-slot.ensures.next
