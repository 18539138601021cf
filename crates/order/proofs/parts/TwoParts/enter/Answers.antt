use Rattle.std.proofs.Common.{refl, arith}
use Rattle.std.proofs.lemmas.List.{length-map}
use Rattle.std.proofs.lemmas.Bool.{ltb-false}
use Rattle.lists.specs.Weights.{occ}
use Rattle.order.specs.Views.{views_of}
use Rattle.order.proofs.Standing.{arranged_entered}
use Rattle.order.proofs.parts.TwoParts.enter.Goals as goal

pub returns-clause-step : goal.returns-clause-step
returns-clause-step g c = λ o s low out. record {
  arranged = arranged_entered c.args.self.now _ (views_of g.T.Linked.links c.args.table.now) (views_of g.T.Linked.links c.note_part.new.table) o c.args.page
      s.arranged (length-map c.args.table.now (λ x. (g.T.Linked.links x).part)) low (omega (arith, ltb-false 0 (occ c.args.page o.top) out)) c.note_part.auto.table refl
      c.requires.room c.note_part.ensures.next c.note_part.ensures.prev c.note_part.ensures.part c.push.ensures.items refl;
  told_is = s.told_is;
}
