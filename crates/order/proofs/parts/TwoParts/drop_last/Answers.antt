use Rattle.std.proofs.Common.{refl, arith}
use Rattle.std.proofs.lemmas.List.{length-map}
use Rattle.order.specs.Views.{views_of}
use Rattle.order.proofs.Dropping.{none_dropped, last_dropped, last_low}
use Rattle.order.proofs.parts.TwoParts.drop_last.Goals as goal

pub returns-in_err-oldest-clause-step : goal.returns-in_err-oldest-clause-step
returns-in_err-oldest-clause-step g c = λ o s. none_dropped g.R.TopRule.told c.args.self.now _ o c.in_err-oldest.was s

pub returns-then-oldest-table-clause-oldest : goal.returns-then-oldest-table-clause-oldest
returns-then-oldest-table-clause-oldest g c = λ o s. absurd (omega (arith, last_low c.args.self.now (views_of g.T.Linked.links c.args.table.now) o c.in_ok-oldest.oldest s c.in_ok-oldest.was))

pub returns-then-oldest-table-clause-step : goal.returns-then-oldest-table-clause-step
returns-then-oldest-table-clause-step g c = λ o s. absurd (omega (arith, last_low c.args.self.now (views_of g.T.Linked.links c.args.table.now) o c.in_ok-oldest.oldest s.arranged c.in_ok-oldest.was))

pub returns-clause-step : goal.returns-clause-step
returns-clause-step g c =
    let seen = views_of g.T.Linked.links in
    λ o s. last_dropped g.R.TopRule.told c.args.self.now _ (seen c.args.table.now) (seen c.unlink.new.table) (seen c.note_part.new.table) o c.in_ok-oldest.oldest
    s c.in_ok-oldest.was (length-map c.args.table.now (λ x. (g.T.Linked.links x).part)) c.unlink.auto.table c.note_part.auto.table c.unlink.ensures.list c.unlink.ensures.same.same_part
    c.note_part.ensures.next c.note_part.ensures.prev c.note_part.ensures.part refl refl refl
