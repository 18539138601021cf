use Rattle.std.proofs.Common.{sym, ◌∙◌}
use Rattle.std.proofs.lemmas.List.{length-map}
use Rattle.links.specs.Reads.{parts}
use Rattle.links.proofs.Holding.{unlinked}
use Rattle.order.specs.Views.{views_of}
use Rattle.order.proofs.Standing.{nothing_out, read_bottom, read_other}
use Rattle.order.proofs.moves.detach.Goals as goal

pub returns-then-eq-clause-list : goal.returns-then-eq-clause-list
returns-then-eq-clause-list g c = λ bs h says. unlinked _ _ _ _ _ _ _ _ _ _ c.args.page bs c.unlink.ensures.list h
    (read_bottom (parts g.T.Linked.links c.args.table.now) c.args.page bs c.part_at.result (rw length-map c.part_at.ensures) says (sym c.eq.ensures ∙ c.if-eq.true))

pub returns-else-eq-clause-list : goal.returns-else-eq-clause-list
returns-else-eq-clause-list g c = λ bs h says. nothing_out (views_of g.T.Linked.links c.args.table.now) c.args.bottom.now c.args.page bs
    (read_other (parts g.T.Linked.links c.args.table.now) c.args.page bs c.part_at.result (rw length-map c.part_at.ensures) says (sym c.eq.ensures ∙ c.if-eq.false)) h
