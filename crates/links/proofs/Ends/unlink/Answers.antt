-- The two writes join the neighbours of p.
use Rattle.std.proofs.Common.{◌≡◌, length, ap, ◌∙◌, arith}
use Rattle.links.specs.declared.Links.{Links}
use Rattle.links.specs.Writes.{set_link, end_link}
use Rattle.links.proofs.Moves.{removes, removes_none}
use Rattle.links.proofs.Ends.unlink.Goals as goal

pub returns-then-p-table-clause-list : goal.returns-then-p-table-clause-list
returns-then-p-table-clause-list g c = λ xs ys h. removes_none _ _ _ _ _ c.args.p c.if-p-table.true xs ys h

pub returns-clause-list : goal.returns-clause-list
returns-clause-list g c =
    let len : length c.precede.new.table ≡ length c.args.table.now = omega arith in
    let links = c.links-next.result in
    removes (λ x. (g.R.Linked.links x).next) (λ x. (g.R.Linked.links x).prev) c.args.table.now c.precede.new.table _ _ c.args.p
    _ _ _ _ links.prev links.next
    len (ap (λ (l : Links). l.prev) c.links-next.ensures) (ap (λ (l : Links). l.next) c.links-next.ensures)
    (c.precede.ensures.next ∙ c.follow.ensures.next) (c.precede.ensures.prev ∙ ap (λ ls. set_link ls links.next links.prev) c.follow.ensures.prev)
    (c.precede.ensures.first ∙ c.follow.ensures.first) (c.precede.ensures.last ∙ ap (λ l. end_link l links.next links.prev) c.follow.ensures.last)
