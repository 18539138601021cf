-- The record of p gets its two links, and the old first one links back to it.
use Rattle.std.proofs.Common.{Some, None, ap, ◌∙◌, set, arith}
use Rattle.std.proofs.lemmas.List.{length-map}
use Rattle.links.specs.Reads.{nexts, prevs}
use Rattle.links.specs.Writes.{set_link, end_link}
use Rattle.links.proofs.Moves.{holds_as, pushed}
use Rattle.links.proofs.Ends.push_front.Goals as goal

pub returns-clause-list : goal.returns-clause-list
returns-clause-list g c =
    let old = c.args.self.now.first in
    let p = c.args.p in
    let begins = c.follow.ensures in
    let alone = c.precede.ensures in
    let ahead = c.follow-2.ensures in
    let behind = c.precede-2.ensures in
    λ bs h lt out. holds_as
    (behind.next ∙ ahead.next ∙ ap (λ ls. set ls p old) (alone.next ∙ begins.next))
    (behind.prev ∙ ap (λ ls. set_link ls old (Some p)) (ahead.prev ∙ alone.prev ∙ ap (λ ls. set_link ls (Some p) None) begins.prev))
    (omega arith)
    (behind.first ∙ ahead.first ∙ alone.first ∙ begins.first)
    (behind.last ∙ ap (λ l. end_link l old (Some p)) (ahead.last ∙ alone.last ∙ ap (λ l. end_link l (Some p) None) begins.last))
    (pushed (nexts g.R.Linked.links c.args.table.now) (prevs g.R.Linked.links c.args.table.now) _ (omega (arith, length-map c.args.table.now (λ x. (g.R.Linked.links x).next))) (omega (arith, length-map c.args.table.now (λ x. (g.R.Linked.links x).prev))) old c.args.self.now.last p bs h lt out)
