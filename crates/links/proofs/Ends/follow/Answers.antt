-- The write changes one link of one record.
use Rattle.std.proofs.Common.{ap, ◌∙◌}
use Rattle.std.proofs.Math.Seq.{map-set_same}
use Rattle.links.specs.declared.Links.{Links}
use Rattle.links.proofs.Kept.{link_wrote}
use Rattle.links.proofs.Ends.follow.Goals as goal

pub returns-then-q-table-clause-next : goal.returns-then-q-table-clause-next
returns-then-q-table-clause-next g c = link_wrote (λ x. (g.R.Linked.links x).next) c.args.table.now c.args.at c.args.to c.in-Some.q c.in-Some.is c.set_links.new.self (ap (λ (l : Links). l.next) c.set_links.ensures.links)

pub returns-then-q-table-clause-prev : goal.returns-then-q-table-clause-prev
returns-then-q-table-clause-prev g c = map-set_same (λ x. (g.R.Linked.links x).prev) c.args.table.now c.in-Some.q c.set_links.new.self _ (ap (λ (l : Links). l.prev) c.set_links.ensures.links ∙ ap (λ (l : Links). l.prev) c.links.ensures)

pub returns-then-q-table-clause-same : goal.returns-then-q-table-clause-same
returns-then-q-table-clause-same g c = record {
  same_part = map-set_same (λ x. (g.R.Linked.links x).part) c.args.table.now c.in-Some.q c.set_links.new.self _ (ap (λ (l : Links). l.part) c.set_links.ensures.links ∙ ap (λ (l : Links). l.part) c.links.ensures);
  same_rest = map-set_same g.R.Linked.rest c.args.table.now c.in-Some.q c.set_links.new.self _ c.set_links.ensures.rest;
}
