use Rattle.std.proofs.Common.{map, set, ap, ◌∙◌}
use Rattle.std.proofs.lemmas.List.{map-set}
use Rattle.std.proofs.Math.Seq.{map-set_same}
use Rattle.links.specs.declared.Links.{Links}
use Rattle.order.proofs.moves.note_part.Goals as goal

pub returns-then-page-table : goal.returns-then-page-table
returns-then-page-table g c =
    let to = c.set_links.ensures.links in
    let was = c.links.ensures in
    record {
      next = map-set_same (λ x. (g.T.Linked.links x).next) c.args.table.now c.args.page c.set_links.new.self _ (ap (λ (l : Links). l.next) to ∙ ap (λ (l : Links). l.next) was);
      prev = map-set_same (λ x. (g.T.Linked.links x).prev) c.args.table.now c.args.page c.set_links.new.self _ (ap (λ (l : Links). l.prev) to ∙ ap (λ (l : Links). l.prev) was);
      part = map-set (λ x. (g.T.Linked.links x).part) c.args.table.now c.args.page c.set_links.new.self ∙ ap (set (map (λ x. (g.T.Linked.links x).part) c.args.table.now) c.args.page) (ap (λ (l : Links). l.part) to);
      rest = map-set_same g.T.Linked.rest c.args.table.now c.args.page c.set_links.new.self _ c.set_links.ensures.rest;
    }
