-- Each turn and each way out of the loop is one lemma of the walk.
use Rattle.std.proofs.Common.{◌≡◌, get_or, Some, None, ap, ◌∙◌, inl, inr, arith}
use Rattle.links.specs.declared.Links.{Links}
use Rattle.links.specs.Reads.{nexts}
use Rattle.links.proofs.Walk.{link_read, stepped_more, stepped_met, walk_ends, walk_inside, walk_meets, walk_goes}
use Rattle.links.proofs.depth.Goals as goal

pub loop-here-preserved : goal.loop-here-preserved
loop-here-preserved g c =
    let to : c.links-here.result.next ≡ get_or (nexts g.R.Linked.links c.args.table.now) c.in-Some.p None =
    link_read (λ x. (g.R.Linked.links x).next) c.args.table.now c.in-Some.p c.index-table-p.result None c.links-here.result.next c.if-p-table.false c.index-table-p.is (ap (λ (l : Links). l.next) c.links-here.ensures) in (
      stepped_more _ c.loop-here.walked c.args.first c.loop-here.here c.links-here.result.next c.in-Some.p c.loop-here.invariant.0 c.in-Some.is to,
      λ bs ch le. walk_goes _ _ c.args.at c.loop-here.here c.links-here.result.next c.loop-here.walked c.in-Some.p _ c.in-Some.is to c.if-p-at.false (c.loop-here.invariant.1 bs ch le),
    )

pub returns-in_default : goal.returns-in_default
returns-in_default g c = record {
  counted = tt;
  bound = tt;
  reached = tt;
  place = λ bs ch le. walk_ends _ _ c.args.at c.loop-here.here c.loop-here.walked _ c.in_default.is (c.loop-here.invariant.1 bs ch le);
}

pub returns-then-walked-table : goal.returns-then-walked-table
returns-then-walked-table g c = record {
  counted = tt;
  bound = tt;
  reached = tt;
  place = λ bs ch le.
      let h = walk_inside _ _ c.args.at c.loop-here.here c.loop-here.walked c.in-Some.p _ c.in-Some.is (c.loop-here.invariant.1 bs ch le) in
      elim c.then-walked-table.either [ inl a ↦ absurd (omega (arith, h.0)) | inr b ↦ absurd (omega (arith, h.1, b.1)) ];
}

pub returns-then-p-at : goal.returns-then-p-at
returns-then-p-at g c = record {
  counted = omega arith;
  bound = omega arith;
  reached = stepped_met _ c.loop-here.walked c.args.first c.loop-here.here c.args.at c.in-Some.p c.loop-here.invariant.0 c.in-Some.is c.if-p-at.true;
  place = λ bs ch le.
      walk_meets _ _ c.args.at c.loop-here.here c.loop-here.walked _ (c.in-Some.is ∙ ap Some c.if-p-at.true) (c.loop-here.invariant.1 bs ch le);
}
