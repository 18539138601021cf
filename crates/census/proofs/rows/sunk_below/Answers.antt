use Rattle.std.proofs.Common.{◌≡◌, ◌+◌, ◌<◌, length, cond, ltb, get_or, None, sym, ap, ◌∙◌, arith}
use Rattle.std.proofs.lemmas.Grind.{common_steps}
use Rattle.std.proofs.lemmas.Bool.Decides.{nat_tests}
use Rattle.std.proofs.lemmas.Bool.{lt-ltb, le-ltb}
use Rattle.std.proofs.lemmas.List.{get_or-map}
use Rattle.lists.specs.Weights.{one}
use Rattle.links.specs.declared.Links.{Links}
use Rattle.model.specs.Windows.{shallow}
use Rattle.census.specs.declared.page.PageRecord.{PageRecord}
use Rattle.census.specs.Views.{blank}
use Rattle.census.proofs.Sinking.{sink_ends, sink_inside, sink_goes}
use Rattle.census.proofs.rows.sunk_below.Goals as goal
use Rattle.census.proofs.rows.sunk_below.Goals.{then-l-ahead+then-is_some_and, else-l-ahead, else-l-ahead-via-then-l-ahead+else-is_some_and, else-l-ahead-via-else-l-ahead}

pub loop-ahead-preserved : goal.loop-ahead-preserved
loop-ahead-preserved c =
    let r = c.in-Some-get.record.now in
    let p = c.in-Some.p in
    let at : r ≡ get_or c.args.table.now p blank = grind (arith, common_steps) in
    let low : p < length c.args.table.now = grind (arith, common_steps) in
    let to : c.links-here.result.next ≡ get_or _ p None = ap (λ (l : Links). l.next) c.links-here.ensures ∙ (ap (λ (r : PageRecord). r.links.next) at ∙ sym (get_or-map (λ (r : PageRecord). r.links.next) c.args.table.now p blank None low)) in
    let mark : r.mark ≡ get_or _ p None = ap (λ (r : PageRecord). r.mark) at ∙ sym (get_or-map (λ (r : PageRecord). r.mark) c.args.table.now p blank None low) in
    let here = cond (ltb c.loop-ahead.ahead c.args.l) 0 (one (shallow c.args.l r.mark)) in
    let sunk : c.if-l-ahead.sunk ≡ c.loop-ahead.sunk + here = elim c.if-l-ahead.branch [
      | then-l-ahead+then-is_some_and w ↦
          let seen : w.is_some_and.result ≡ shallow c.args.l r.mark = grind (arith, common_steps) in
          rw (le-ltb c.loop-ahead.ahead c.args.l w.if-l-ahead.true, ← seen, w.if-is_some_and.true) w.sunk-is
      | else-l-ahead w ↦ elim w.else-l-ahead.branch [
        | else-l-ahead-via-then-l-ahead+else-is_some_and v ↦
            let seen : v.is_some_and.result ≡ shallow c.args.l r.mark = grind (arith, common_steps) in
            rw (le-ltb c.loop-ahead.ahead c.args.l v.if-l-ahead.true, ← seen, v.if-is_some_and.false) (omega (arith, w.sunk-is))
        | else-l-ahead-via-else-l-ahead v ↦ rw (lt-ltb c.loop-ahead.ahead c.args.l v.if-l-ahead.false) (omega (arith, w.sunk-is))
      ]
    ] in (
      grind (arith, nat_tests, c.loop-ahead.invariant.0, sunk),
      λ bs ch le. rw sunk (sink_goes _ _ _ c.args.l c.loop-ahead.here c.links-here.result.next c.loop-ahead.ahead p c.loop-ahead.sunk here _ c.in-Some.is to (ap (λ m. cond (ltb c.loop-ahead.ahead c.args.l) 0 (one (shallow c.args.l m))) mark) (c.loop-ahead.invariant.1 bs ch le)),
    )

pub returns-in_default-clause-sunk : goal.returns-in_default-clause-sunk
returns-in_default-clause-sunk c = λ bs ch le. sink_ends _ _ _ c.args.l c.loop-ahead.here c.loop-ahead.ahead c.loop-ahead.sunk _ (grind (arith, common_steps)) (c.loop-ahead.invariant.1 bs ch le)

pub returns-in_default-get-clause-sunk : goal.returns-in_default-get-clause-sunk
returns-in_default-get-clause-sunk c = λ bs ch le.
    let low = sink_inside _ _ _ c.args.l c.loop-ahead.here c.loop-ahead.ahead c.in-Some.p c.loop-ahead.sunk _ c.in-Some.is (c.loop-ahead.invariant.1 bs ch le) in
    absurd (grind (arith, common_steps, low.1))
