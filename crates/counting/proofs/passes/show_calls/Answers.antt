use Rattle.std.proofs.Common.{rules, ◌≡◌, Ok}
use Rattle.counting.proofs.Showing.{show_start, show_taken, show_next, show_end}
use Rattle.counting.proofs.passes.show_calls.Goals as goal

pub loop-call-init : goal.loop-call-init
loop-call-init g c = let e = c.into_iter-call-iterator.ensures.into_iter_gives in rw e (show_start _ _ _ _ _ _ c.requires.fit c.requires.room)

pub unwrap-requires : goal.unwrap-requires
unwrap-requires g c =
    let s = rw c.in-Some.ensures.steps at c.loop-call.invariant in
    let taken = show_taken _ _ _ _ _ _ c.loop-call.census c.show.new.self c.loop-call.table c.show.new.table c.loop-call.counts c.show.new.counts _ _ s _ c.from.ensures in
    let ok : c.show.result ≡ Ok tt = rw c.show.ensures.answer taken in
    rw ok (search rules)

pub loop-call-preserved : goal.loop-call-preserved
loop-call-preserved g c =
    let s = rw c.in-Some.ensures.steps at c.loop-call.invariant in
    show_next _ _ _ _ _ _ c.loop-call.census c.show.new.self c.loop-call.table c.show.new.table c.loop-call.counts c.show.new.counts _ _ s _ c.from.ensures c.show.auto.table c.show.auto.counts c.show.ensures.same c.show.ensures.rest (λ b k. c.show.ensures.step b k c.unwrap.ensures)

pub returns : goal.returns
returns g c =
    let s = rw c.in-None.ensures.steps.0 at c.loop-call.invariant in
    record {
      same = s.same;
      rest = (s.rest_table, s.rest_counts);
      shown = rw (← c.into_iter-call-iterator.ensures.into_iter_gives) (show_end _ _ _ _ _ _ _ _ _ s);
    }
