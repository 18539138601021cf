use Rattle.std.proofs.Common.{◌≡◌, get_or, set, None, ap, ◌∙◌, arith}
use Rattle.std.proofs.lemmas.Grind.{common_steps}
use Rattle.model.specs.Windows.{is_open}
use Rattle.census.specs.Views.{marks, blank}
use Rattle.census.proofs.Closing.{remarked, remarked_same, remarked_mark, open_one, same_more, closed_more, ended_more}
use Rattle.census.proofs.windows.end_windows.Goals as goal

pub loop-record-preserved : goal.loop-record-preserved
loop-record-preserved c =
    let t = c.loop-record.table in
    let i = c.loop-record.record-index in
    let was = get_or t i blank in
    let here : c.from-ended.result ≡ is_open was.mark = grind (arith, common_steps, open_one was.mark) in
    let gone : marks (remarked t i c.take.new.self) ≡ set (marks t) i None = remarked_mark t i _ ∙ ap (set (marks t) i) c.take.ensures.after in
    record {
      same = same_more _ _ _ c.loop-record.invariant.same (remarked_same t i _);
      closed = closed_more c.args.table.now t (remarked t i _) i c.loop-record.invariant.closed c.loop-record.invariant.same c.loop-record-test.true gone;
      counted = ended_more c.args.table.now t (remarked t i _) i c.loop-record.invariant.closed c.loop-record.invariant.same c.loop-record-test.true gone c.loop-record.ended c.from-ended.result c.loop-record.invariant.counted here;
    }
