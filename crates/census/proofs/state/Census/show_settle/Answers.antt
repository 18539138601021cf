use Rattle.std.proofs.Common.{◌+◌, ◌-◌, ◌%◌, length, take, sym, refl, ap, ◌∙◌, arith}
use Rattle.std.proofs.lemmas.Bool.{true≢false}
use Rattle.census.specs.Refusals.{needed}
use Rattle.census.proofs.Opened.{keep_room}
use Rattle.census.proofs.Steps.{settle_means}
use Rattle.census.proofs.Fronts.{front_long, back_kept, to_front, from_table}
use Rattle.census.proofs.state.Census.show_settle.Goals as goal

pub returns : goal.returns
returns g c =
    let n = c.args.self.now.pages in
    let room = keep_room n (length c.args.table.now) (length c.args.counts.now) (sym c.in_ok-may_keep.ensures) in
    record {
      answer = c.in_ok-may_keep.ensures;
      refused = λ e. absurd (true≢false e);
      same = record { pages = refl; slots = refl };
      rest = (back_kept n (n - 0) c.args.table.now c.end_windows-ended.new.table (omega arith) (c.end_windows-ended.auto.table ∙ front_long n (n - 0) c.args.table.now (omega arith) room.0), refl);
      step = λ b k ok. from_table g.R.TopRule.told _ c.end_windows-ended.new.table _ c.args.counts.now _
          (settle_means g.R.TopRule.told c.args.self.now _ (take (n - 0) c.args.table.now) c.end_windows-ended.new.table (take (needed n) c.args.counts.now) b
          (to_front g.R.TopRule.told c.args.self.now c.args.table.now c.args.counts.now b (n - 0) (needed n) (omega arith) refl k)
          refl refl c.end_windows-ended.ensures.same c.end_windows-ended.ensures.none (ap (λ x. (c.args.self.now.settled + x) % 4294967296) c.end_windows-ended.ensures.ended) refl refl refl);
    }
