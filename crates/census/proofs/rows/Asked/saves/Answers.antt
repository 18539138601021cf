use Rattle.std.proofs.Common.{◌+◌, ◌*◌, arith}
use Rattle.links.proofs.Holding.{holds_chain, holds_fits}
use Rattle.census.proofs.Sums.{column_alone, sum_above}
use Rattle.census.proofs.Saved.{windows_above}
use Rattle.census.proofs.rows.Asked.saves.Goals as goal

pub returns : goal.returns
returns g c = λ b m.
    let n = c.args.self.now.census.now.pages in
    let l = c.args.self.now.l in
    let counts = c.args.self.now.counts.now in
    let sunk = c.sunk_below-sunk.ensures.sunk b.order.bottom (rw c.newest.ensures (holds_chain _ _ _ _ _ b.order.bottom m.stands.arranged.bottom_is)) (holds_fits _ _ _ _ _ b.order.bottom m.stands.arranged.bottom_is) in
    omega (
      arith,
      m.settled_are,
      c.tally-ended.ensures,
      sum_above n l c.ended.result.now b.ended (column_alone n (2 * (n + 1)) counts b.ended c.ended.result.now m.ended_are (omega (arith, m.wide)) c.ended.ensures) c.args.self.now.low,
      c.marked_above-marked.ensures.marked,
      sunk,
      windows_above g.R.TopRule.told c.args.self.now.census.now c.args.self.now.table.now counts b l m,
    )
