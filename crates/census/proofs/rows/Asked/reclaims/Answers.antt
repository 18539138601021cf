use Rattle.std.proofs.Common.{◌+◌, arith}
use Rattle.census.proofs.Sums.{column_alone, sum_up_to}
use Rattle.census.proofs.rows.Asked.reclaims.Goals as goal

pub returns : goal.returns
returns g c = λ b m.
    let n = c.args.self.now.census.now.pages in
    let l = c.args.self.now.l in
    let counts = c.args.self.now.counts.now in
    omega (
      arith,
      c.tally-reads.ensures,
      sum_up_to n l c.uses.result.now b.reads (column_alone n 0 counts b.reads c.uses.result.now m.reads_are (omega (arith, m.wide)) c.uses.ensures) c.args.self.now.low,
      c.tally.ensures,
      sum_up_to n l c.uses-2.result.now b.writes (column_alone n (n + 1) counts b.writes c.uses-2.result.now m.writes_are (omega (arith, m.wide)) c.uses-2.ensures) c.args.self.now.low,
    )
