use Rattle.std.proofs.Common.{◌+◌, arith}
use Rattle.census.proofs.Sums.{column_alone, sum_above}
use Rattle.census.proofs.rows.Asked.misses.Goals as goal
use Rattle.census.proofs.rows.Asked.misses.Goals.{in-Read, in-Write}

pub returns : goal.returns
returns g c = λ b m.
    let n = c.args.self.now.census.now.pages in
    let l = c.args.self.now.l in
    let counts = c.args.self.now.counts.now in
    elim c.match-kind.branch [
      | in-Read w ↦ rw w.in-Read.is (omega (arith, w.new-is, m.new_reads_are, c.tally.ensures, sum_above n l c.uses.result.now b.reads (column_alone n 0 counts b.reads c.uses.result.now m.reads_are (omega (arith, m.wide)) (rw w.in-Read.is at c.uses.ensures)) c.args.self.now.low))
      | in-Write w ↦ rw w.in-Write.is (omega (arith, w.new-is, m.new_writes_are, c.tally.ensures, sum_above n l c.uses.result.now b.writes (column_alone n (n + 1) counts b.writes c.uses.result.now m.writes_are (omega (arith, m.wide)) (rw w.in-Write.is at c.uses.ensures)) c.args.self.now.low))
    ]
