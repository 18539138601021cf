use Rattle.std.proofs.Common.{rules, ◌≡◌, ◌∙◌, arith}
use Rattle.std.specs.List.{count_by}
use Rattle.std.proofs.lemmas.List.Sums.{count_by-le-length}
use Rattle.census.specs.declared.page.PageRecord.{PageRecord}
use Rattle.census.proofs.Sinking.{is_over, count_over}
use Rattle.census.proofs.rows.marked_above.Goals as goal

pub returns : goal.returns
returns c =
    let run : c.count.result ≡ count_by (λ (r : PageRecord). is_over c.args.l r.mark) c.args.table.now = search rules in
    record { bound = omega (arith, run, count_by-le-length (λ (r : PageRecord). is_over c.args.l r.mark) c.args.table.now); marked = run ∙ count_over c.args.l c.args.table.now }
