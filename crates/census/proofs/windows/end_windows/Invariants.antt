use Rattle.std.proofs.Common.{◌≡◌, ℕ, cond, ltb, get_or, None}
use Rattle.lists.specs.Weights.{total}
use Rattle.model.specs.Windows.{is_open}
use Rattle.model.specs.Rows.{wrapped}
use Rattle.census.specs.Views.{marks}
use Rattle.census.specs.SameBut.{SameBut}
use Rattle.census.proofs.windows.end_windows.Given as goal

abbrev pub invariant-loop-record : goal.invariant-loop-record
invariant-loop-record l = record {
  same : SameBut l.initial.table l.table;
  closed : (q : ℕ) → get_or (marks l.table) q None ≡ cond (ltb q l.record-index) None (get_or (marks l.initial.table) q None);
  counted : l.ended ≡ wrapped (total l.record-index (λ q. is_open (get_or (marks l.initial.table) q None)));
}
