use Rattle.model.specs.Order.{rule_of}
use Rattle.counting.proofs.Showing.{Showing}
use Rattle.counting.proofs.passes.show_calls.Given as goal

abbrev pub invariant-loop-call : goal.invariant-loop-call
invariant-loop-call g l = Showing g.R.TopRule.told (rule_of g.R.TopRule.slot g.R.TopRule.next) l.initial.census l.initial.table l.initial.counts l.initial.call-iterator l.census l.table l.counts l.call-iterator
