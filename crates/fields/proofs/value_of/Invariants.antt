use Rattle.std.proofs.Common.{◌≡◌, ◌^◌, ◌<◌, drop}
use Rattle.fields.specs.Numbers.{read_on}
use Rattle.fields.proofs.value_of.Given as goal

abbrev pub invariant-loop-b : goal.invariant-loop-b
invariant-loop-b l = (l.value < 2 ^ 32) × (read_on l.value (drop l.b-index l.digits) ≡ read_on 0 l.digits)
