use Rattle.std.specs.Prelude.{cond, ◌==◌}
use Rattle.model.specs.declared.Call.{Call}
use Rattle.model.specs.declared.Call.TheVariants.{Use, Settle}
use Rattle.model.specs.declared.UseKind.TheVariants.{Read, Write}
use Rattle.lines.specs.declared.CallRecord.{CallRecord}

-- The call that a call record stands for: R is a read, W a write, and S a settle.
abbrev pub call_in : CallRecord → Call
call_in c = cond (c.letter == 82) (Use Read c.page) (cond (c.letter == 87) (Use Write c.page) Settle)
