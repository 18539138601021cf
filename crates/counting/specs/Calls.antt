use Rattle.std.specs.Prelude.{List, map}
use Rattle.model.specs.declared.Call.{Call}
use Rattle.lines.specs.declared.CallRecord.{CallRecord}
use Rattle.lines.specs.Meant.{call_in}

-- The calls of a list of records.
abbrev pub model_calls : List CallRecord → List Call
model_calls cs = map call_in cs
