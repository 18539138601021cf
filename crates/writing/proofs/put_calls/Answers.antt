use Rattle.std.proofs.Common.{◌+◌, arith}
use Rattle.std.proofs.ByRecursion.{All-get_or}
use Rattle.writing.specs.Text.{Narrow}
use Rattle.writing.proofs.Texts.{length_more, text_le, room_left}
use Rattle.writing.proofs.put_calls.Goals as goal

pub put_call-at-requires : goal.put_call-at-requires
put_call-at-requires c =
    record {
      narrow = All-get_or Narrow c.args.calls.now _ _ c.loop-call-test.true c.requires.narrow;
      room = room_left c.loop-call.bytes c.loop-call.at _ (omega (arith, c.loop-call.invariant.0, length_more c.args.calls.now c.loop-call.call-index (record { letter = 0; page = 0 }) c.loop-call-test.true, text_le c.args.calls.now (c.loop-call.call-index + 1), c.requires.room, c.loop-call.auto.bytes));
    }
