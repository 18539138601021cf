use Rattle.std.proofs.Common.{◌≡◌, length, Ok, sym, ap, ◌∙◌, arith}
use Rattle.recordings.specs.Whole.{table_after}
use Rattle.writing.specs.Text.{text_first}
use Rattle.writing.specs.Rewritten.{if_accepted}
use Rattle.writing.proofs.Laws.{same_again, only_written}
use Rattle.writing.proofs.Rewritten.{read_into, read_calls, written_again, rewritten_again, same_bytes}
use Rattle.writing.proofs.rewrite.Goals as goal

pub returns : goal.returns
returns c =
    let k = read_into c.args.bytes.now c.args.calls.now _ c.in_ok-summary.ensures.answer in
    let e = read_calls c.args.bytes.now c.args.calls.now c.read.new.calls _ _ _ k.1 c.read.ensures.table (omega arith) in
    let w = written_again c.args.bytes.now c.args.buffer.now c.args.calls.now _ _ _ k.1 e (omega arith) in
    let r : c.write.result ≡ Ok (length c.args.bytes.now) = c.write.ensures.answer ∙ w.0 in
    let answer = r ∙ sym (rewritten_again c.args.bytes.now _ c.args.calls.now _ _ k.1 (omega arith)) in
    let buffer = c.write.ensures.buffer ∙ w.1 ∙ ap (λ q. if_accepted q (text_first c.args.bytes.now c.args.buffer.now) c.args.buffer.now) (sym r) in
    record {
      answer = answer;
      table = c.read.ensures.table ∙ ap (λ q. if_accepted q (table_after c.args.bytes.now c.args.calls.now) c.args.calls.now) (sym r);
      buffer = buffer;
      same = same_bytes c.args.bytes.now c.args.buffer.now _ _ _ _ answer buffer;
      again = same_again;
      only = only_written;
    }
