use Rattle.std.proofs.Common.{sym, ◌∙◌, arith}
use Rattle.writing.specs.Text.{header_text, calls_text}
use Rattle.writing.proofs.Fits.{calls_narrow}
use Rattle.writing.proofs.Widths.{narrows, header_length}
use Rattle.writing.proofs.Texts.{room_left, put_on}
use Rattle.writing.proofs.Laws.{reads_back}
use Rattle.writing.proofs.Written.{text_length, measured, fitted_in, filled_in}
use Rattle.writing.proofs.write.Goals as goal

pub put_header-requires : goal.put_header-requires
put_header-requires c =
    let m = measured c.args.header c.args.calls.now _ c.in_ok-length.ensures in
    record { fit = m.fits.header; room = omega (arith, m.size, text_length c.args.header c.args.calls.now m.fits.header (omega arith)) }

pub put_calls-requires : goal.put_calls-requires
put_calls-requires c =
    let m = measured c.args.header c.args.calls.now _ c.in_ok-length.ensures in
    record {
      narrow = calls_narrow c.args.header.pages c.args.calls.now m.fits.header.pages.1 m.fits.calls;
      room = room_left c.put_header.new.bytes 21 _ (omega (arith, m.size, text_length c.args.header c.args.calls.now m.fits.header (omega arith), c.put_header.auto.bytes));
    }

pub returns : goal.returns
returns c =
    let m = measured c.args.header c.args.calls.now _ c.in_ok-length.ensures in
    let answer = fitted_in c.args.header c.args.calls.now _ _ m (omega arith) in
    let buffer = put_on (header_text c.args.header) (calls_text c.args.calls.now) c.args.buffer.now c.put_header.new.bytes _ 21 (sym (header_length c.args.header (narrows c.args.header m.fits.header (omega arith)))) c.put_header.ensures c.put_calls.ensures
    ∙ filled_in c.args.header c.args.calls.now _ c.args.buffer.now m (omega arith) in
    record { answer = answer; buffer = buffer; back = reads_back c.args.header c.args.calls.now c.args.buffer.now _ _ (omega arith) answer buffer }
