use Rattle.std.proofs.Common.{◌∙◌, length, Ok, sym, ap, arith}
use Rattle.std.proofs.lemmas.Result.{err_from_is_err_and}
use Rattle.recordings.proofs.Checked.{calls_of_long, calls_of_header, calls_of_line, calls_of_whole, calls_from_count, fault_from_count, rest_short}
use Rattle.recordings.proofs.Parsed.{lines_at, whole_at}
use Rattle.recordings.proofs.whole.Recording.parse.Goals as goal

pub returns-then-bytes-gt-LONGEST : goal.returns-then-bytes-gt-LONGEST
returns-then-bytes-gt-LONGEST c = sym (calls_of_long _ (omega arith))

pub returns-in_err-header : goal.returns-in_err-header
returns-in_err-header c =
    let p = err_from_is_err_and c.from_residual.result c.from_residual.ensures.1 in
    rw (p.1, p.2) (sym (calls_of_header _ _ (omega arith) (sym c.in_err-header.ensures.told)))

pub returns-in_err-calls : goal.returns-in_err-calls
returns-in_err-calls c =
    let p = err_from_is_err_and c.from_residual-in_err-calls.result c.from_residual-in_err-calls.ensures.1 in
    let q = fault_from_count _ _ c.in_err-calls.ensures in
    rw (p.1, p.2) (sym (calls_of_line _ _ _ (omega arith) (sym c.in_ok-header.ensures.told) (lines_at c.args.bytes.now _ _ _ c.new.ensures c.after_header-rest.ensures ∙ q)))

pub invariant_of-result : goal.invariant_of-result
invariant_of-result c =
    let q = calls_from_count _ _ c.in_ok-calls.ensures in
    let w = whole_at _ _ _ _ c.new.ensures q.1 in
    record { fit = c.in_ok-header.ensures.fit; short = rest_short c.args.bytes.now _ (omega arith) c.after_header-rest.ensures; sound = w.0; counted = q.2 ∙ ap length w.1 }

pub returns : goal.returns
returns c =
    let q = calls_from_count _ _ c.in_ok-calls.ensures in
    let w = whole_at _ _ _ _ c.new.ensures q.1 in
    sym (calls_of_whole _ _ _ (omega arith) (sym c.in_ok-header.ensures.told) (lines_at c.args.bytes.now _ _ _ c.new.ensures c.after_header-rest.ensures ∙ q.1 ∙ ap Ok w.1))
