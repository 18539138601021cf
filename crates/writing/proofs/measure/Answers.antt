use Rattle.std.proofs.Common.{length, sym, ap, ◌∙◌, arith}
use Rattle.std.specs.Result.{result_map_both}
use Rattle.std.proofs.lemmas.Result.{err_from_is_err_and}
use Rattle.recordings.specs.declared.RunFault.{RunFault}
use Rattle.writing.proofs.Fits.{header_fit, calls_fit, calls_narrow}
use Rattle.writing.proofs.Written.{header_refused, call_refused, measured_length}
use Rattle.writing.proofs.measure.Goals as goal

pub returns-in_err-ranged : goal.returns-in_err-ranged
returns-in_err-ranged c =
    let p = err_from_is_err_and c.from_residual.result c.from_residual.ensures.1 in
    rw (p.1, p.2) (ap (result_map_both length (λ (e : RunFault). e)) (sym (header_refused _ _ _ (sym c.in_err-ranged.ensures))))

pub returns-in_err-check_calls : goal.returns-in_err-check_calls
returns-in_err-check_calls c =
    let p = err_from_is_err_and c.from_residual-in_err-check_calls.result c.from_residual-in_err-check_calls.ensures.1 in
    rw (p.1, p.2) (ap (result_map_both length (λ (e : RunFault). e)) (sym (call_refused _ _ _ _ (sym c.in_ok-ranged.ensures) (sym c.in_err-check_calls.ensures))))

pub text_length-requires : goal.text_length-requires
text_length-requires c =
    let h = header_fit c.args.header _ (sym c.in_ok-ranged.ensures) in
    calls_narrow c.args.header.pages _ h.pages.1 (calls_fit 2 c.args.header.pages _ _ (sym c.in_ok-check_calls.ensures))

pub returns : goal.returns
returns c = c.text_length.ensures ∙ measured_length c.args.header _ _ _ (omega arith) (sym c.in_ok-ranged.ensures) (sym c.in_ok-check_calls.ensures)
