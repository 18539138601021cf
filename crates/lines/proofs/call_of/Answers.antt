use Rattle.std.proofs.Common.{◌≡◌, ap, ◌∙◌}
use Rattle.std.proofs.lemmas.Result.{err_from_is_err_and}
use Rattle.lines.specs.Headers.{with_parts}
use Rattle.lines.specs.Calls.{call_from, call_of}
use Rattle.lines.proofs.Fits.{calls_fit}
use Rattle.lines.proofs.call_of.Goals as goal

pub returns-in_err-cut : goal.returns-in_err-cut
unfolding call_of
returns-in_err-cut c =
    let p = err_from_is_err_and c.from_residual.result c.from_residual.ensures.1 in
    let e : c.from_residual.result ≡ call_of c.args.line c.args.pages c.args.bytes.now = rw (p.1, p.2) (ap (λ q. with_parts q (call_from c.args.line c.args.pages)) c.in_err-cut.ensures) in
    record { told = e; fit = calls_fit c.args.line c.args.pages c.args.bytes.now _ e }

pub returns : goal.returns
unfolding call_of
returns c =
    let e : c.told_call.result ≡ call_of c.args.line c.args.pages c.args.bytes.now = c.told_call.ensures ∙ ap (λ q. with_parts q (call_from c.args.line c.args.pages)) c.in_ok-cut.ensures in
    record { told = e; fit = calls_fit c.args.line c.args.pages c.args.bytes.now _ e }
