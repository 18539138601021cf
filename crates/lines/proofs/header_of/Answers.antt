use Rattle.std.proofs.Common.{◌≡◌, ap, ◌∙◌}
use Rattle.std.proofs.lemmas.Result.{err_from_is_err_and}
use Rattle.lines.specs.Headers.{with_parts, header_from, header_of}
use Rattle.lines.proofs.Fits.{headers_fit}
use Rattle.lines.proofs.header_of.Goals as goal

pub returns-in_err-cut : goal.returns-in_err-cut
unfolding header_of
returns-in_err-cut c =
    let p = err_from_is_err_and c.from_residual.result c.from_residual.ensures.1 in
    let e : c.from_residual.result ≡ header_of c.args.bytes.now = rw (p.1, p.2) (ap (λ q. with_parts q header_from) c.in_err-cut.ensures) in
    record { told = e; fit = headers_fit c.args.bytes.now _ e }

pub returns : goal.returns
unfolding header_of
returns c =
    let e : c.told_header.result ≡ header_of c.args.bytes.now = c.told_header.ensures ∙ ap (λ q. with_parts q header_from) c.in_ok-cut.ensures in
    record { told = e; fit = headers_fit c.args.bytes.now _ e }
