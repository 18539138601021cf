use Rattle.std.proofs.Common.{◌≤◌, length, sym, ap, ◌∙◌, arith, rules}
use Rattle.std.proofs.lemmas.List.{places}
use Rattle.fields.specs.Justified.{justified}
use Rattle.writing.proofs.Widths.{use_length}
use Rattle.writing.proofs.Puts.{use_put}
use Rattle.writing.proofs.put_call.Goals as goal

pub returns : goal.returns
returns c =
    let l = use_length c.args.call c.requires.narrow c.if-call-eq83.false in
    let room : 7 ≤ length c.args.bytes.now = omega (arith, c.requires.room) in
    record { length = sym l; bytes = use_put c.args.call c.args.bytes.now _ c.requires.narrow c.if-call-eq83.false room (c.put_number.ensures ∙ ap (λ n. justified n c.args.call.page) (search (rules, places))) }
