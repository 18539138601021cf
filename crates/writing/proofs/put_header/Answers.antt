use Rattle.std.proofs.Common.{ap, ◌∙◌, arith, rules}
use Rattle.std.proofs.lemmas.List.{places}
use Rattle.fields.specs.Justified.{justified}
use Rattle.writing.proofs.Widths.{narrows}
use Rattle.writing.proofs.Puts.{header_put}
use Rattle.writing.proofs.put_header.Goals as goal

pub put_number-requires : goal.put_number-requires
put_number-requires c = let n = (narrows c.args.header c.requires.fit (omega arith)).pages in search (rules, places)

pub put_number-requires-2 : goal.put_number-requires-2
put_number-requires-2 c = let n = (narrows c.args.header c.requires.fit (omega arith)).top in search (rules, places)

pub put_number-requires-3 : goal.put_number-requires-3
put_number-requires-3 c = let n = (narrows c.args.header c.requires.fit (omega arith)).seed in search (rules, places)

pub returns : goal.returns
returns c = header_put c.args.header c.args.bytes.now _ _ _ (narrows c.args.header c.requires.fit (omega arith)) c.requires.room
    (c.put_number.ensures ∙ ap (λ n. justified n c.args.header.pages) (search (rules, places)))
    (c.put_number-2.ensures ∙ ap (λ n. justified n c.args.header.top) (search (rules, places)))
    (c.put_number-3.ensures ∙ ap (λ n. justified n c.args.header.seed) (search (rules, places)))
