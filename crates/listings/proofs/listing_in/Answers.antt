use Rattle.std.proofs.Common.{◌≡◌, ℕ, List, length, string_bytes, IfOk, ap, subst, ◌∙◌}
use Rattle.listings.specs.Text.{fault_line}
use Rattle.listings.proofs.Listed.{faulted}
use Rattle.listings.proofs.listing_in.Goals as goal

pub returns-in-Err : goal.returns-in-Err
returns-in-Err c =
    subst (λ (x : List ℕ). IfOk c.format.result (λ text. string_bytes text ≡ x))
    (ap fault_line c.from.ensures ∙ faulted c.args.recording.now c.in-Err.fault (length c.args.table.now) (length c.args.counts.now) c.requires.records c.requires.places c.in-Err.ensures.answer)
    c.format.ensures.ok
