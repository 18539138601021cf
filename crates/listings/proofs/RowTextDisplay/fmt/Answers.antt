use Rattle.std.proofs.Output.{has_written_of_eq}
use Rattle.fields.proofs.Printed.{printed}
use Rattle.listings.proofs.RowTextDisplay.fmt.Goals as goal

pub returns-clause-writes : goal.returns-clause-writes
returns-clause-writes g c = λ plain ok.
    has_written_of_eq _ _ _ _ _ (simp (c.laid_out.ensures, c.laid_out-2.ensures, c.laid_out-3.ensures, c.laid_out-4.ensures, c.laid_out-5.ensures, c.laid_out-6.ensures, c.laid_out-7.ensures, printed)) (c.write.ensures.writes plain ok)
