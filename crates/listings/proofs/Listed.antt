-- The text of a counted recording, or of its fault, is the listing.
use Rattle.std.proofs.Common.{◌≡◌, ℕ, ◌≤◌, List, Ok, Err, Result, sym, refl, ap, arith}
use Rattle.std.specs.Result.{result_map_both}
use Rattle.std.proofs.lemmas.Bool.{le-ltb}
use Rattle.census.specs.Refusals.{needed}
use Rattle.lines.specs.Fit.{HeaderFit}
use Rattle.recordings.specs.declared.RunFault.{RunFault}
use Rattle.recordings.specs.Tells.{tells_of}
use Rattle.recordings.specs.Whole.{Recording, calls_of, summary_of}
use Rattle.recordings.proofs.Checked.{checked}
use Rattle.recordings.proofs.Fits.{checked_header}
use Rattle.counting.specs.Whole.{room_for, may_count}
use Rattle.listings.specs.Text.{fault_line, listing_of, listing_text}

-- The tables of 512 records and 1,539 places suffice for every recording.
header_fit : (bs : List ℕ) (r : Recording) → calls_of bs ≡ Ok r → HeaderFit r.header
header_fit bs r e = let k = checked bs (summary_of r) (sym (ap (result_map_both summary_of (λ (x : RunFault). x)) e)) in checked_header bs (summary_of r) k.0 k.1

by_result : (bs : List ℕ) (q : Result Recording RunFault) (f : RunFault) (records places : ℕ) → calls_of bs ≡ q → 512 ≤ records → 1539 ≤ places → Err f ≡ room_for records places q → listing_of q ≡ fault_line (tells_of f)
by_result bs (Ok r) f records places e h g a =
    let fit = header_fit bs r e in
    let z : ◌≡◌ {A = ℕ} 0 1 = cc (rw (le-ltb records r.header.pages (omega (arith, fit.pages.1)), le-ltb places (needed r.header.pages) (omega (arith, fit.pages.1))) at a) in
    absurd (omega arith)
by_result bs (Err x) f records places e h g a = let same : x ≡ f = cc in ap (λ y. fault_line (tells_of y)) same

pub faulted : (bs : List ℕ) (f : RunFault) (records places : ℕ) → 512 ≤ records → 1539 ≤ places → Err f ≡ may_count bs records places → fault_line (tells_of f) ≡ listing_text bs
faulted bs f records places h g a = sym (by_result bs (calls_of bs) f records places refl h g a)
