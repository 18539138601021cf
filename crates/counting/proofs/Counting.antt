-- Whether the tables suffice for a recording that a check accepts.
use Rattle.std.proofs.Common.{◌≡◌, ℕ, Bool, true, false, cond, ◌||◌, ltb, List, Ok, Err, Result, sym, refl, ap, ◌∙◌, arith}
use Rattle.census.specs.declared.refusal.CensusRefusal.{CensusRefusal}
use Rattle.census.specs.declared.refusal.CensusRefusal.TheVariants.{ShortTable}
use Rattle.census.specs.Refusals.{needed, may_keep}
use Rattle.lines.specs.declared.CallRecord.{CallRecord}
use Rattle.recordings.specs.declared.RunFault.{RunFault}
use Rattle.recordings.specs.declared.RunFault.TheVariants.{TableShort}
use Rattle.recordings.specs.declared.Summary.{Summary}
use Rattle.recordings.proofs.Checked.{Checked}
use Rattle.counting.specs.Whole.{room_for, may_count}

-- Whether the tables suffice is one test, for the census and for the recording.
by_test : (b : Bool) → cond {A = Result (Unit {0}) CensusRefusal} b (Err ShortTable) (Ok tt) ≡ Ok tt → ◌≡◌ {A = Result (Unit {0}) RunFault} (Ok tt) (cond b (Err TableShort) (Ok tt))
by_test true e = let z : ◌≡◌ {A = ℕ} 0 1 = cc in absurd (omega arith)
by_test false e = refl

by_short : (b : Bool) → cond {A = Result (Unit {0}) CensusRefusal} b (Err ShortTable) (Ok tt) ≡ Err ShortTable → ◌≡◌ {A = Result (Unit {0}) RunFault} (Err TableShort) (cond b (Err TableShort) (Ok tt))
by_short true e = refl
by_short false e = let z : ◌≡◌ {A = ℕ} 0 1 = cc in absurd (omega arith)

module _ (bs : List ℕ) (s : Summary) (cs : List CallRecord) (k : Checked bs s cs) (records places : ℕ) where
  pub room_counts : may_keep s.header.pages records places ≡ Ok tt → Ok tt ≡ may_count bs records places
  room_counts e = by_test (ltb records s.header.pages || ltb places (needed s.header.pages)) e ∙ ap (room_for records places) (sym k.whole)

  pub short_counts : may_keep s.header.pages records places ≡ Err ShortTable → Err TableShort ≡ may_count bs records places
  short_counts e = by_short (ltb records s.header.pages || ltb places (needed s.header.pages)) e ∙ ap (room_for records places) (sym k.whole)
