use Rattle.std.specs.Prelude.{◌≡◌, ℕ, true, cond, List, length, is_ok, Ok, Err, Result, nat_lt}
use Rattle.recordings.specs.declared.RunFault.{RunFault}
use Rattle.recordings.specs.declared.RunFault.TheVariants.{TableShort}
use Rattle.recordings.specs.Whole.{Recording, calls_of}
use Rattle.writing.specs.Whole.{write_recording}

-- What is answered where what was read is written again: `room` is that of the table, `space` that of the buffer.
abbrev pub rewritten : ℕ → ℕ → Result Recording RunFault → Result ℕ RunFault
rewritten room space (Ok r) = cond (nat_lt room (length r.calls)) (Err TableShort) (write_recording r.header r.calls space)
rewritten room space (Err e) = Err e

-- What a reading of some bytes and a writing of what they say answer.
abbrev pub rewrite_recording : List ℕ → ℕ → ℕ → Result ℕ RunFault
rewrite_recording bs room space = rewritten room space (calls_of bs)

-- What a table or a buffer holds after a call: something new if it is accepted, and else what it held.
abbrev pub if_accepted : {T : Type 0} → Result ℕ RunFault → T → T → T
if_accepted (Ok n) new old = new
if_accepted (Err e) new old = old

-- What a rewriting in memory of its own gives: the bytes, if they are a recording, and else their fault.
abbrev pub WrittenAgain : Result (List ℕ) RunFault → List ℕ → Type 0
WrittenAgain (Ok text) bs = (is_ok (calls_of bs) ≡ true) × (text ≡ bs)
WrittenAgain (Err e) bs = calls_of bs ≡ Err e
