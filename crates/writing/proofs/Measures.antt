-- The length of a text, counted call by call.
use Rattle.std.proofs.Common.{◌≡◌, ℕ, ◌+◌, ◌<◌, ltb, List, length, get_or, take, Err, sym, arith}
use Rattle.std.proofs.lemmas.Bool.{cond-true, lt-ltb}
use Rattle.lines.specs.declared.CallRecord.{CallRecord}
use Rattle.recordings.specs.declared.RunFault.TheVariants.{TooLong}
use Rattle.writing.specs.Text.{call_text, calls_text}
use Rattle.writing.specs.Whole.{short_length}
use Rattle.writing.proofs.Texts.{length_more, text_le}

-- Too many bytes of some calls are too many of all.
pub too_long : (cs : List CallRecord) (i n : ℕ) (d : CallRecord) → i < length cs → n ≡ 21 + length (calls_text (take i cs)) → 60000 < n + length (call_text (get_or cs i d)) → Err TooLong ≡ short_length (21 + length (calls_text cs))
too_long cs i n d h is long =
    let a = length_more cs i d h in
    let b = text_le cs (i + 1) in
    sym (cond-true (ltb 60000 (21 + length (calls_text cs))) _ _ (lt-ltb 60000 (21 + length (calls_text cs)) (omega arith)))
