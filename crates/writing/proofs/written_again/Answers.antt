use Rattle.std.proofs.Common.{◌≡◌, List, ◌++◌, length, take, drop, is_ok, vec_len, vec_items, arith, sym, ap, ◌∙◌}
use Rattle.std.proofs.lemmas.List.{append-nil, take_at}
use Rattle.lines.specs.declared.CallRecord.{CallRecord}
use Rattle.writing.proofs.Rewritten.{said_by, said_accepted, said_whole}
use Rattle.writing.proofs.written_again.Goals as goal

pub returns-in-Ok-write : goal.returns-in-Ok-write
returns-in-Ok-write c =
    let cs : List CallRecord = c.deref.result.now in
    let all = rw c.in-None.ensures.steps.0 at c.loop-call.invariant in
    let none = append-nil c.loop-call.calls.items in
    let same : cs ≡ c.in-Ok.recording.calls = cc (c.deref.ensures.value, c.into_iter-call-iterator.ensures.into_iter_gives, c.calls-call-items.ensures.told) in
    let says = said_by c.args.bytes.now c.in-Ok.recording c.header.result cs (sym c.parse.ensures ∙ c.in-Ok.is) c.header.ensures.told same in
    let long : length c.deref_mut.result.now ≡ length c.args.bytes.now = omega (arith, ap length c.deref_mut.ensures.value, c.in_ok-text.ensures.len, c.in_ok-text.text.ok.0) in
    let whole = said_whole c.args.bytes.now c.header.result cs c.deref_mut.result.now c.write.new.buffer says long c.write.ensures.buffer in
    let len : length c.args.bytes.now ≡ vec_len c.in_ok-text.text = omega (arith, c.in_ok-text.ensures.len) in (
      ap is_ok says,
      ap (λ xs. take (vec_len c.in_ok-text.text) (xs ++ drop (length xs) (vec_items c.in_ok-text.text))) whole
          ∙ take_at c.args.bytes.now (drop (length c.args.bytes.now) (vec_items c.in_ok-text.text)) _ len,
    )

pub returns : goal.returns
returns c =
    let cs : List CallRecord = c.deref.result.now in
    let all = rw c.in-None.ensures.steps.0 at c.loop-call.invariant in
    let none = append-nil c.loop-call.calls.items in
    let same : cs ≡ c.in-Ok.recording.calls = cc (c.deref.ensures.value, c.into_iter-call-iterator.ensures.into_iter_gives, c.calls-call-items.ensures.told) in
    let says = said_by c.args.bytes.now c.in-Ok.recording c.header.result cs (sym c.parse.ensures ∙ c.in-Ok.is) c.header.ensures.told same in
    let long : length c.deref_mut.result.now ≡ length c.args.bytes.now = omega (arith, ap length c.deref_mut.ensures.value, c.in_ok-text.ensures.len, c.in_ok-text.text.ok.0) in
    let r = said_accepted c.args.bytes.now c.header.result cs (length c.deref_mut.result.now) c.write.result says (omega arith) c.write.ensures.answer in
    let e = c.in-Err-write.is in
    absurd (grind arith)
