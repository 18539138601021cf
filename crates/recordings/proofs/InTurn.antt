-- What the lines tell in their turn: one line at a time, and as a whole the calls.
use Rattle.std.proofs.Common.{◌≡◌, ℕ, ◌+◌, ◌^◌, ◌<◌, ◌≤◌, true, not, eqb, List, [], ◌∷◌, ◌++◌, length, get_or, take, drop, Some, None, Ok, Err, is_ok, Result, sym, refl, ap, ◌∙◌, subst, inl, inr, append_assoc, append-nil, arith}
use Rattle.std.specs.List.{AllByRecursion, list_all}
use Rattle.std.proofs.lemmas.Bool.{cases_Bool, cond-false, ne_eqb}
use Rattle.std.proofs.lemmas.Bool.Decides.{nat_tests}
use Rattle.std.proofs.ByRecursion.{All-from_get_or}
use Rattle.std.proofs.lemmas.List.{take_all, take-append-drop, drop_more, get_or-take, length-take-le, length_push}
use Rattle.std.proofs.lemmas.List.Sums.{prefix_len-le-length, prefix_len_passes, prefix_len_stops}
use Rattle.lines.specs.declared.CallRecord.{CallRecord}
use Rattle.lines.specs.declared.LineFault.{LineFault}
use Rattle.lines.specs.declared.LineFault.TheVariants.{Shape}
use Rattle.lines.specs.declared.LineProblem.TheVariants.{NoEnd}
use Rattle.lines.specs.Calls.{call_of}
use Rattle.lines.specs.Fit.{CallFit}
use Rattle.lines.proofs.Fits.{call_fits}
use Rattle.recordings.specs.Passes.{line_length, end_in, later_lines}
use Rattle.std.specs.Result.{ok_prefix}
use Rattle.recordings.specs.InTurn.{told_from, told_in, all_calls}
use Rattle.recordings.specs.declared.passes.Lines.{Lines}
use Rattle.recordings.specs.Left.{lines_left}
use Rattle.recordings.specs.Recorded.{Ends}

abbrev pub NotTen : ℕ → Type 0
NotTen b = b ≡ 10 → ⊥

-- The first line of some bytes has no byte 10.
first_clean : (bs : List ℕ) → line_length bs ≤ length bs → AllByRecursion NotTen (take (line_length bs) bs)
first_clean bs h =
    let l = length-take-le (line_length bs) bs h in
    All-from_get_or NotTen (take (line_length bs) bs) 0 (λ i g. let t = prefix_len_passes (λ b. not (eqb b 10)) bs i 0 (omega arith) in let a = get_or-take (line_length bs) bs i 0 (omega arith) in λ e. grind (arith, nat_tests))

-- Where a byte 10 stands, the bytes are the first line and what stands after it.
pub ends_first : (bs : List ℕ) → line_length bs < length bs → Ends bs (take (line_length bs) bs) (later_lines bs)
ends_first bs h =
    let ten : get_or bs (line_length bs) 0 ≡ 10 = let t = prefix_len_stops (λ b. not (eqb b 10)) bs 0 h in grind (arith, nat_tests) in
    record {
      joined = sym (take-append-drop (line_length bs) bs) ∙ ap (λ t. take (line_length bs) bs ++ t) (drop_more bs (line_length bs) 0 h ∙ ap (λ x. x ∷ later_lines bs) ten);
      inside = first_clean bs (omega arith);
    }

-- Bytes without a byte 10 are part of the line.
pub told_skip : (pages n : ℕ) (cur line more : List ℕ) → AllByRecursion NotTen line → told_from pages n cur (line ++ more) ≡ told_from pages n (cur ++ line) more
told_skip pages n cur [] more clean = ap (λ x. told_from pages n x more) (sym (append-nil cur))
told_skip pages n cur (b ∷ line) more clean =
    cond-false (eqb b 10) _ _ (ne_eqb b 10 clean.0) ∙ told_skip pages n (cur ++ b ∷ []) line more clean.1 ∙ ap (λ x. told_from pages n x more) (append_assoc cur (b ∷ []) line)

pub told_none : (pages n : ℕ) (bs : List ℕ) → length bs ≡ 0 → told_in pages n bs ≡ []
unfolding told_in
told_none pages n [] h = refl
told_none pages n (b ∷ bs) h = absurd (omega arith)

pub told_line : (pages n : ℕ) (bs : List ℕ) → line_length bs < length bs → told_in pages n bs ≡ call_of n pages (take (line_length bs) bs) ∷ told_in pages (n + 1) (later_lines bs)
unfolding told_in
told_line pages n bs h =
    let e = ends_first bs h in
    ap (told_from pages n []) e.joined ∙ told_skip pages n [] (take (line_length bs) bs) (10 ∷ later_lines bs) e.inside

pub told_open : (pages n : ℕ) (bs : List ℕ) → line_length bs ≡ length bs → 0 < length bs → told_in pages n bs ≡ Err (Shape NoEnd n 0) ∷ []
unfolding told_in
told_open pages n bs all some =
    let clean : AllByRecursion NotTen bs = subst (AllByRecursion NotTen) (take_all (line_length bs) bs (omega arith)) (first_clean bs (omega arith)) in
    ap (told_from pages n []) (sym (append-nil bs)) ∙ told_skip pages n [] bs [] clean ∙ cond-false (eqb (length bs) 0) _ _ (ne_eqb (length bs) 0 (λ e. omega arith))

-- What a look for the end of the first line answers.
end_there : (bs : List ℕ) (end : ℕ) → Some end ≡ end_in bs → (line_length bs < length bs) × (end ≡ line_length bs)
end_there bs end e = (grind (arith, nat_tests), grind (arith, nat_tests))

end_missing : (bs : List ℕ) → None ≡ end_in bs → line_length bs ≡ length bs
end_missing bs e = let l = prefix_len-le-length (λ b. not (eqb b 10)) bs in grind (arith, nat_tests)

-- One turn of a pass: the line up to its end, or all that is left where no byte 10 ends it.
pub turn_line : (pages n : ℕ) (bs line rest : List ℕ) (end : ℕ) (told : Result CallRecord LineFault) → Some end ≡ end_in bs → line ≡ take end bs → rest ≡ drop (end + 1) bs → told ≡ call_of n pages line → told_in pages n bs ≡ told ∷ told_in pages (n + 1) rest
turn_line pages n bs line rest end told e l r t =
    let p = end_there bs end e in
    told_line pages n bs p.0
    ∙ ap (λ k. call_of n pages (take k bs) ∷ told_in pages (n + 1) (drop (k + 1) bs)) (sym p.1)
    ∙ ap (λ x. call_of n pages x ∷ told_in pages (n + 1) (drop (end + 1) bs)) (sym l)
    ∙ ap (λ x. call_of n pages line ∷ told_in pages (n + 1) x) (sym r)
    ∙ ap (λ q. q ∷ told_in pages (n + 1) rest) (sym t)

pub turn_open : (pages n : ℕ) (bs rest : List ℕ) → None ≡ end_in bs → 0 < length bs → length rest ≡ 0 → told_in pages n bs ≡ Err (Shape NoEnd n 0) ∷ told_in pages n rest
turn_open pages n bs rest e some none = told_open pages n bs (end_missing bs e) some ∙ ap (λ qs. Err (Shape NoEnd n 0) ∷ qs) (sym (told_none pages n rest none))

-- One line less is left.
pub fewer : (q : Result CallRecord LineFault) (ps qs : List (Result CallRecord LineFault)) → ps ≡ q ∷ qs → length qs < length ps
fewer q ps qs e = omega (arith, ap length e)

-- There are no more lines than bytes.
told_few : (pages n : ℕ) (cur bs : List ℕ) → length (told_from pages n cur bs) ≤ length cur + length bs
told_few pages n cur [] = elim (cases_Bool (eqb (length cur) 0)) [ inl t ↦ rw t (omega arith) | inr t ↦ rw t (let some : length cur ≡ 0 → ⊥ = λ e. grind (arith, nat_tests) in grind arith) ]
told_few pages n cur (b ∷ bs) = elim (cases_Bool (eqb b 10)) [
  | inl t ↦ rw t (omega (arith, told_few pages (n + 1) [] bs))
  | inr t ↦ rw t (omega (arith, told_few pages n (cur ++ b ∷ []) bs, length_push cur b))
]

pub told_short : (pages n : ℕ) (bs : List ℕ) → length (told_in pages n bs) ≤ length bs
unfolding told_in
told_short pages n bs = omega (arith, told_few pages n [] bs)

-- The calls are in range.
one_fits : (n pages : ℕ) (bs : List ℕ) (q : Result CallRecord LineFault) (qs : List (Result CallRecord LineFault)) → call_of n pages bs ≡ q → AllByRecursion (CallFit pages) (ok_prefix qs) → AllByRecursion (CallFit pages) (ok_prefix (q ∷ qs))
one_fits n pages bs (Ok c) qs e more = (call_fits n pages bs c e, more)
one_fits n pages bs (Err x) qs e more = tt

told_fit : (pages n : ℕ) (cur bs : List ℕ) → AllByRecursion (CallFit pages) (ok_prefix (told_from pages n cur bs))
told_fit pages n cur [] = elim (cases_Bool (eqb (length cur) 0)) [ inl t ↦ rw t tt | inr t ↦ rw t tt ]
told_fit pages n cur (b ∷ bs) = elim (cases_Bool (eqb b 10)) [
  | inl t ↦ rw t (one_fits n pages cur (call_of n pages cur) (told_from pages (n + 1) [] bs) refl (told_fit pages (n + 1) [] bs))
  | inr t ↦ rw t (told_fit pages n (cur ++ b ∷ []) bs)
]

pub told_calls_fit : (pages n : ℕ) (bs : List ℕ) → AllByRecursion (CallFit pages) (ok_prefix (told_in pages n bs))
unfolding told_in
told_calls_fit pages n bs = told_fit pages n [] bs

-- Where no line is at fault, the calls are those among what the lines tell.
pub record Whole (sofar : List CallRecord) (qs : List (Result CallRecord LineFault)) (cs : List CallRecord) : Type 0 where
  pub sound : list_all is_ok qs ≡ true
  pub are : cs ≡ sofar ++ ok_prefix qs

pub whole_calls : (sofar : List CallRecord) (qs : List (Result CallRecord LineFault)) (cs : List CallRecord) → all_calls sofar qs ≡ Ok cs → Whole sofar qs cs
whole_calls sofar [] cs e = let same : cs ≡ sofar = cc in record { sound = refl; are = same ∙ sym (append-nil sofar) }
whole_calls sofar (Ok c ∷ qs) cs e = let w = whole_calls (sofar ++ c ∷ []) qs cs e in record { sound = w.sound; are = w.are ∙ append_assoc sofar (c ∷ []) (ok_prefix qs) }
whole_calls sofar (Err x ∷ qs) cs e = grind arith

-- What a pass has before it are no more lines than a number of 63 bits counts.
pub lines_few : (s : Lines) → length (lines_left s) < 2 ^ 63
lines_few s = omega (arith, s.numbered, told_short s.pages s.line s.rest.now)
