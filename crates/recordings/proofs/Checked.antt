-- What an accepted recording is.
use Rattle.std.proofs.Common.{◌≡◌, ℕ, ◌+◌, ◌<◌, ◌≤◌, ltb, List, length, Ok, Err, Result, sym, refl, ap, ◌∙◌, inl, inr, arith}
use Rattle.std.specs.Result.{result_map_both}
use Rattle.std.proofs.lemmas.List.{length-drop}
use Rattle.std.proofs.lemmas.Bool.{cond-true, cond-false, lt-ltb, le-ltb, cases_lt}
use Rattle.lines.specs.declared.Header.{Header}
use Rattle.lines.specs.declared.CallRecord.{CallRecord}
use Rattle.lines.specs.declared.LineFault.{LineFault}
use Rattle.recordings.specs.declared.RunFault.{RunFault}
use Rattle.recordings.specs.declared.RunFault.TheVariants.{Line, TooLong}
use Rattle.recordings.specs.declared.Summary.{Summary}
use Rattle.recordings.specs.Passes.{first_header, later_lines, calls_in, line_length, counted}
use Rattle.recordings.specs.Whole.{with_line, calls_of, summary_of, check_recording}

-- A recording is told by its length, its header and its calls, in this order.
pub calls_of_long : (bs : List ℕ) → 60000 < length bs → calls_of bs ≡ Err TooLong
unfolding calls_of
calls_of_long bs h = cond-true (ltb 60000 (length bs)) _ _ (lt-ltb 60000 (length bs) h)

in_short : (bs : List ℕ) → length bs ≤ 60000 → calls_of bs ≡ with_line (first_header bs) (λ h. with_line (calls_in h.pages (later_lines bs)) (λ cs. Ok (record { header = h; calls = cs })))
unfolding calls_of
in_short bs short = cond-false (ltb 60000 (length bs)) _ _ (le-ltb 60000 (length bs) short)

pub calls_of_header : (bs : List ℕ) (x : LineFault) → length bs ≤ 60000 → first_header bs ≡ Err x → calls_of bs ≡ Err (Line x)
calls_of_header bs x short e = in_short bs short ∙ ap (λ q. with_line q (λ h. with_line (calls_in h.pages (later_lines bs)) (λ cs. Ok (record { header = h; calls = cs })))) e

after_first : (bs : List ℕ) (h : Header) → length bs ≤ 60000 → first_header bs ≡ Ok h → calls_of bs ≡ with_line (calls_in h.pages (later_lines bs)) (λ cs. Ok (record { header = h; calls = cs }))
after_first bs h short e = in_short bs short ∙ ap (λ q. with_line q (λ h. with_line (calls_in h.pages (later_lines bs)) (λ cs. Ok (record { header = h; calls = cs })))) e

pub calls_of_line : (bs : List ℕ) (h : Header) (x : LineFault) → length bs ≤ 60000 → first_header bs ≡ Ok h → calls_in h.pages (later_lines bs) ≡ Err x → calls_of bs ≡ Err (Line x)
calls_of_line bs h x short e g = after_first bs h short e ∙ ap (λ q. with_line q (λ cs. Ok (record { header = h; calls = cs }))) g

pub calls_of_whole : (bs : List ℕ) (h : Header) (cs : List CallRecord) → length bs ≤ 60000 → first_header bs ≡ Ok h → calls_in h.pages (later_lines bs) ≡ Ok cs → calls_of bs ≡ Ok (record { header = h; calls = cs })
calls_of_whole bs h cs short e g = after_first bs h short e ∙ ap (λ q. with_line q (λ cs. Ok (record { header = h; calls = cs }))) g

-- What a count of calls says of the calls.
pub calls_from_count : (q : Result (List CallRecord) LineFault) (n : ℕ) → Ok n ≡ counted q → (cs : List CallRecord) × (q ≡ Ok cs) × (n ≡ length cs)
calls_from_count (Ok cs) n e = (cs, refl, cc)
calls_from_count (Err x) n e = grind arith

pub fault_from_count : (q : Result (List CallRecord) LineFault) (x : LineFault) → Err x ≡ counted q → q ≡ Err x
fault_from_count (Ok cs) x e = grind arith
fault_from_count (Err y) x e = let same : y ≡ x = cc in ap Err same

-- What is known of a recording that a check accepts: `s` is its summary and `cs` are its calls.
pub record Checked (bs : List ℕ) (s : Summary) (cs : List CallRecord) : Type 0 where
  pub short : length bs ≤ 60000
  pub header : first_header bs ≡ Ok s.header
  pub lines : calls_in s.header.pages (later_lines bs) ≡ Ok cs
  pub count : s.calls ≡ length cs
  pub whole : calls_of bs ≡ Ok (record { header = s.header; calls = cs })

-- The header and the calls behind a summary.
by_lines : (bs : List ℕ) (s : Summary) (h : Header) (q : Result (List CallRecord) LineFault) → length bs ≤ 60000 → first_header bs ≡ Ok h → calls_in h.pages (later_lines bs) ≡ q → Ok s ≡ result_map_both summary_of (λ (e : RunFault). e) (with_line q (λ cs. Ok (record { header = h; calls = cs }))) → (cs : List CallRecord) × Checked bs s cs
by_lines bs s h (Ok cs) short f g e =
    let same : s ≡ record { header = h; calls = length cs } = cc in
    let a : h ≡ s.header = sym (ap (λ (t : Summary). t.header) same) in
    let f' : first_header bs ≡ Ok s.header = f ∙ ap Ok a in
    let g' : calls_in s.header.pages (later_lines bs) ≡ Ok cs = ap (λ (t : Header). calls_in t.pages (later_lines bs)) (sym a) ∙ g in
    (cs, record { short = short; header = f'; lines = g'; count = ap (λ (t : Summary). t.calls) same; whole = calls_of_whole bs s.header cs short f' g' })
by_lines bs s h (Err x) short f g e = grind arith

by_header : (bs : List ℕ) (s : Summary) (q : Result Header LineFault) → length bs ≤ 60000 → first_header bs ≡ q → Ok s ≡ check_recording bs → (cs : List CallRecord) × Checked bs s cs
by_header bs s (Ok h) short f e = by_lines bs s h (calls_in h.pages (later_lines bs)) short f refl (e ∙ ap (result_map_both summary_of (λ (e : RunFault). e)) (after_first bs h short f))
by_header bs s (Err x) short f e = absurd (let g = calls_of_header bs x short f in grind arith)

pub checked : (bs : List ℕ) (s : Summary) → Ok s ≡ check_recording bs → (cs : List CallRecord) × Checked bs s cs
checked bs s e = elim (cases_lt 60000 (length bs)) [
  | inl long ↦ absurd (let g = calls_of_long bs long in grind arith)
  | inr short ↦ by_header bs s (first_header bs) short refl e
]

-- The lines after the header are no more bytes.
pub rest_short : (bs rest : List ℕ) → length bs ≤ 60000 → rest ≡ later_lines bs → length rest ≤ 60000
rest_short bs rest short e = omega (arith, ap length e, length-drop (line_length bs + 1) bs)
