-- What is known of a header and calls that are written, and of those that are refused.
use Rattle.std.proofs.Common.{◌≡◌, ℕ, ◌+◌, ◌^◌, ◌<◌, ◌≤◌, ltb, List, length, Ok, Err, Result, sym, refl, ap, ◌∙◌, inl, inr, arith}
use Rattle.std.specs.Result.{result_map_both}
use Rattle.std.specs.List.{AllByRecursion}
use Rattle.std.proofs.lemmas.List.{length-append}
use Rattle.std.proofs.lemmas.Bool.{cases_lt, cond-true, cond-false, lt-ltb, le-ltb}
use Rattle.lines.specs.declared.Header.{Header}
use Rattle.lines.specs.declared.CallRecord.{CallRecord}
use Rattle.lines.specs.declared.LineFault.{LineFault}
use Rattle.lines.specs.Headers.{in_range}
use Rattle.lines.specs.Fit.{HeaderFit, CallFit}
use Rattle.recordings.specs.declared.RunFault.{RunFault}
use Rattle.recordings.specs.declared.RunFault.TheVariants.{Line, TooLong}
use Rattle.recordings.specs.Whole.{with_line}
use Rattle.writing.specs.Text.{header_text, calls_text, text_of, text_first}
use Rattle.writing.specs.Refusals.{calls_in_range}
use Rattle.writing.specs.Whole.{short_length, short_text, written_text, text_fitted, write_recording, text_filled, buffer_after}
use Rattle.writing.proofs.Widths.{narrows, header_length}
use Rattle.writing.proofs.Fits.{header_fit, fit_header, calls_fit, fit_calls}

-- A header and calls are told by the header, the calls and the length, in this order.
pub header_refused : (h : Header) (cs : List CallRecord) (x : LineFault) → in_range h ≡ Err x → written_text h cs ≡ Err (Line x)
unfolding written_text
header_refused h cs x e = ap (λ q. with_line q (λ _. with_line (calls_in_range 2 h.pages cs) (λ _. short_text (text_of h cs)))) e

after_header : (h g : Header) (cs : List CallRecord) → in_range h ≡ Ok g → written_text h cs ≡ with_line (calls_in_range 2 h.pages cs) (λ _. short_text (text_of h cs))
unfolding written_text
after_header h g cs e = ap (λ q. with_line q (λ _. with_line (calls_in_range 2 h.pages cs) (λ _. short_text (text_of h cs)))) e

pub call_refused : (h g : Header) (cs : List CallRecord) (x : LineFault) → in_range h ≡ Ok g → calls_in_range 2 h.pages cs ≡ Err x → written_text h cs ≡ Err (Line x)
call_refused h g cs x e f = after_header h g cs e ∙ ap (λ q. with_line q (λ _. short_text (text_of h cs))) f

pub in_short : (h g : Header) (cs : List CallRecord) (u : Unit {0}) → in_range h ≡ Ok g → calls_in_range 2 h.pages cs ≡ Ok u → written_text h cs ≡ short_text (text_of h cs)
in_short h g cs u e f = after_header h g cs e ∙ ap (λ q. with_line q (λ _. short_text (text_of h cs))) f

-- The length of a text.
pub text_length : (h : Header) (cs : List CallRecord) → HeaderFit h → h.seed < 2 ^ 32 → length (text_of h cs) ≡ 21 + length (calls_text cs)
text_length h cs fit small = length-append (header_text h) (calls_text cs) ∙ ap (λ n. n + length (calls_text cs)) (header_length h (narrows h fit small))

short_is : (t : List ℕ) → length t ≤ 60000 → short_text t ≡ Ok t
short_is t short = cond-false (ltb 60000 (length t)) _ _ (le-ltb 60000 (length t) short)

long_is : (t : List ℕ) → 60000 < length t → short_text t ≡ Err TooLong
long_is t long = cond-true (ltb 60000 (length t)) _ _ (lt-ltb 60000 (length t) long)

short_length_is : (t : List ℕ) → short_length (length t) ≡ result_map_both length (λ (e : RunFault). e) (short_text t)
short_length_is t = elim (cases_lt 60000 (length t)) [
  | inl long ↦ cond-true (ltb 60000 (length t)) _ _ (lt-ltb 60000 (length t) long) ∙ sym (ap (result_map_both length (λ (e : RunFault). e)) (long_is t long))
  | inr short ↦ cond-false (ltb 60000 (length t)) _ _ (le-ltb 60000 (length t) short) ∙ sym (ap (result_map_both length (λ (e : RunFault). e)) (short_is t short))
]

pub measured_length : (h g : Header) (cs : List CallRecord) (u : Unit {0}) → h.seed < 2 ^ 32 → in_range h ≡ Ok g → calls_in_range 2 h.pages cs ≡ Ok u → short_length (21 + length (calls_text cs)) ≡ result_map_both length (λ (e : RunFault). e) (written_text h cs)
measured_length h g cs u small e f =
    ap short_length (sym (text_length h cs (header_fit h g e) small)) ∙ short_length_is (text_of h cs) ∙ ap (result_map_both length (λ (e : RunFault). e)) (sym (in_short h g cs u e f))

-- A header and calls in range, whose text is short enough.
pub record Written (h : Header) (cs : List CallRecord) : Type 0 where
  pub header : HeaderFit h
  pub calls : AllByRecursion (CallFit h.pages) cs
  pub short : length (text_of h cs) ≤ 60000

-- These are written, as their text.
pub written : (h : Header) (cs : List CallRecord) → Written h cs → written_text h cs ≡ Ok (text_of h cs)
written h cs w = in_short h h cs tt (fit_header h w.header) (fit_calls 2 h.pages cs w.calls) ∙ short_is (text_of h cs) w.short

by_length : (h : Header) (cs : List CallRecord) (t : List ℕ) → HeaderFit h → AllByRecursion (CallFit h.pages) cs → short_text (text_of h cs) ≡ Ok t → Written h cs × (t ≡ text_of h cs)
by_length h cs t a b e = elim (cases_lt 60000 (length (text_of h cs))) [
  | inl long ↦ absurd (let f = long_is (text_of h cs) long in grind arith)
  | inr short ↦ let f = short_is (text_of h cs) short in (record { header = a; calls = b; short = short }, cc)
]

by_calls : (h g : Header) (cs : List CallRecord) (t : List ℕ) (q : Result (Unit {0}) LineFault) → in_range h ≡ Ok g → calls_in_range 2 h.pages cs ≡ q → written_text h cs ≡ Ok t → Written h cs × (t ≡ text_of h cs)
by_calls h g cs t (Ok u) e f is = by_length h cs t (header_fit h g e) (calls_fit 2 h.pages cs u f) (sym (in_short h g cs u e f) ∙ is)
by_calls h g cs t (Err x) e f is = absurd (let k = call_refused h g cs x e f in grind arith)

by_header : (h : Header) (cs : List CallRecord) (t : List ℕ) (q : Result Header LineFault) → in_range h ≡ q → written_text h cs ≡ Ok t → Written h cs × (t ≡ text_of h cs)
by_header h cs t (Ok g) e is = by_calls h g cs t (calls_in_range 2 h.pages cs) e refl is
by_header h cs t (Err x) e is = absurd (let k = header_refused h cs x e in grind arith)

-- And no others are.
pub written_is : (h : Header) (cs : List CallRecord) (t : List ℕ) → written_text h cs ≡ Ok t → Written h cs × (t ≡ text_of h cs)
written_is h cs t is = by_header h cs t (in_range h) refl is

-- What a measured length says.
pub from_length : (q : Result (List ℕ) RunFault) (n : ℕ) → Ok n ≡ result_map_both length (λ (e : RunFault). e) q → (t : List ℕ) × (q ≡ Ok t) × (n ≡ length t)
from_length (Ok t) n e = (t, refl, cc)
from_length (Err x) n e = grind arith

pub from_fault : (q : Result (List ℕ) RunFault) (x : RunFault) → Err x ≡ result_map_both length (λ (e : RunFault). e) q → q ≡ Err x
from_fault (Ok t) x e = grind arith
from_fault (Err y) x e = let same : y ≡ x = cc in ap Err same

pub record Measured (h : Header) (cs : List CallRecord) (n : ℕ) : Type 0 where
  pub fits : Written h cs
  pub text : written_text h cs ≡ Ok (text_of h cs)
  pub size : n ≡ length (text_of h cs)

pub measured : (h : Header) (cs : List CallRecord) (n : ℕ) → Ok n ≡ result_map_both length (λ (e : RunFault). e) (written_text h cs) → Measured h cs n
measured h cs n e =
    let p = from_length (written_text h cs) n e in
    let w = written_is h cs p.0 p.1 in
    record { fits = w.0; text = p.1 ∙ ap Ok w.1; size = p.2 ∙ ap length w.1 }

-- A measured text that has room is written, and the buffer holds it first.
pub fitted_in : (h : Header) (cs : List CallRecord) (n room : ℕ) → Measured h cs n → n ≤ room → Ok n ≡ write_recording h cs room
fitted_in h cs n room m fits =
    ap Ok m.size ∙ sym (ap (text_fitted room) m.text ∙ cond-false (ltb room (length (text_of h cs))) _ _ (le-ltb room (length (text_of h cs)) (omega (arith, m.size))))

pub filled_in : (h : Header) (cs : List CallRecord) (n : ℕ) (buffer : List ℕ) → Measured h cs n → n ≤ length buffer → text_first (text_of h cs) buffer ≡ buffer_after h cs buffer
filled_in h cs n buffer m fits =
    sym (ap (text_filled buffer) m.text ∙ cond-false (ltb (length buffer) (length (text_of h cs))) _ _ (le-ltb (length buffer) (length (text_of h cs)) (omega (arith, m.size))))
