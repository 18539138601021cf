-- What a header and a call that are read are.
use Rattle.std.proofs.Common.{◌≡◌, ℕ, ◌⊎◌, List, IfOk, Ok, Err, Result, sym, refl, inl, inr, arith}
use Rattle.std.proofs.lemmas.Bool.Decides.{nat_tests}
use Rattle.model.specs.declared.UseKind.{UseKind}
use Rattle.model.specs.declared.UseKind.TheVariants.{Read, Write}
use Rattle.fields.specs.declared.FieldFault.{FieldFault}
use Rattle.lines.specs.declared.Header.{Header}
use Rattle.lines.specs.declared.CallRecord.{CallRecord}
use Rattle.lines.specs.declared.LineFault.{LineFault}
use Rattle.lines.specs.Kinds.{letter_of}
use Rattle.lines.specs.Parts.{Parts, header_parts, use_parts, settle_parts}
use Rattle.lines.specs.Cuts.{cut_line}
use Rattle.lines.specs.Headers.{with_field, number_in, with_parts, in_range, header_from, header_of}
use Rattle.lines.specs.Calls.{call_from, call_of}
use Rattle.lines.specs.Fit.{HeaderFit, CallFit}

-- Where an answer is Ok, the number that it was asked for was there.
pub number_there : {T G : Type 0} (q : Result ℕ FieldFault) (next : ℕ → Result T LineFault) (y : T) → with_field q next ≡ Ok y → ((v : ℕ) → q ≡ Ok v → next v ≡ Ok y → G) → G
number_there (Ok v) next y e take-it = take-it v refl e
number_there (Err x) next y e take-it = grind arith

-- The parts likewise.
pub parts_there : {T G : Type 0} (q : Result Parts LineFault) (next : Parts → Result T LineFault) (y : T) → with_parts q next ≡ Ok y → ((p : Parts) → q ≡ Ok p → next p ≡ Ok y → G) → G
parts_there (Ok p) next y e take-it = take-it p refl e
parts_there (Err x) next y e take-it = grind arith

ranged_fit : (g h : Header) → in_range g ≡ Ok h → HeaderFit h
ranged_fit g h e = record { pages = (grind (arith, nat_tests), grind (arith, nat_tests)); top = (grind (arith, nat_tests), grind (arith, nat_tests)); rule = grind (arith, nat_tests) }

from_fit : (p : Parts) (h : Header) → header_from p ≡ Ok h → HeaderFit h
from_fit (header_parts pages top rule seed) h e =
    number_there (number_in pages) _ h e (λ p _ e₁. number_there (number_in top) _ h e₁ (λ t _ e₂. number_there (number_in seed) _ h e₂ (λ s _ e₃. ranged_fit (record { pages = p; top = t; rule = rule; seed = s }) h e₃)))
from_fit (use_parts kind page) h e = grind arith
from_fit settle_parts h e = grind arith

pub header_fits : (bs : List ℕ) (h : Header) → header_of bs ≡ Ok h → HeaderFit h
unfolding header_of
header_fits bs h e = parts_there (cut_line 1 bs) header_from h e (λ p _ g. from_fit p h g)

-- The same of an answer.
pub headers_fit : (bs : List ℕ) (r : Result Header LineFault) → r ≡ header_of bs → IfOk r HeaderFit
headers_fit bs (Ok h) e = header_fits bs h (sym e)
headers_fit bs (Err x) e = tt

-- The letter of a use.
pub use_letter : (kind : UseKind) → (letter_of kind ≡ 82) ⊎ (letter_of kind ≡ 87)
use_letter Read = inl refl
use_letter Write = inr refl

call_from_fit : (n pages : ℕ) (p : Parts) (c : CallRecord) → call_from n pages p ≡ Ok c → CallFit pages c
call_from_fit n pages (header_parts a b rule s) c e = grind arith
call_from_fit n pages (use_parts kind page) c e = number_there (number_in page) _ c e (λ v _ g. let l = use_letter kind in grind (arith, nat_tests))
call_from_fit n pages settle_parts c e = inr (grind arith, grind arith)

pub call_fits : (n pages : ℕ) (bs : List ℕ) (c : CallRecord) → call_of n pages bs ≡ Ok c → CallFit pages c
unfolding call_of
call_fits n pages bs c e = parts_there (cut_line n bs) (call_from n pages) c e (λ p _ g. call_from_fit n pages p c g)

pub calls_fit : (n pages : ℕ) (bs : List ℕ) (r : Result CallRecord LineFault) → r ≡ call_of n pages bs → IfOk r (CallFit pages)
calls_fit n pages bs (Ok c) e = call_fits n pages bs c (sym e)
calls_fit n pages bs (Err x) e = tt
