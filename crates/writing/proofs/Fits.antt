-- What passes the checks is in range, and what is in range passes them.
use Rattle.std.proofs.Common.{◌≡◌, ℕ, ◌+◌, ◌≤◌, List, [], ◌∷◌, Ok, Err, Result, refl, ap, ◌∙◌, inl, inr, arith}
use Rattle.std.specs.List.{AllByRecursion}
use Rattle.std.proofs.lemmas.Fmt.{length-decimal-le}
use Rattle.std.proofs.ByRecursion.{All-weaker}
use Rattle.std.proofs.lemmas.Bool.{cases_eq}
use Rattle.std.proofs.lemmas.Bool.Decides.{nat_tests}
use Rattle.lines.specs.declared.Header.{Header}
use Rattle.lines.specs.declared.CallRecord.{CallRecord}
use Rattle.lines.specs.declared.LineFault.{LineFault}
use Rattle.lines.specs.Headers.{in_range}
use Rattle.lines.specs.Fit.{HeaderFit, CallFit}
use Rattle.writing.specs.Text.{Narrow}
use Rattle.writing.specs.Refusals.{call_in_range, and_then, calls_in_range}

pub header_fit : (h g : Header) → in_range h ≡ Ok g → HeaderFit h
header_fit h g e = record { pages = (grind (arith, nat_tests), grind (arith, nat_tests)); top = (grind (arith, nat_tests), grind (arith, nat_tests)); rule = grind (arith, nat_tests) }

pub fit_header : (h : Header) → HeaderFit h → in_range h ≡ Ok h
fit_header h fit = let p = fit.pages in let t = fit.top in let r = fit.rule in grind (arith, nat_tests)

call_fit : (n pages : ℕ) (c : CallRecord) (u : Unit {0}) → call_in_range n pages c ≡ Ok u → CallFit pages c
call_fit n pages c u e = elim (cases_eq c.letter 83) [
  | inl s ↦ inr (s, grind (arith, nat_tests))
  | inr other ↦ inl (grind (arith, nat_tests), grind (arith, nat_tests))
]

fit_call : (n pages : ℕ) (c : CallRecord) → CallFit pages c → call_in_range n pages c ≡ Ok tt
fit_call n pages c (inl f) = let l = f.0 in let p = f.1 in grind (arith, nat_tests)
fit_call n pages c (inr f) = let l = f.0 in let p = f.1 in grind (arith, nat_tests)

-- Where two checks pass, each does.
both_there : {G : Type 0} (q next : Result (Unit {0}) LineFault) (u : Unit {0}) → and_then q next ≡ Ok u → ((v : Unit {0}) → q ≡ Ok v → next ≡ Ok u → G) → G
both_there (Ok v) next u e take-it = take-it v refl e
both_there (Err x) next u e take-it = grind arith

pub calls_fit : (n pages : ℕ) (cs : List CallRecord) (u : Unit {0}) → calls_in_range n pages cs ≡ Ok u → AllByRecursion (CallFit pages) cs
calls_fit n pages [] u e = tt
calls_fit n pages (c ∷ cs) u e = both_there (call_in_range n pages c) (calls_in_range (n + 1) pages cs) u e (λ v f g. (call_fit n pages c v f, calls_fit (n + 1) pages cs u g))

pub fit_calls : (n pages : ℕ) (cs : List CallRecord) → AllByRecursion (CallFit pages) cs → calls_in_range n pages cs ≡ Ok tt
fit_calls n pages [] fit = refl
fit_calls n pages (c ∷ cs) fit = ap (λ q. and_then q (calls_in_range (n + 1) pages cs)) (fit_call n pages c fit.0) ∙ fit_calls (n + 1) pages cs fit.1

-- A page below 512 has at most 5 digits.
pub call_narrow : (pages : ℕ) (c : CallRecord) → pages ≤ 512 → CallFit pages c → Narrow c
call_narrow pages c few (inl f) = let p = f.1 in length-decimal-le 5 c.page (omega arith) (omega arith) (omega arith)
call_narrow pages c few (inr f) = let p = f.1 in length-decimal-le 5 c.page (omega arith) (omega arith) (omega arith)

pub calls_narrow : (pages : ℕ) (cs : List CallRecord) → pages ≤ 512 → AllByRecursion (CallFit pages) cs → AllByRecursion Narrow cs
calls_narrow pages cs few fit = All-weaker (CallFit pages) Narrow (λ c f. call_narrow pages c few f) cs fit
