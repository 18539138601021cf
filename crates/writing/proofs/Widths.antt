-- How long the lines are.
use Rattle.std.proofs.Common.{◌≡◌, ℕ, ◌+◌, ◌-◌, ◌^◌, ◌<◌, ◌≤◌, eqb, List, [], ◌∷◌, ◌++◌, length, replicate, decimal, ap, ◌∙◌, arith}
use Rattle.std.proofs.lemmas.Fmt.{length-decimal-le}
use Rattle.std.proofs.lemmas.List.{length-append, length-replicate}
use Rattle.std.proofs.lemmas.Bool.{cond-true, cond-false, eq-eqb, ne_eqb}
use Rattle.fields.specs.Justified.{justified}
use Rattle.lines.specs.declared.Header.{Header}
use Rattle.lines.specs.declared.CallRecord.{CallRecord}
use Rattle.lines.specs.Fit.{HeaderFit}
use Rattle.writing.specs.Text.{header_text, call_text, Narrow}

-- A number with at most w digits fills w columns.
pub justified_length : (w v : ℕ) → length (decimal v) ≤ w → length (justified w v) ≡ w
justified_length w v fits =
    let a = length-append (replicate {A = ℕ} (w - length (decimal v)) 32) (decimal v) in
    let b = length-replicate {A = ℕ} (w - length (decimal v)) 32 in
    omega arith

-- A header's numbers have room in their columns.
pub record Narrows (h : Header) : Type 0 where
  pub pages : length (decimal h.pages) ≤ 5
  pub top : length (decimal h.top) ≤ 3
  pub seed : length (decimal h.seed) ≤ 10

pub narrows : (h : Header) → HeaderFit h → h.seed < 2 ^ 32 → Narrows h
narrows h fit small =
    let p = fit.pages in let t = fit.top in
    record {
      pages = length-decimal-le 5 h.pages (omega arith) (omega arith) (omega arith);
      top = length-decimal-le 3 h.top (omega arith) (omega arith) (omega arith);
      seed = length-decimal-le 10 h.seed (omega arith) (omega arith) (omega arith);
    }

-- A line of three parts and a letter, with its first and its last byte.
abbrev pub line_of : List ℕ → List ℕ → ℕ → List ℕ → List ℕ
line_of p t r s = (72 ∷ (p ++ (t ++ (r ∷ s)))) ++ 10 ∷ []

line_length : (p t s : List ℕ) (r : ℕ) → length (line_of p t r s) ≡ length p + length t + length s + 3
line_length p t s r = simp length-append (omega arith)

-- Line 1 has 21 bytes.
pub header_length : (h : Header) → Narrows h → length (header_text h) ≡ 21
header_length h n =
    let p = justified_length 5 h.pages n.pages in
    let t = justified_length 3 h.top n.top in
    let s = justified_length 10 h.seed n.seed in
    line_length (justified 5 h.pages) (justified 3 h.top) (justified 10 h.seed) h.rule ∙ omega arith

-- The line of a use has 7 bytes, and that of a settle 2.
pub use_text : (c : CallRecord) → (c.letter ≡ 83 → ⊥) → call_text c ≡ c.letter ∷ (justified 5 c.page ++ 10 ∷ [])
use_text c other = ap (λ t. t ++ 10 ∷ []) (cond-false (eqb c.letter 83) (83 ∷ []) (c.letter ∷ justified 5 c.page) (ne_eqb c.letter 83 other))

pub settle_text : (c : CallRecord) → c.letter ≡ 83 → call_text c ≡ 83 ∷ 10 ∷ []
settle_text c e = ap (λ t. t ++ 10 ∷ []) (cond-true (eqb c.letter 83) (83 ∷ []) (c.letter ∷ justified 5 c.page) (eq-eqb c.letter 83 e))

pub use_length : (c : CallRecord) → Narrow c → (c.letter ≡ 83 → ⊥) → length (call_text c) ≡ 7
use_length c n other =
    let p = justified_length 5 c.page n in
    let a = length-append (justified 5 c.page) (10 ∷ []) in
    ap length (use_text c other) ∙ omega arith
