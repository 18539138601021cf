-- Lines that are written read back.
use Rattle.std.proofs.Common.{◌≡◌, ℕ, ◌+◌, ◌-◌, ◌^◌, ◌<◌, ◌≤◌, cond, eqb, ltb, ◌⊎◌, List, [], ◌∷◌, ◌++◌, length, get_or, take, drop, replicate, Ok, Err, decimal, sym, refl, ap, ◌∙◌, inl, inr, append_assoc, arith}
use Rattle.std.specs.List.{between, AllByRecursion}
use Rattle.std.proofs.lemmas.Fmt.{digits_decimal}
use Rattle.std.proofs.ByRecursion.{All-append, All-from_get_or}
use Rattle.std.proofs.lemmas.List.{length-append, length-replicate, get_or-replicate, get_or_at, take_at, take_all, drop_at, drop-drop}
use Rattle.std.proofs.lemmas.Bool.{cond-true, cond-false, eq-eqb, ne_eqb, lt-ltb}
use Rattle.std.proofs.lemmas.Bool.Decides.{nat_tests}
use Rattle.fields.specs.Numbers.{read_number}
use Rattle.fields.specs.Justified.{justified}
use Rattle.fields.proofs.Exact.{own, read_back}
use Rattle.model.specs.declared.UseKind.{UseKind}
use Rattle.model.specs.declared.UseKind.TheVariants.{Read, Write}
use Rattle.lines.specs.declared.Header.{Header}
use Rattle.lines.specs.declared.CallRecord.{CallRecord}
use Rattle.lines.specs.declared.LineFault.TheVariants.{Shape}
use Rattle.lines.specs.declared.LineProblem.TheVariants.{NoSuchPage}
use Rattle.lines.specs.Kinds.{letter_of}
use Rattle.lines.specs.Parts.{header_parts, use_parts, settle_parts}
use Rattle.lines.specs.Cuts.{columns, cut_line}
use Rattle.lines.specs.Headers.{with_field, with_parts, in_range, header_from, header_of}
use Rattle.lines.specs.Calls.{call_from, call_of}
use Rattle.lines.specs.Fit.{HeaderFit, CallFit}
use Rattle.recordings.specs.Recorded.{Lines, Recorded}
use Rattle.writing.specs.Text.{header_line, call_line, calls_text, text_of}
use Rattle.writing.proofs.Widths.{justified_length, narrows}
use Rattle.writing.proofs.Fits.{fit_header, call_narrow}
use Rattle.writing.proofs.Written.{Written}

abbrev NotTen : ℕ → Type 0
NotTen b = b ≡ 10 → ⊥

-- No written number has a byte 10.
pub justified_clean : (w v : ℕ) → v < 2 ^ 32 → AllByRecursion NotTen (justified w v)
justified_clean w v small =
    All-append NotTen (replicate (w - length (decimal v)) 32) (decimal v)
    (All-from_get_or NotTen (replicate (w - length (decimal v)) 32) 0 (λ i h e. let l = length-replicate {A = ℕ} (w - length (decimal v)) 32 in let g : get_or (replicate {A = ℕ} (w - length (decimal v)) 32) i 0 ≡ 32 = get_or-replicate (w - length (decimal v)) i 32 0 (omega arith) in omega arith))
    (All-from_get_or NotTen (decimal v) 0 (λ i h e. let d = digits_decimal own v (omega arith) i h in omega arith))

-- A number in its columns reads back.
pub field_reads : (line column w v : ℕ) → v < 2 ^ 32 → length (decimal v) ≤ w → read_number line column (justified w v) ≡ Ok v
field_reads line column w v small fits = read_back line column (justified w v) v small (ap (λ n. justified n v) (sym (justified_length w v fits)))

-- A line in four parts, after its first byte.
abbrev in_four : List ℕ → List ℕ → ℕ → List ℕ → List ℕ
in_four p t r s = 72 ∷ (p ++ (t ++ (r ∷ s)))

four_length : (p t s : List ℕ) (r : ℕ) → length (in_four p t r s) ≡ length p + length t + length s + 2
four_length p t s r = simp length-append (omega arith)

second_part : (p t s : List ℕ) (r : ℕ) → length p ≡ 5 → length t ≡ 3 → between 6 9 (in_four p t r s) ≡ t
second_part p t s r lp lt = ap (take 3) (drop_at p (t ++ (r ∷ s)) 5 lp) ∙ take_at t (r ∷ s) 3 lt

letter_part : (p t s : List ℕ) (r : ℕ) → length p ≡ 5 → length t ≡ 3 → get_or (in_four p t r s) 9 0 ≡ r
letter_part p t s r lp lt = ap (λ z. get_or z 8 0) (sym (append_assoc p t (r ∷ s))) ∙ get_or_at (p ++ t) r s 0 8 (omega (arith, length-append p t))

last_part : (p t s : List ℕ) (r : ℕ) → length p ≡ 5 → length t ≡ 3 → length s ≡ 10 → between 10 20 (in_four p t r s) ≡ s
last_part p t s r lp lt ls =
    let a : drop 9 (p ++ (t ++ (r ∷ s))) ≡ s = ap (drop 9) (sym (append_assoc p t (r ∷ s))) ∙ sym (drop-drop 1 8 ((p ++ t) ++ (r ∷ s))) ∙ ap (drop 1) (drop_at (p ++ t) (r ∷ s) 8 (omega (arith, length-append p t))) in
    ap (take 10) a ∙ take_all 10 s (omega arith)

header_cuts : (p t s : List ℕ) (r : ℕ) → length p ≡ 5 → length t ≡ 3 → length s ≡ 10 → cut_line 1 (in_four p t r s) ≡ Ok (header_parts (record { bytes = p; line = 1; column = 2 }) (record { bytes = t; line = 1; column = 7 }) r (record { bytes = s; line = 1; column = 11 }))
header_cuts p t s r lp lt ls =
    let l = four_length p t s r in
    cond-true (eqb (length (in_four p t r s)) 20) _ _ (eq-eqb (length (in_four p t r s)) 20 (omega arith))
    ∙ ap (λ z. Ok (header_parts (record { bytes = z; line = 1; column = 2 }) (columns 1 7 6 9 (in_four p t r s)) (get_or (in_four p t r s) 9 0) (columns 1 11 10 20 (in_four p t r s)))) (take_at p (t ++ (r ∷ s)) 5 lp)
    ∙ ap (λ z. Ok (header_parts (record { bytes = p; line = 1; column = 2 }) (record { bytes = z; line = 1; column = 7 }) (get_or (in_four p t r s) 9 0) (columns 1 11 10 20 (in_four p t r s)))) (second_part p t s r lp lt)
    ∙ ap (λ z. Ok (header_parts (record { bytes = p; line = 1; column = 2 }) (record { bytes = t; line = 1; column = 7 }) z (columns 1 11 10 20 (in_four p t r s)))) (letter_part p t s r lp lt)
    ∙ ap (λ z. Ok (header_parts (record { bytes = p; line = 1; column = 2 }) (record { bytes = t; line = 1; column = 7 }) r (record { bytes = z; line = 1; column = 11 }))) (last_part p t s r lp lt ls)

-- Line 1 tells the header that it was written from.
pub header_reads : (h : Header) → HeaderFit h → h.seed < 2 ^ 32 → header_of (header_line h) ≡ Ok h
unfolding header_of
header_reads h fit small =
    let n = narrows h fit small in let a = fit.pages in let b = fit.top in
    ap (λ q. with_parts q header_from) (header_cuts (justified 5 h.pages) (justified 3 h.top) (justified 10 h.seed) h.rule (justified_length 5 h.pages n.pages) (justified_length 3 h.top n.top) (justified_length 10 h.seed n.seed))
    ∙ ap (λ q. with_field q (λ p. with_field (read_number 1 7 (justified 3 h.top)) (λ t. with_field (read_number 1 11 (justified 10 h.seed)) (λ s. in_range (record { pages = p; top = t; rule = h.rule; seed = s }))))) (field_reads 1 2 5 h.pages (omega arith) n.pages)
    ∙ ap (λ q. with_field q (λ t. with_field (read_number 1 11 (justified 10 h.seed)) (λ s. in_range (record { pages = h.pages; top = t; rule = h.rule; seed = s })))) (field_reads 1 7 3 h.top (omega arith) n.top)
    ∙ ap (λ q. with_field q (λ s. in_range (record { pages = h.pages; top = h.top; rule = h.rule; seed = s }))) (field_reads 1 11 10 h.seed small n.seed)
    ∙ fit_header h fit

rule_clean : (r : ℕ) → (r ≡ 79) ⊎ (r ≡ 76) → NotTen r
rule_clean r (inl e) = λ f. omega arith
rule_clean r (inr e) = λ f. omega arith

pub header_clean : (h : Header) → HeaderFit h → h.seed < 2 ^ 32 → AllByRecursion NotTen (header_line h)
header_clean h fit small =
    let a = fit.pages in let b = fit.top in (
      λ e. omega arith,
      All-append NotTen (justified 5 h.pages) (justified 3 h.top ++ (h.rule ∷ justified 10 h.seed)) (justified_clean 5 h.pages (omega arith))
          (All-append NotTen (justified 3 h.top) (h.rule ∷ justified 10 h.seed) (justified_clean 3 h.top (omega arith))
          (rule_clean h.rule fit.rule, justified_clean 10 h.seed small)),
    )

-- The line of a use and that of a settle.
pub use_line : (c : CallRecord) → (c.letter ≡ 82) ⊎ (c.letter ≡ 87) → call_line c ≡ c.letter ∷ justified 5 c.page
use_line c (inl e) = cond-false (eqb c.letter 83) _ _ (ne_eqb c.letter 83 (λ f. omega arith))
use_line c (inr e) = cond-false (eqb c.letter 83) _ _ (ne_eqb c.letter 83 (λ f. omega arith))

pub settle_line : (c : CallRecord) → c.letter ≡ 83 → call_line c ≡ 83 ∷ []
settle_line c e = cond-true (eqb c.letter 83) _ _ (eq-eqb c.letter 83 e)

use_cuts : (n : ℕ) (kind : UseKind) (p : List ℕ) → 2 ≤ n → length p ≡ 5 → cut_line n (letter_of kind ∷ p) ≡ Ok (use_parts kind (record { bytes = p; line = n; column = 2 }))
use_cuts n kind p later five =
    let l : ℕ = letter_of kind in
    let whole : between 1 6 (l ∷ p) ≡ p = take_all 5 p (omega arith) in
    let e : cut_line n (l ∷ p) ≡ Ok (use_parts kind (columns n 2 1 6 (l ∷ p))) = elim kind [ Read ↦ grind (arith, nat_tests) | Write ↦ grind (arith, nat_tests) ] in
    e ∙ ap (λ z. Ok (use_parts kind (record { bytes = z; line = n; column = 2 }))) whole

-- Each of the two letters is that of a kind.
kind_there : (l : ℕ) → (l ≡ 82) ⊎ (l ≡ 87) → (kind : UseKind) × (l ≡ letter_of kind)
kind_there l (inl e) = (Read, e)
kind_there l (inr e) = (Write, e)

settle_cuts : (n : ℕ) → 2 ≤ n → cut_line n (83 ∷ []) ≡ Ok settle_parts
settle_cuts n later = grind (arith, nat_tests)

-- The line of a call tells that call.
pub call_reads : (n pages : ℕ) (c : CallRecord) → 2 ≤ n → pages ≤ 512 → CallFit pages c → call_of n pages (call_line c) ≡ Ok c
unfolding call_of
call_reads n pages c later few (inl f) =
    let below = f.1 in
    let narrow = call_narrow pages c few (inl f) in
    let k = kind_there c.letter f.0 in
    ap (λ z. with_parts (cut_line n z) (call_from n pages)) (use_line c f.0 ∙ ap (λ l. l ∷ justified 5 c.page) k.1)
    ∙ ap (λ q. with_parts q (call_from n pages)) (use_cuts n k.0 (justified 5 c.page) later (justified_length 5 c.page narrow))
    ∙ ap (λ l. with_field (read_number n 2 (justified 5 c.page)) (λ p. cond (ltb p pages) (Ok (record { letter = l; page = p })) (Err (Shape NoSuchPage n 6)))) (sym k.1)
    ∙ ap (λ q. with_field q (λ p. cond (ltb p pages) (Ok (record { letter = c.letter; page = p })) (Err (Shape NoSuchPage n 6)))) (field_reads n 2 5 c.page (omega arith) narrow)
    ∙ cond-true (ltb c.page pages) _ _ (lt-ltb c.page pages below)
call_reads n pages c later few (inr f) =
    ap (λ z. with_parts (cut_line n z) (call_from n pages)) (settle_line c f.0)
    ∙ ap (λ q. with_parts q (call_from n pages)) (settle_cuts n later)
    ∙ ap (λ l. Ok (record { letter = l; page = 0 })) (sym f.0) ∙ ap (λ p. Ok (record { letter = c.letter; page = p })) (sym f.1)

letter_clean : (l : ℕ) → (l ≡ 82) ⊎ (l ≡ 87) → NotTen l
letter_clean l (inl e) = λ f. omega arith
letter_clean l (inr e) = λ f. omega arith

pub call_clean : (pages : ℕ) (c : CallRecord) → pages ≤ 512 → CallFit pages c → AllByRecursion NotTen (call_line c)
call_clean pages c few (inl f) = let below = f.1 in rw (use_line c f.0) (letter_clean c.letter f.0, justified_clean 5 c.page (omega arith))
call_clean pages c few (inr f) = rw (settle_line c f.0) (λ e. omega arith, tt)

-- Lines that are written tell the calls one by one.
pub calls_read : (n pages : ℕ) (cs : List CallRecord) → 2 ≤ n → pages ≤ 512 → AllByRecursion (CallFit pages) cs → Lines pages n (calls_text cs) cs
calls_read n pages [] later few fit = refl
calls_read n pages (c ∷ cs) later few fit =
    (call_line c, calls_text cs, record { joined = append_assoc (call_line c) (10 ∷ []) (calls_text cs); inside = call_clean pages c few fit.0 }, call_reads n pages c later few fit.0, calls_read (n + 1) pages cs (omega arith) few fit.1)

-- So a written text is a recording with its header and its calls.
pub text_recorded : (h : Header) (cs : List CallRecord) → h.seed < 2 ^ 32 → Written h cs → Recorded (text_of h cs) h cs
text_recorded h cs small w =
    let pages = w.header.pages in
    record {
      line = header_line h;
      rest = calls_text cs;
      short = w.short;
      first = record { joined = append_assoc (header_line h) (10 ∷ []) (calls_text cs); inside = header_clean h w.header small };
      header = header_reads h w.header small;
      calls = calls_read 2 h.pages cs (omega arith) (omega arith) w.calls;
    }
