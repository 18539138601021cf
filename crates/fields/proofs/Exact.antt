-- A field reads as v just if it is v written at its right, after spaces.
use Rattle.std.proofs.Common.{◌≡◌, ℕ, ◌+◌, ◌-◌, ◌^◌, ◌<◌, true, List, ◌++◌, length, get_or, take, drop, replicate, Ok, Err, decimal, Result, sym, ap, ◌∙◌, subst, inl, inr, arith, rules}
use Rattle.std.specs.Int.{is_in_range, IsInRange}
use Rattle.std.specs.List.{suffix_len}
use Rattle.std.proofs.lemmas.Bool.Decides.{nat_tests}
use Rattle.std.proofs.lemmas.Bool.{cases_eq}
use Rattle.std.proofs.lemmas.List.Sums.{suffix_len-le-length, suffix_len_is}
use Rattle.std.proofs.lemmas.Str.Parse.{IsNumeralModel, numerals_by_fold, tells_by_index}
use Rattle.std.proofs.lemmas.Fmt.{decimal-digits_value, digits_value-decimal, digits_decimal, first_decimal, decimal_nonempty, decimal_digit}
use Rattle.std.proofs.lemmas.List.{get_or-drop, length-drop, length-take-le, length-append, length-replicate, get_or-replicate, get_or_append_left, get_or-append_right, take-append-drop, take_at, drop_at}
use Rattle.fields.specs.declared.FieldFault.{FieldFault}
use Rattle.fields.specs.Numbers.{digits_at_end, digits_from, digits_of, stray_end, read_on, scanned, read_number}
use Rattle.fields.specs.Justified.{justified, Exact}
use Rattle.fields.proofs.Runs.{ending_in, spaces_are}

abbrev pub AllDigits : List ℕ → Type 0
AllDigits ds = (i : ℕ) → i < length ds → IsInRange 48 57 (get_or ds i 0)

pub own : IsNumeralModel AllDigits (read_on 0)
own = numerals_by_fold AllDigits tells_by_index read_on (search rules)

digit_in : (c : ℕ) → is_in_range 48 57 c ≡ true → IsInRange 48 57 c
digit_in c t = (grind (arith, nat_tests), grind (arith, nat_tests))

in_digit : (c : ℕ) → IsInRange 48 57 c → is_in_range 48 57 c ≡ true
in_digit c h = grind (arith, nat_tests)

pub digits_are : (f : List ℕ) → AllDigits (digits_of f)
digits_are f i h =
    let l = length-drop (digits_from f) f in
    let n = suffix_len-le-length (is_in_range 48 57) f in
    let t = ending_in (is_in_range 48 57) f (digits_from f + i) (omega arith) (omega arith) in
    digit_in _ (ap (is_in_range 48 57) (get_or-drop (digits_from f) f i 0) ∙ t)

-- What reads as a number is that number, written.
pub read_is : (f : List ℕ) → 0 < digits_at_end f → stray_end f ≡ 0 → (1 < digits_at_end f → get_or f (digits_from f) 0 ≡ 48 → ⊥) → read_on 0 (digits_of f) < 2 ^ 32 → f ≡ justified (length f) (read_on 0 (digits_of f))
read_is f some spaces first small =
    let n = suffix_len-le-length (is_in_range 48 57) f in
    let m = suffix_len-le-length (is_in_range 32 32) (take (digits_from f) f) in
    let l = length-drop (digits_from f) f in
    let k = length-take-le (digits_from f) f (omega arith) in
    let a = get_or-drop (digits_from f) f 0 0 in
    let z : digits_from f + 0 ≡ digits_from f = omega arith in
    let d = decimal-digits_value own (digits_of f) (digits_are f) (omega arith) (λ e. let e' : get_or f (digits_from f) 0 ≡ 48 = ap (λ j. get_or f j 0) (sym z) ∙ sym a ∙ e in grind arith) (omega arith) in
    let s = spaces_are (take (digits_from f) f) (omega arith) in
    let w : length f - length (decimal (read_on 0 (digits_of f))) ≡ length (take (digits_from f) f) = omega (arith, ap length d) in
    sym (take-append-drop (digits_from f) f) ∙ ap (λ t. t ++ digits_of f) s ∙ ap (λ t. replicate (length (take (digits_from f) f)) 32 ++ t) (sym d) ∙ ap (λ j. replicate j 32 ++ decimal (read_on 0 (digits_of f))) (sym w)

-- The digits at the end of a written number are its digits.
pub written_digits : (n v : ℕ) → v < 2 ^ 32 → digits_at_end (replicate n 32 ++ decimal v) ≡ length (decimal v)
written_digits n v small =
    let l : length (replicate {A = ℕ} n 32 ++ decimal v) ≡ n + length (decimal v) = length-append (replicate {A = ℕ} n 32) (decimal v) ∙ ap (λ j. j + length (decimal v)) (length-replicate {A = ℕ} n 32) in
    suffix_len_is (is_in_range 48 57) (replicate n 32 ++ decimal v) n 0 (omega arith)
    (λ i far h. ap (is_in_range 48 57) (get_or-append_right (replicate n 32) (decimal v) n i 0 (length-replicate n 32) far) ∙ in_digit _ (digits_decimal own v (omega arith) (i - n) (omega arith)))
    (λ h. ap (is_in_range 48 57) (get_or_append_left (replicate n 32) (decimal v) 0 (n - 1) (omega (arith, length-replicate {A = ℕ} n 32)) ∙ get_or-replicate n (n - 1) 32 0 (omega arith)))
    ∙ omega (arith, l)

-- Spaces alone are a run of spaces.
spaces_run : (n : ℕ) → suffix_len (is_in_range 32 32) (replicate n 32) ≡ n
spaces_run n =
    let l = length-replicate {A = ℕ} n 32 in
    suffix_len_is (is_in_range 32 32) (replicate n 32) 0 0 (omega arith)
    (λ i far h. ap (is_in_range 32 32) (get_or-replicate n i 32 0 (omega arith)))
    (λ h. absurd (omega arith))
    ∙ omega (arith, l)

-- The digits of a number of several digits do not begin with 0.
no_leading_zero : (v : ℕ) → v < 2 ^ 32 → 1 < length (decimal v) → get_or (decimal v) 0 0 ≡ 48 → ⊥
no_leading_zero v small several zero-first = elim (cases_eq v 0) [
  | inl e ↦ let one = ap length (ap decimal e ∙ decimal_digit 0 (omega arith)) in omega arith
  | inr ne ↦ let h = first_decimal v (omega arith) (omega arith) in omega arith
]

-- What a field has to be to read as v, and that this is enough.
pub record Reads (f : List ℕ) (v : ℕ) : Type 0 where
  pub some : 0 < digits_at_end f
  pub spaces : stray_end f ≡ 0
  pub first : 1 < digits_at_end f → get_or f (digits_from f) 0 ≡ 48 → ⊥
  pub value : read_on 0 (digits_of f) ≡ v
  pub small : v < 2 ^ 32

reads_of : (line column : ℕ) (f : List ℕ) (v : ℕ) → Ok v ≡ scanned line column f → Reads f v
reads_of line column f v e = record { some = grind (arith, nat_tests); spaces = grind (arith, nat_tests); first = grind (arith, nat_tests); value = grind (arith, nat_tests); small = grind (arith, nat_tests) }

of_reads : (line column : ℕ) (f : List ℕ) (v : ℕ) → Reads f v → scanned line column f ≡ Ok v
of_reads line column f v h = grind (arith, nat_tests)

-- A written number reads as that number.
pub written_reads : (n v : ℕ) → v < 2 ^ 32 → Reads (replicate n 32 ++ decimal v) v
written_reads n v small =
    let f : List ℕ = replicate n 32 ++ decimal v in
    let l : length f ≡ n + length (decimal v) = length-append (replicate {A = ℕ} n 32) (decimal v) ∙ ap (λ j. j + length (decimal v)) (length-replicate {A = ℕ} n 32) in
    let d = written_digits n v small in
    let from : digits_from f ≡ n = omega arith in
    let s = decimal_nonempty v (omega arith) in
    let ds : digits_of f ≡ decimal v = ap (λ j. drop j f) from ∙ drop_at (replicate n 32) (decimal v) n (length-replicate n 32) in
    let ts : take (digits_from f) f ≡ replicate n 32 = ap (λ j. take j f) from ∙ take_at (replicate n 32) (decimal v) n (length-replicate n 32) in
    let run : suffix_len (is_in_range 32 32) (take (digits_from f) f) ≡ n = ap (suffix_len (is_in_range 32 32)) ts ∙ spaces_run n in
    let z : digits_from f + 0 ≡ digits_from f = omega arith in
    let g : get_or f (digits_from f) 0 ≡ get_or (decimal v) 0 0 = ap (λ j. get_or f j 0) (sym z) ∙ sym (get_or-drop (digits_from f) f 0 0) ∙ ap (λ t. get_or t 0 0) ds in
    record { some = omega arith; spaces = omega arith; first = λ h e. no_leading_zero v small (omega arith) (sym g ∙ e); value = ap (read_on 0) ds ∙ digits_value-decimal own v (omega arith); small = small }

pub justified_reads : (f : List ℕ) (v : ℕ) → v < 2 ^ 32 → f ≡ justified (length f) v → Reads f v
justified_reads f v small e = subst (λ t. Reads t v) (sym e) (written_reads (length f - length (decimal v)) v small)

-- A number written in its columns reads back.
pub read_back : (line column : ℕ) (f : List ℕ) (v : ℕ) → v < 2 ^ 32 → f ≡ justified (length f) v → read_number line column f ≡ Ok v
unfolding read_number
read_back line column f v small e = of_reads line column f v (justified_reads f v small e)

-- What reads as a number is that number, written in its columns.
pub write_back : (line column : ℕ) (f : List ℕ) (v : ℕ) → read_number line column f ≡ Ok v → (v < 2 ^ 32) × (f ≡ justified (length f) v)
unfolding read_number
write_back line column f v e =
    let h = reads_of line column f v (sym e) in
    (h.small, read_is f h.some h.spaces h.first (omega (arith, h.value, h.small)) ∙ ap (justified (length f)) h.value)

pub exact : (line column : ℕ) (f : List ℕ) (r : Result ℕ FieldFault) → r ≡ read_number line column f → Exact f r
exact line column f (Ok v) e = write_back line column f v (sym e)
exact line column f (Err x) e = λ v small is.
    let h = read_back line column f v small is in
    grind arith
