-- Which bytes the run that ends a list has, and where it ends.
use Rattle.std.proofs.Common.{◌≡◌, ℕ, ◌+◌, ◌-◌, ◌<◌, ◌≤◌, Bool, true, false, List, reverse, length, get_or, replicate, sym, ap, ◌∙◌, arith}
use Rattle.std.specs.Int.{is_in_range}
use Rattle.std.specs.List.{suffix_len}
use Rattle.std.proofs.lemmas.Bool.Decides.{nat_tests}
use Rattle.std.proofs.lemmas.List.Sums.{prefix_len_passes, prefix_len_stops}
use Rattle.std.proofs.lemmas.List.{get_or-reverse, length-reverse, ext_get_or, length-replicate, get_or-replicate}

-- Every byte of the run that ends a list passes the test.
pub ending_in : (p : ℕ → Bool) (xs : List ℕ) (i : ℕ) → i < length xs → length xs ≤ i + suffix_len p xs → p (get_or xs i 0) ≡ true
ending_in p xs i h far =
    let k : ℕ = length xs - 1 - i in
    let back : length xs - 1 - k ≡ i = omega arith in
    ap (λ j. p (get_or xs j 0)) (sym back) ∙ ap p (sym (get_or-reverse xs k 0 (omega arith))) ∙ prefix_len_passes p (reverse xs) k 0 (omega arith)

-- The byte before that run does not.
pub ending_out : (p : ℕ → Bool) (xs : List ℕ) → suffix_len p xs < length xs → p (get_or xs (length xs - 1 - suffix_len p xs) 0) ≡ false
ending_out p xs h =
    ap p (sym (get_or-reverse xs (suffix_len p xs) 0 h)) ∙ prefix_len_stops p (reverse xs) 0 (omega (arith, length-reverse xs))

-- A list of spaces alone.
pub spaces_are : (xs : List ℕ) → suffix_len (is_in_range 32 32) xs ≡ length xs → xs ≡ replicate (length xs) 32
spaces_are xs h = ext_get_or 0 xs (replicate (length xs) 32) (sym (length-replicate (length xs) 32)) (λ i l. let t = ending_in (is_in_range 32 32) xs i l (omega arith) in let e : get_or xs i 0 ≡ 32 = grind (arith, nat_tests) in e ∙ sym (get_or-replicate (length xs) i 32 0 l))
