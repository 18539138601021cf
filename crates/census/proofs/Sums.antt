-- Sums of a column's places.
use Rattle.std.proofs.Common.{◌≡◌, ℕ, zero, suc, ◌+◌, ◌-◌, ◌%◌, ◌<◌, ◌≤◌, cond, not, ◌&&◌, ltb, List, [], ◌∷◌, length, sum, take, drop, get_or, fold, slice_range, sym, refl, ap, ◌∙◌, inl, inr, add-zero, add-suc, add-one, arith}
use Rattle.std.proofs.lemmas.Bool.{lt-ltb, le-ltb}
use Rattle.std.proofs.lemmas.List.{length-drop, get_or-drop, length-take-le, get_or-take}
use Rattle.std.proofs.lemmas.List.Sums.{sum_by_more}
use Rattle.lists.specs.Weights.{occ, total}
use Rattle.lists.proofs.Weights.{ltb_cases}
use Rattle.lists.proofs.Totals.{total_zero, total_wrap, total-occ, total_beyond}
use Rattle.model.specs.Rows.{wrapped, above, up_to}
use Rattle.census.specs.Columns.{Column}

-- The places from `from` on, as a function of the place.
abbrev pub from_on : List ℕ → ℕ → ℕ → ℕ
from_on xs from d = cond (ltb d from) 0 (get_or xs d 0)

pub none_below : (xs : List ℕ) (from : ℕ) → total from (from_on xs from) ≡ 0
none_below xs from = total_zero (from_on xs from) from (λ q h. rw (lt-ltb q from h))

-- They sum up as the function does.
sum_places : (xs : List ℕ) (from k : ℕ) → from + k ≤ length xs → sum (take k (drop from xs)) ≡ total (from + k) (from_on xs from)
sum_places xs from zero h = rw add-zero (sym (none_below xs from))
sum_places xs from (suc k) h =
    let low : k < length (drop from xs) = omega (arith, length-drop from xs) in
    let at : from_on xs from (from + k) ≡ get_or xs (from + k) 0 = rw (le-ltb (from + k) from (omega arith)) in
    rw (add-suc, ← add-one k) (sum_by_more (λ x. x) (drop from xs) k 0 low ∙ omega (arith, sum_places xs from k (omega arith), get_or-drop from xs k 0, at))

sum_range : (xs : List ℕ) (from to k : ℕ) → from + k ≡ to → to ≤ length xs → sum (take k (drop from xs)) ≡ total to (from_on xs from)
sum_range xs from to k is fits = rw (← is) (sum_places xs from k (omega arith))

-- A sum that wraps at each step is the sum, wrapped once.
abbrev wrapping : ℕ → ℕ → ℕ
wrapping s x = (s + x) % 4294967296

folded : (a b : ℕ) (xs : List ℕ) → a % 4294967296 ≡ b % 4294967296 → fold wrapping a xs % 4294967296 ≡ fold (λ s x. s + x) b xs % 4294967296
folded a b [] h = h
folded a b (x ∷ xs) h = folded (wrapping a x) (b + x) xs (omega (arith, h))

folded_low : (a : ℕ) (xs : List ℕ) → a < 4294967296 → fold wrapping a xs < 4294967296
folded_low a [] h = h
folded_low a (x ∷ xs) h = folded_low (wrapping a x) xs (omega arith)

pub fold_wraps : (xs : List ℕ) → fold (λ s x. (s + x) % 4294967296) 0 xs ≡ wrapped (sum xs)
fold_wraps xs = omega (arith, folded 0 0 xs refl, folded_low 0 xs (omega arith))

-- A column by itself: its place d says how often d stands among the depths ds, modulo 2^32.
pub record Counts (n : ℕ) (xs ds : List ℕ) : Type 0 where
  pub long : length xs ≡ n + 1
  pub are : (d : ℕ) → d ≤ n → get_or xs d 0 ≡ wrapped (occ d ds)
  pub low : (d : ℕ) → n < d → occ d ds ≡ 0

pub column_alone : (n base : ℕ) (counts ds xs : List ℕ) → Column n counts base ds → base + (n + 1) ≤ length counts → xs ≡ slice_range counts base (base + (n + 1)) → Counts n xs ds
column_alone n base counts ds xs col fits is = record { long = long; are = are; low = col.low } where
  wide : base + (n + 1) - base ≡ n + 1
  wide = omega arith

  front : xs ≡ take (n + 1) (drop base counts)
  front = rw (← wide) is

  long : length xs ≡ n + 1
  long = rw front (length-take-le (n + 1) (drop base counts) (omega (arith, length-drop base counts)))

  are : (d : ℕ) → d ≤ n → get_or xs d 0 ≡ wrapped (occ d ds)
  are d h = rw front (get_or-take (n + 1) (drop base counts) d 0 (omega arith) ∙ (get_or-drop base counts d 0 ∙ col.are d h))

-- The places above l sum up to the depths above l.
pub sum_above : (n l : ℕ) (xs ds : List ℕ) → Counts n xs ds → l ≤ n → wrapped (sum (take (length xs - (l + 1)) (drop (l + 1) xs))) ≡ wrapped (above l ds)
sum_above n l xs ds col h =
    ap wrapped (sum_range xs (l + 1) (n + 1) (length xs - (l + 1)) (omega (arith, col.long)) (omega (arith, col.long)))
    ∙ (total_wrap (λ d. cond (ltb l d) (occ d ds) 0) (from_on xs (l + 1)) (n + 1) each ∙ ap wrapped (total-occ (ltb l) (n + 1) ds (λ q le. col.low q (omega arith)))) where
      each : (d : ℕ) → d < n + 1 → from_on xs (l + 1) d ≡ wrapped (cond (ltb l d) (occ d ds) 0)
      each d lt = elim (ltb_cases l d) [
        | inl y ↦ rw (y.1, le-ltb d (l + 1) (omega (arith, y.0))) (col.are d (omega arith))
        | inr m ↦ rw (m.1, lt-ltb d (l + 1) (omega (arith, m.0)))
      ]

-- How often a depth from 1 to l stands among ds.
abbrev chosen : ℕ → List ℕ → ℕ → ℕ
chosen l ds d = cond (ltb 0 d && not (ltb l d)) (occ d ds) 0

-- The places from 1 to l sum up to the depths from 1 to l.
pub sum_up_to : (n l : ℕ) (xs ds : List ℕ) → Counts n xs ds → l ≤ n → wrapped (sum (slice_range xs 1 (l + 1))) ≡ wrapped (up_to l ds)
sum_up_to n l xs ds col h =
    ap wrapped (sum_range xs 1 (l + 1) (l + 1 - 1) (omega arith) (omega (arith, col.long)))
    ∙ (total_wrap (chosen l ds) (from_on xs 1) (l + 1) each ∙ ap wrapped (sym (total_beyond (chosen l ds) (l + 1) (n + 1) (omega arith) beyond) ∙ total-occ (λ d. ltb 0 d && not (ltb l d)) (n + 1) ds (λ q le. col.low q (omega arith)))) where
      each : (d : ℕ) → d < l + 1 → from_on xs 1 d ≡ wrapped (chosen l ds d)
      each d lt = elim (ltb_cases 0 d) [
        | inl y ↦ rw (y.1, le-ltb l d (omega arith), le-ltb d 1 (omega (arith, y.0))) (col.are d (omega arith))
        | inr m ↦ rw (m.1, lt-ltb d 1 (omega (arith, m.0)))
      ]

      beyond : (q : ℕ) → l + 1 ≤ q → q < n + 1 → chosen l ds q ≡ 0
      beyond q le lt = rw (lt-ltb 0 q (omega arith), lt-ltb l q (omega arith))
