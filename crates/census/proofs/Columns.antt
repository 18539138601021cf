-- A column of the count table after one more was counted.
use Rattle.std.proofs.Common.{◌≡◌, ℕ, ◌+◌, ◌%◌, ◌<◌, ◌≤◌, Bool, true, false, not, eqb, ◌≢◌, List, ◌∷◌, length, get_or, Some, None, Option, is_some, refl, ◌∙◌, inl, inr, arith}
use mir.Val.{bool_byte}
use Rattle.std.proofs.lemmas.List.{get_or-set_same, get_or-set_other, length-set}
use Rattle.lists.specs.Weights.{occ, one}
use Rattle.lists.proofs.Weights.{eqb_cases}
use Rattle.model.specs.Windows.{noted, absent}
use Rattle.census.specs.Columns.{counted, noted_in, Column}
use Rattle.census.specs.Means.{Low}

pub column_counted : (n base d : ℕ) (counts ds : List ℕ) → Column n counts base ds → base + n < length counts → d ≤ n → Column n (counted counts (base + d)) base (d ∷ ds)
column_counted n base d counts ds col long le = record { are = are; low = low } where
  are : (e : ℕ) → e ≤ n → get_or (counted counts (base + d)) (base + e) 0 ≡ (one (eqb d e) + occ e ds) % 4294967296
  are e h = elim (eqb_cases d e) [
    | inl y ↦ rw (y.1, ← y.0) (get_or-set_same counts (base + d) _ 0 (omega arith) ∙ omega (arith, col.are d le))
    | inr m ↦ rw m.1 (get_or-set_other counts (base + d) (base + e) _ 0 (λ z. m.0 (omega arith)) ∙ omega (arith, col.are e h))
  ]

  low : (e : ℕ) → n < e → one (eqb d e) + occ e ds ≡ 0
  low e h = elim (eqb_cases d e) [
    | inl y ↦ absurd (omega (arith, y.0))
    | inr m ↦ rw m.1 (omega (arith, col.low e h))
  ]

pub column_other : (n base at : ℕ) (counts ds : List ℕ) → Column n counts base ds → ((d : ℕ) → d ≤ n → base + d ≢ at) → Column n (counted counts at) base ds
column_other n base at counts ds col apart = record {
  are = λ d h. get_or-set_other counts at (base + d) _ 0 (apart d h) ∙ col.are d h;
  low = col.low;
}

-- What was found goes into its own column, and leaves the others.
pub column_noted : (n base : ℕ) (found : Option ℕ) (counts ds : List ℕ) → Column n counts base ds → base + n < length counts → Low n found → Column n (noted_in base found counts) base (noted found ds)
column_noted n base None counts ds col long low = col
column_noted n base (Some d) counts ds col long low = column_counted n base d counts ds col long low

pub column_kept : (n base own : ℕ) (found : Option ℕ) (counts ds : List ℕ) → Column n counts base ds → Low n found → ((d e : ℕ) → d ≤ n → e ≤ n → base + d ≢ own + e) → Column n (noted_in own found counts) base ds
column_kept n base own None counts ds col low apart = col
column_kept n base own (Some d) counts ds col low apart = column_other n base (own + d) counts ds col (λ e h. apart e d h low)

pub length-noted : (base : ℕ) (found : Option ℕ) (counts : List ℕ) → length (noted_in base found counts) ≡ length counts
length-noted base None counts = refl
length-noted base (Some d) counts = length-set counts (base + d) _

-- Whether there is no depth, as a number.
pub absent_told : (found : Option ℕ) (none : Bool) → is_some found ≡ not none → bool_byte none ≡ absent found
absent_told None true e = refl
absent_told None false e = cc
absent_told (Some d) true e = cc
absent_told (Some d) false e = refl
