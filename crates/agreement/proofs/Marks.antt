-- What one use does to a page's window: the window passes l exactly where a pager of bottom l drives the page out.
use Rattle.std.proofs.Common.{◌≡◌, ℕ, ◌+◌, ◌<◌, ◌≤◌, max, cond, not, ◌&&◌, ltb, List, drop, Some, None, Option, sym, refl, ap, ◌∙◌, inl, inr, arith}
use Rattle.std.proofs.lemmas.Bool.{lt-ltb, le-ltb}
use Rattle.lists.specs.Weights.{one, occ, has}
use Rattle.lists.specs.Places.{place}
use Rattle.lists.proofs.Weights.{ltb_cases}
use Rattle.lists.proofs.Places.{beyond}
use Rattle.model.specs.Windows.{raised, is_open, over, shallow}

-- A mark is at least the depth that its page has.
abbrev pub Covers : Option ℕ → ℕ → Type 0
Covers None d = Unit {0}
Covers (Some m) d = d ≤ m

pub covers_raised : (m : Option ℕ) (d : ℕ) → Covers (raised m d) d
covers_raised None d = tt
covers_raised (Some m) d = omega arith

-- An open window has a mark above l or one of at most l.
pub open_parts : (l : ℕ) (m : Option ℕ) → is_open m ≡ over l m + one (shallow l m)
open_parts l None = refl
open_parts l (Some m) = elim (ltb_cases l m) [ inl y ↦ rw y.1 refl | inr n ↦ rw n.1 refl ]

-- Page q in the bottom before and after a use, and the pages that the use drives out.
module _ (l q : ℕ) (bs bs' ev : List ℕ) (h : occ q bs ≤ 1) (h' : occ q bs' ≤ 1) (moves : occ q (drop l bs) ≡ 0 → occ q (drop l bs') ≡ occ q ev) where
  pushed : (m : ℕ) → place q bs ≤ m → m ≤ l → occ q ev ≡ one (ltb l (place q bs'))
  pushed m c le = sym (moves (beyond l q bs h ∙ ap one (le-ltb l (place q bs) (omega arith)))) ∙ beyond l q bs' h'

  pub over-raised : (m : Option ℕ) → Covers m (place q bs) → over l (raised m (place q bs')) ≡ over l m + cond (shallow l m) (occ q ev) 0
  over-raised None c = refl
  over-raised (Some m) c = elim (ltb_cases l m) [
    | inl y ↦ let z : l < max m (place q bs') = omega (arith, y.0) in rw (y.1, lt-ltb l (max m (place q bs')) z)
    | inr n ↦ rw n.1 (elim (ltb_cases l (place q bs')) [
      | inl y ↦ let z : l < max m (place q bs') = omega (arith, y.0) in rw (lt-ltb l (max m (place q bs')) z) (omega (arith, rw y.1 at (pushed m c n.0)))
      | inr k ↦ let z : max m (place q bs') ≤ l = omega (arith, n.0, k.0) in rw (le-ltb l (max m (place q bs')) z) (omega (arith, rw k.1 at (pushed m c n.0)))
    ])
  ]

  pub shallow_raised : (m : Option ℕ) → Covers m (place q bs) → shallow l (raised m (place q bs')) ≡ (shallow l m && not (has q ev))
  shallow_raised None c = refl
  shallow_raised (Some m) c = elim (ltb_cases l m) [
    | inl y ↦ let z : l < max m (place q bs') = omega (arith, y.0) in rw (y.1, lt-ltb l (max m (place q bs')) z)
    | inr n ↦ rw n.1 (elim (ltb_cases l (place q bs')) [
      | inl y ↦ let z : l < max m (place q bs') = omega (arith, y.0) in let g : 0 < occ q ev = omega (arith, rw y.1 at (pushed m c n.0)) in rw (lt-ltb l (max m (place q bs')) z, lt-ltb 0 (occ q ev) g)
      | inr k ↦ let z : max m (place q bs') ≤ l = omega (arith, n.0, k.0) in let g : occ q ev ≤ 0 = omega (arith, rw k.1 at (pushed m c n.0)) in rw (le-ltb l (max m (place q bs')) z, le-ltb 0 (occ q ev) g)
    ])
  ]
