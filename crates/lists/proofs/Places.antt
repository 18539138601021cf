-- Laws of place: where a number stands in a list.
use Rattle.std.proofs.Common.{◌≡◌, ℕ, zero, suc, ◌+◌, ◌<◌, ◌≤◌, eqb, ltb, List, [], ◌∷◌, length, get_or, drop, refl, ap, ◌∙◌, inl, inr, zero-le, arith}
use Rattle.std.proofs.lemmas.Bool.{cases_lt, lt-ltb, le-ltb, eq-eqb, ne_eqb}
use Rattle.lists.specs.Weights.{one, occ}
use Rattle.lists.specs.Places.{place_from, place}
use Rattle.lists.proofs.Weights.{eqb_cases, weigh_parts}

pub place_some : (d q : ℕ) (bs : List ℕ) → 0 < occ q bs → d < place_from d q bs
place_some d q [] h = absurd (omega arith)
place_some d q (b ∷ bs) h = elim (eqb_cases b q) [
  | inl e ↦ rw e.1 (omega arith)
  | inr n ↦ rw n.1 (omega (arith, place_some (d + 1) q bs (omega (arith, rw n.1 at h))))
]

pub place_none : (d q : ℕ) (bs : List ℕ) → occ q bs ≡ 0 → place_from d q bs ≡ 0
place_none d q [] h = refl
place_none d q (b ∷ bs) h = elim (eqb_cases b q) [
  | inl e ↦ absurd (omega (arith, rw e.1 at h))
  | inr n ↦ rw n.1 (place_none (d + 1) q bs (omega (arith, rw n.1 at h)))
]

pub place_le : (d q : ℕ) (bs : List ℕ) → place_from d q bs ≤ d + length bs
place_le d q [] = zero-le
place_le d q (b ∷ bs) = elim (eqb_cases b q) [
  | inl e ↦ rw e.1 (omega arith)
  | inr n ↦ rw n.1 (omega (arith, place_le (d + 1) q bs))
]

deeper : (d l q : ℕ) (bs : List ℕ) → occ q bs ≤ 1 → occ q (drop l bs) ≡ one (ltb (d + l) (place_from d q bs))
deeper d zero q bs h = elim (cases_lt 0 (occ q bs)) [
  | inl y ↦ rw (lt-ltb (d + 0) (place_from d q bs) (omega (arith, place_some d q bs y))) (omega arith)
  | inr n ↦ rw (le-ltb (d + 0) (place_from d q bs) (omega (arith, place_none d q bs (omega arith)))) (omega arith)
]
deeper d (suc l) q [] h = rw (le-ltb (d + suc l) 0 zero-le)
deeper d (suc l) q (b ∷ bs) h = elim (eqb_cases b q) [
  | inl e ↦ let a = rw e.1 at h in rw (e.1, le-ltb (d + suc l) (d + 1) (omega arith)) (omega (arith, weigh_parts (λ x. one (eqb x q)) l bs))
  | inr n ↦ let a : d + suc l ≡ (d + 1) + l = omega arith in rw (n.1, a) (deeper (d + 1) l q bs (omega (arith, rw n.1 at h)))
]

-- A number stands behind the first l exactly if its place is above l.
pub beyond : (l q : ℕ) (bs : List ℕ) → occ q bs ≤ 1 → occ q (drop l bs) ≡ one (ltb l (place q bs))
beyond l q bs h = deeper 0 l q bs h ∙ ap (λ i. one (ltb i (place q bs))) (omega arith)

-- The first place at which p stands, found by looking at one place after another.
pub place_found : (p d : ℕ) (xs : List ℕ) (i : ℕ) → i < length xs → get_or xs i 0 ≡ p → ((k : ℕ) → k < i → get_or xs k 0 ≡ p → ⊥) → place_from d p xs ≡ d + i + 1
place_found p d [] i h e none = absurd (omega arith)
place_found p d (x ∷ xs) zero h e none = rw (eq-eqb x p e) (omega arith)
place_found p d (x ∷ xs) (suc i) h e none = rw (ne_eqb x p (none 0 (omega arith))) (place_found p (d + 1) xs i (omega arith) e (λ k l y. none (suc k) (omega arith) y) ∙ omega arith)

pub occ_found : (p : ℕ) (xs : List ℕ) (i : ℕ) → i < length xs → get_or xs i 0 ≡ p → 0 < occ p xs
occ_found p [] i h e = absurd (omega arith)
occ_found p (x ∷ xs) zero h e = rw (eq-eqb x p e) (omega arith)
occ_found p (x ∷ xs) (suc i) h e = omega (arith, occ_found p xs i (omega arith) e)

pub occ_nowhere : (p : ℕ) (xs : List ℕ) → ((k : ℕ) → k < length xs → get_or xs k 0 ≡ p → ⊥) → occ p xs ≡ 0
occ_nowhere p [] none = refl
occ_nowhere p (x ∷ xs) none = rw (ne_eqb x p (none 0 (omega arith))) (omega (arith, occ_nowhere p xs (λ k l y. none (suc k) (omega arith) y)))
