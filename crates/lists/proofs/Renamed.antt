-- A list whose numbers are renamed by a function that tells them apart.
use Rattle.std.proofs.Common.{◌≡◌, ℕ, ◌+◌, ◌<◌, ◌≤◌, cond, eqb, ◌≢◌, List, [], ◌∷◌, map, refl, ap, ◌∙◌, inl, inr, arith}
use Rattle.std.proofs.lemmas.Bool.{eq-eqb, ne_eqb}
use Rattle.lists.specs.Weights.{occ}
use Rattle.lists.specs.Places.{without, place_from}
use Rattle.lists.specs.Renamed.{Tells}
use Rattle.lists.proofs.Weights.{eqb_cases}

-- What stands first stands in the list, and so does what stands behind it.
pub occ_head : (x : ℕ) (xs : List ℕ) → 0 < occ x (x ∷ xs)
occ_head x xs = rw (eq-eqb x x refl) (omega arith)

pub occ_tail : (x j : ℕ) (xs : List ℕ) → 0 < occ j xs → 0 < occ j (x ∷ xs)
occ_tail x j xs h = omega arith

module _ (f : ℕ → ℕ) where
  tells_tail : (i x : ℕ) (xs : List ℕ) → Tells f i (x ∷ xs) → Tells f i xs
  tells_tail i x xs t j h e = t j (occ_tail x j xs h) e

  same_test : (i x : ℕ) (xs : List ℕ) → Tells f i (x ∷ xs) → eqb (f x) (f i) ≡ eqb x i
  same_test i x xs t = elim (eqb_cases x i) [
    | inl e ↦ rw e.1 (eq-eqb (f x) (f i) (ap f e.0))
    | inr n ↦ rw n.1 (ne_eqb (f x) (f i) (λ z. n.0 (t x (occ_head x xs) z)))
  ]

  -- A number stands as often as its name does.
  pub occ_renamed : (i : ℕ) (xs : List ℕ) → Tells f i xs → occ (f i) (map f xs) ≡ occ i xs
  occ_renamed i [] t = refl
  occ_renamed i (x ∷ xs) t = rw (same_test i x xs t) (omega (arith, occ_renamed i xs (tells_tail i x xs t)))

  -- Taking a number out takes its name out.
  pub without_renamed : (i : ℕ) (xs : List ℕ) → Tells f i xs → map f (without i xs) ≡ without (f i) (map f xs)
  without_renamed i [] t = refl
  without_renamed i (x ∷ xs) t = rw (same_test i x xs t) (elim (eqb_cases x i) [
    | inl e ↦ rw e.1 refl
    | inr n ↦ rw n.1 (ap (λ ys. f x ∷ ys) (without_renamed i xs (tells_tail i x xs t)))
  ])

  -- A number stands where its name does.
  pub place_renamed : (d i : ℕ) (xs : List ℕ) → Tells f i xs → place_from d (f i) (map f xs) ≡ place_from d i xs
  place_renamed d i [] t = refl
  place_renamed d i (x ∷ xs) t = rw (same_test i x xs t) (ap (λ n. cond (eqb x i) (d + 1) n) (place_renamed (d + 1) i xs (tells_tail i x xs t)))

  -- What is nobody's name does not stand there.
  pub occ_unnamed : (p : ℕ) (xs : List ℕ) → ((j : ℕ) → 0 < occ j xs → f j ≢ p) → occ p (map f xs) ≡ 0
  occ_unnamed p [] h = refl
  occ_unnamed p (x ∷ xs) h = rw (ne_eqb (f x) p (h x (occ_head x xs))) (omega (arith, occ_unnamed p xs (λ j l. h j (occ_tail x j xs l))))

  -- A name stands at least as often as its number.
  pub occ-named : (i : ℕ) (xs : List ℕ) → occ i xs ≤ occ (f i) (map f xs)
  occ-named i [] = omega arith
  occ-named i (x ∷ xs) = elim (eqb_cases x i) [
    | inl e ↦ rw (e.1, eq-eqb (f x) (f i) (ap f e.0)) (omega (arith, occ-named i xs))
    | inr n ↦ rw n.1 (omega (arith, occ-named i xs))
  ]

  -- A name that stands there is that of a number that does.
  pub named_by : (q : ℕ) (xs : List ℕ) → 0 < occ q (map f xs) → (j : ℕ) × (0 < occ j xs) × (f j ≡ q)
  named_by q [] h = absurd (omega arith)
  named_by q (x ∷ xs) h = elim (eqb_cases (f x) q) [
    | inl e ↦ (x, occ_head x xs, e.0)
    | inr n ↦ let w = named_by q xs (omega (arith, rw n.1 at h)) in (w.0, occ_tail x w.0 xs w.1, w.2)
  ]

-- Two functions that name the numbers of a list alike.
pub same_names : (f g : ℕ → ℕ) (xs : List ℕ) → ((j : ℕ) → 0 < occ j xs → f j ≡ g j) → map f xs ≡ map g xs
same_names f g [] h = refl
same_names f g (x ∷ xs) h = ap (λ y. y ∷ map f xs) (h x (occ_head x xs)) ∙ ap (λ ys. g x ∷ ys) (same_names f g xs (λ j l. h j (occ_tail x j xs l)))
