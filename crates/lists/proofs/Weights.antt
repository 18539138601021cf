-- Laws of weigh, occ and without over any list.
use Rattle.std.proofs.Common.{◌≡◌, ℕ, zero, suc, ◌+◌, ◌<◌, ◌≤◌, true, false, cond, eqb, ltb, ◌≢◌, ◌⊎◌, List, [], ◌∷◌, ◌++◌, length, get_or, take, drop, set, refl, ap, inl, inr, arith}
use Rattle.std.proofs.lemmas.Bool.{cases_eq, cases_lt, lt-ltb, le-ltb, eq-eqb, ne_eqb}
use Rattle.lists.specs.Weights.{weigh, one, occ}
use Rattle.lists.specs.Places.{without}

-- A test of equality, with what it tells.
pub eqb_cases : (a b : ℕ) → ((a ≡ b) × (eqb a b ≡ true)) ⊎ ((a ≢ b) × (eqb a b ≡ false))
eqb_cases a b = elim (cases_eq a b) [ inl e ↦ inl (e, eq-eqb a b e) | inr n ↦ inr (n, ne_eqb a b n) ]

-- A test of order, with what it tells.
pub ltb_cases : (a b : ℕ) → ((a < b) × (ltb a b ≡ true)) ⊎ ((b ≤ a) × (ltb a b ≡ false))
ltb_cases a b = elim (cases_lt a b) [ inl e ↦ inl (e, lt-ltb a b e) | inr n ↦ inr (n, le-ltb a b n) ]

module _ (f : ℕ → ℕ) where
  pub weigh-append : (xs ys : List ℕ) → weigh f (xs ++ ys) ≡ weigh f xs + weigh f ys
  weigh-append [] ys = omega arith
  weigh-append (x ∷ xs) ys = omega (arith, weigh-append xs ys)

  pub weigh_push : (xs : List ℕ) (y : ℕ) → weigh f (xs ++ y ∷ []) ≡ weigh f xs + f y
  weigh_push [] y = omega arith
  weigh_push (x ∷ xs) y = omega (arith, weigh_push xs y)

  pub weigh_parts : (i : ℕ) (xs : List ℕ) → weigh f xs ≡ weigh f (take i xs) + weigh f (drop i xs)
  weigh_parts zero xs = omega arith
  weigh_parts (suc i) [] = refl
  weigh_parts (suc i) (x ∷ xs) = omega (arith, weigh_parts i xs)

  pub weigh-set : (xs : List ℕ) (i y : ℕ) → i < length xs → weigh f (set xs i y) + f (get_or xs i 0) ≡ weigh f xs + f y
  weigh-set [] i y h = absurd (omega arith)
  weigh-set (x ∷ xs) zero y h = omega arith
  weigh-set (x ∷ xs) (suc i) y h = omega (arith, weigh-set xs i y (omega arith))

  pub weigh-get_or : (xs : List ℕ) (i : ℕ) → i < length xs → f (get_or xs i 0) ≤ weigh f xs
  weigh-get_or [] i h = absurd (omega arith)
  weigh-get_or (x ∷ xs) zero h = omega arith
  weigh-get_or (x ∷ xs) (suc i) h = omega (arith, weigh-get_or xs i (omega arith))

  pub weigh-without : (p : ℕ) (xs : List ℕ) → 0 < occ p xs → weigh f (without p xs) + f p ≡ weigh f xs
  weigh-without p [] h = absurd (omega arith)
  weigh-without p (x ∷ xs) h = elim (eqb_cases x p) [
    | inl e ↦ rw e.1 (omega (arith, ap f e.0))
    | inr n ↦ rw n.1 (omega (arith, weigh-without p xs (omega (arith, rw n.1 at h))))
  ]

pub weigh_le : (f g : ℕ → ℕ) → ((x : ℕ) → f x ≤ g x) → (xs : List ℕ) → weigh f xs ≤ weigh g xs
weigh_le f g h [] = omega arith
weigh_le f g h (x ∷ xs) = omega (arith, h x, weigh_le f g h xs)

-- The length of a list as a sum.
pub weigh_ones : (xs : List ℕ) → weigh (λ x. 1) xs ≡ length xs
weigh_ones [] = refl
weigh_ones (x ∷ xs) = omega (arith, weigh_ones xs)

-- What p has no place in stays as it is without it.
pub without_none : (p : ℕ) (xs : List ℕ) → occ p xs ≡ 0 → without p xs ≡ xs
without_none p [] h = refl
without_none p (x ∷ xs) h = elim (eqb_cases x p) [
  | inl e ↦ absurd (omega (arith, rw e.1 at h))
  | inr n ↦ rw n.1 (ap (λ ys. x ∷ ys) (without_none p xs (omega (arith, rw n.1 at h))))
]

gone : (p : ℕ) (xs : List ℕ) → occ p xs ≤ 1 → occ p (without p xs) ≡ 0
gone p xs h = elim (cases_lt 0 (occ p xs)) [
  | inl y ↦ omega (arith, rw (eq-eqb p p refl) at (weigh-without (λ x. one (eqb x p)) p xs y))
  | inr m ↦ let z : occ p xs ≡ 0 = omega arith in rw (without_none p xs z) z
]

-- A list in which p stands once, without it: p is gone and the others are as often in it as before.
pub occ-without : (q p : ℕ) (xs : List ℕ) → occ p xs ≤ 1 → occ q (without p xs) ≡ cond (eqb p q) 0 (occ q xs)
occ-without q p xs h = elim (eqb_cases p q) [
  | inl e ↦ rw (e.1, ← e.0) (gone p xs h)
  | inr m ↦ rw m.1 (elim (cases_lt 0 (occ p xs)) [
    | inl y ↦ omega (arith, rw m.1 at (weigh-without (λ x. one (eqb x q)) p xs y))
    | inr z ↦ ap (occ q) (without_none p xs (omega arith))
  ])
]

-- Where p stands: what is before it and what is after it.
pub record Split (p : ℕ) (bs : List ℕ) : Type 0 where
  pub before : List ℕ
  pub after : List ℕ
  pub is : bs ≡ before ++ (p ∷ after)
  pub rest : without p bs ≡ before ++ after

split_after : (b p : ℕ) (bs : List ℕ) → eqb b p ≡ false → Split p bs → Split p (b ∷ bs)
split_after b p bs e s =
    record { before = b ∷ s.before; after = s.after; is = ap (λ xs. b ∷ xs) s.is; rest = rw e (ap (λ xs. b ∷ xs) s.rest) }

pub split_at : (p : ℕ) (bs : List ℕ) → 0 < occ p bs → Split p bs
split_at p [] h = absurd (omega arith)
split_at p (b ∷ bs) h = elim (eqb_cases b p) [
  | inl e ↦ record { before = []; after = bs; is = ap (λ x. x ∷ bs) e.0; rest = rw e.1 refl }
  | inr n ↦ split_after b p bs n.1 (split_at p bs (omega (arith, rw n.1 at h)))
]
