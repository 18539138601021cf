-- The pages in the order of their last uses, the newest first: a use takes its page out and puts it first.
-- Each of the first j + 1 of them is in the top or among the first j of the bottom.
use Rattle.std.proofs.Common.{◌≡◌, ℕ, zero, suc, ◌+◌, ◌<◌, ◌≤◌, eqb, ◌≢◌, List, [], ◌∷◌, length, get_or, take, set, refl, ap, inl, inr, zero-le, arith}
use Rattle.std.proofs.lemmas.Bool.{cases_lt, ne_eqb}
use Rattle.lists.specs.Weights.{weigh, one, occ}
use Rattle.lists.specs.Places.{without}
use Rattle.lists.proofs.Weights.{eqb_cases, ltb_cases, weigh_push, weigh-set, weigh-without}
use Rattle.model.specs.Order.{Rule, Order, used}
use Rattle.model.proofs.Uses.{used_in}

-- A front of a list weighs at most what a longer one does.
pub weigh_front : (f : ℕ → ℕ) (j : ℕ) (bs : List ℕ) → weigh f (take j bs) ≤ weigh f (take (suc j) bs)
weigh_front f zero bs = zero-le
weigh_front f (suc j) [] = omega arith
weigh_front f (suc j) (b ∷ bs) = omega (arith, weigh_front f j bs)

-- Where p is among the first j + 1, taking it out of them leaves the first j.
pub front_out : (j p : ℕ) (bs : List ℕ) → 0 < occ p (take (suc j) bs) → take j (without p bs) ≡ without p (take (suc j) bs)
front_out j p [] h = absurd (omega arith)
front_out zero p (b ∷ bs) h = elim (eqb_cases b p) [
  | inl e ↦ rw e.1 refl
  | inr m ↦ absurd (omega (arith, rw m.1 at h))
]
front_out (suc j) p (b ∷ bs) h = elim (eqb_cases b p) [
  | inl e ↦ rw e.1 refl
  | inr m ↦ rw m.1 (ap (λ xs. b ∷ xs) (front_out j p bs (omega (arith, rw m.1 at h))))
]

-- Where it is not among the first j, they stay.
pub front_stays : (j p : ℕ) (bs : List ℕ) → occ p (take j bs) ≡ 0 → take j (without p bs) ≡ take j bs
front_stays zero p bs h = refl
front_stays (suc j) p [] h = refl
front_stays (suc j) p (b ∷ bs) h = elim (eqb_cases b p) [
  | inl e ↦ absurd (omega (arith, rw e.1 at h))
  | inr m ↦ rw m.1 (ap (λ xs. b ∷ xs) (front_stays j p bs (omega (arith, rw m.1 at h))))
]

-- What is among the first j without p was among the first j + 1.
front_was : (j p q : ℕ) (bs : List ℕ) → occ q (take j (without p bs)) ≤ occ q (take (suc j) bs)
front_was zero p q bs = zero-le
front_was (suc j) p q [] = omega arith
front_was (suc j) p q (b ∷ bs) = elim (eqb_cases b p) [
  | inl e ↦ rw e.1 (omega arith)
  | inr m ↦ rw m.1 (omega (arith, front_was j p q bs))
]

-- Each of the first j + 1 of the recent is in the top or among the first j of the bottom.
abbrev pub Recent : Order → List ℕ → Type 0
Recent o recent = (j q : ℕ) → 0 < occ q (take (suc j) recent) → 0 < occ q o.top + occ q (take j o.bottom)

module _ (r : Rule) (k p : ℕ) (o : Order) (recent : List ℕ) (slots : r.slot o.told k < k) (c : Recent o recent) where
  -- Another page, where p takes a slot of the full top.
  swapped : (j q : ℕ) → p ≢ q → occ p o.top ≤ 0 → k ≤ length o.top → 0 < occ q (take j (without p recent)) → 0 < occ q (set o.top (r.slot o.told k) p) + occ q (take j (get_or o.top (r.slot o.told k) 0 ∷ without p o.bottom))
  swapped zero q ne out full h = absurd (omega arith)
  swapped (suc i) q ne out full h =
      let left = rw (ne_eqb p q ne) at (weigh-set (λ x. one (eqb x q)) o.top (r.slot o.told k) p (omega (arith, slots, full))) in
      elim (cases_lt 0 (occ p (take (suc i) o.bottom))) [
        | inl y ↦ omega (arith, left, ap (occ q) (front_out i p o.bottom y), rw (ne_eqb p q ne) at (weigh-without (λ x. one (eqb x q)) p (take (suc i) o.bottom) y), c (suc i) q (omega (arith, h, front_was (suc i) p q recent)))
        | inr z ↦ omega (arith, left, ap (occ q) (front_stays i p o.bottom (omega (arith, z, weigh_front (λ x. one (eqb x p)) i o.bottom))), c i q (omega (arith, h, ap (occ q) (front_stays (suc i) p recent (unused z)))))
      ] where
        unused : occ p (take (suc i) o.bottom) ≤ 0 → occ p (take (suc i) recent) ≡ 0
        unused z = elim (cases_lt 0 (occ p (take (suc i) recent))) [
          | inl y ↦ absurd (omega (arith, out, z, c i p y, weigh_front (λ x. one (eqb x p)) i o.bottom))
          | inr n ↦ omega arith
        ]

  pub recent_used : Recent (used r k p o) (p ∷ without p recent)
  recent_used j q h = elim (eqb_cases p q) [
    | inl e ↦ rw (← e.0) (omega (arith, used_in 0 k p o r slots))
    | inr m ↦ let was : 0 < occ q (take j (without p recent)) = omega (arith, rw m.1 at h) in elim (ltb_cases 0 (occ p o.top)) [
      | inl y ↦ rw y.1 (c j q (omega (arith, was, front_was j p q recent)))
      | inr y ↦ rw y.1 (elim (ltb_cases (length o.top) k) [
        | inl z ↦ rw z.1 (omega (arith, rw m.1 at (weigh_push (λ x. one (eqb x q)) o.top p), c j q (omega (arith, was, front_was j p q recent))))
        | inr z ↦ rw z.1 (swapped j q m.0 y.0 z.0 was)
      ])
    ]
  ]
