-- What one use does to a sound order.
use Rattle.std.proofs.Common.{◌≡◌, ℕ, ◌+◌, ◌<◌, ◌≤◌, cond, eqb, ltb, List, length, get_or, unwrap_or, sym, refl, inl, inr, zero-le, arith}
use Rattle.std.proofs.lemmas.List.{length-append, length-set}
use Rattle.std.proofs.lemmas.Bool.{lt-ltb, le-ltb, eq-eqb}
use Rattle.lists.specs.Weights.{one, occ}
use Rattle.lists.specs.Places.{place}
use Rattle.lists.proofs.Weights.{eqb_cases, ltb_cases, weigh_push, weigh-set, weigh-get_or, occ-without}
use Rattle.lists.proofs.Places.{place_none}
use Rattle.model.specs.Order.{Rule, Order, fresh, entered, exchanged, used, depth_of}
use Rattle.model.specs.Sound.{Sound}

pub sound_fresh : (n k told : ℕ) → Sound n k (fresh told)
sound_fresh n k told = record { once = λ q. zero-le; fits = zero-le; full = λ _. refl }

-- A page stands at most once in the bottom, and not in both parts.
pub once_bottom : {n k : ℕ} {o : Order} → Sound n k o → (q : ℕ) → occ q o.bottom ≤ 1
once_bottom {n} {k} {o} s q = elim (ltb_cases q n) [
  | inl y ↦ omega (arith, rw y.1 at (s.once q))
  | inr m ↦ omega (arith, rw m.1 at (s.once q))
]

pub only_bottom : {n k : ℕ} {o : Order} → Sound n k o → (q : ℕ) → 0 < occ q o.top → occ q o.bottom ≡ 0
only_bottom {n} {k} {o} s q h = elim (ltb_cases q n) [
  | inl y ↦ omega (arith, rw y.1 at (s.once q))
  | inr m ↦ omega (arith, rw m.1 at (s.once q))
]

pub bottom_below : {n k : ℕ} {o : Order} → Sound n k o → (q : ℕ) → n ≤ q → occ q o.bottom ≡ 0
bottom_below {n} {k} {o} s q h = omega (arith, rw (le-ltb q n h) at (s.once q))

pub top_below : {n k : ℕ} {o : Order} → Sound n k o → (q : ℕ) → n ≤ q → occ q o.top ≡ 0
top_below {n} {k} {o} s q h = omega (arith, rw (le-ltb q n h) at (s.once q))

-- The page of a slot of the top stands in the top.
pub slot_in : (xs : List ℕ) (i : ℕ) → i < length xs → 0 < occ (get_or xs i 0) xs
slot_in xs i h = omega (arith, rw (eq-eqb (get_or xs i 0) (get_or xs i 0) refl) at (weigh-get_or (λ x. one (eqb x (get_or xs i 0))) xs i h))

module _ (n k p : ℕ) (o : Order) (s : Sound n k o) (low : p < n) where
  room : (q : ℕ) → occ p o.top ≤ 0 → occ q o.top + cond (eqb p q) 0 (occ q o.bottom) + one (eqb p q) ≤ one (ltb q n)
  room q h = elim (eqb_cases p q) [
    | inl e ↦ let z = rw e.0 at h in let w : q < n = omega (arith, e.0) in rw (e.1, lt-ltb q n w) (omega arith)
    | inr d ↦ rw d.1 (omega (arith, s.once q))
  ]

  -- a page that takes an empty slot
  pub sound_entered : occ p o.top ≤ 0 → length o.top < k → Sound n k (entered p o)
  sound_entered h y = record {
    once = λ q. rw (s.full y) (omega (arith, weigh_push (λ x. one (eqb x q)) o.top p, room q h));
    fits = simp length-append (omega (arith, y));
    full = λ z. s.full y;
  }

  -- a page that takes the slot of another
  pub sound_exchanged : (r : Rule) → r.slot o.told k < k → occ p o.top ≤ 0 → k ≤ length o.top → Sound n k (exchanged r k p o)
  sound_exchanged r slots h m = record {
    once = λ q. omega (arith, weigh-set (λ x. one (eqb x q)) o.top (r.slot o.told k) p (omega (arith, slots, m)), room q h, occ-without q p o.bottom (once_bottom s p));
    fits = simp length-set s.fits;
    full = λ z. absurd (omega (arith, simp length-set at z, m));
  }

  pub sound_used : (r : Rule) → r.slot o.told k < k → Sound n k (used r k p o)
  sound_used r slots = elim (ltb_cases 0 (occ p o.top)) [
    | inl h ↦ rw h.1 s
    | inr h ↦ rw h.1 (elim (ltb_cases (length o.top) k) [
      | inl y ↦ rw y.1 (sound_entered h.0 y.0)
      | inr m ↦ rw m.1 (sound_exchanged r slots h.0 m.0)
    ])
  ]

-- The used page is in the top after its use, and so not in the bottom.
pub used_in : (n k p : ℕ) (o : Order) (r : Rule) → r.slot o.told k < k → 0 < occ p (used r k p o).top
used_in n k p o r slots = elim (ltb_cases 0 (occ p o.top)) [
  | inl h ↦ rw h.1 h.0
  | inr h ↦ rw h.1 (elim (ltb_cases (length o.top) k) [
    | inl y ↦ rw y.1 (omega (arith, weigh_push (λ x. one (eqb x p)) o.top p, self p))
    | inr m ↦ rw m.1 (omega (arith, weigh-set (λ x. one (eqb x p)) o.top (r.slot o.told k) p (omega (arith, slots, m.0)), self p, other m.0 h.0))
  ])
] where
  self : (x : ℕ) → one (eqb x x) ≡ 1
  self x = rw (eq-eqb x x refl)

  other : k ≤ length o.top → occ p o.top ≤ 0 → one (eqb (get_or o.top (r.slot o.told k) 0) p) ≡ 0
  other m z = elim (eqb_cases (get_or o.top (r.slot o.told k) 0) p) [
    | inl e ↦ absurd (omega (arith, rw e.0 at (slot_in o.top (r.slot o.told k) (omega (arith, slots, m)))))
    | inr d ↦ rw d.1
  ]

pub used_out : (n k p : ℕ) (o : Order) (r : Rule) → Sound n k o → p < n → r.slot o.told k < k → occ p (used r k p o).bottom ≡ 0
used_out n k p o r s low slots = only_bottom (sound_used n k p o s low r slots) p (used_in n k p o r slots)

-- The depth that is found, and 0 for a new page, is the place in the bottom.
pub depth_place : (n k p : ℕ) (o : Order) → Sound n k o → unwrap_or (depth_of p o) 0 ≡ place p o.bottom
depth_place n k p o s = elim (ltb_cases 0 (occ p o.top)) [
  | inl h ↦ rw h.1 (sym (place_none 0 p o.bottom (only_bottom s p h.0)))
  | inr h ↦ rw h.1 (elim (ltb_cases 0 (occ p o.bottom)) [
    | inl y ↦ rw y.1 refl
    | inr m ↦ rw m.1 (sym (place_none 0 p o.bottom (omega (arith, m.0))))
  ])
]
