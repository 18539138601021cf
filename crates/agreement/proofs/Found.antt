-- A use is a fault or a reclaim of the pager of bottom l by the depth at which the census found the page.
use Rattle.std.proofs.Common.{◌≡◌, ℕ, ◌+◌, ◌<◌, ◌≤◌, eqb, ltb, List, take, refl, inl, inr, zero-le, arith}
use Rattle.std.proofs.lemmas.Bool.{lt-ltb, le-ltb}
use Rattle.lists.specs.Weights.{one, occ}
use Rattle.lists.specs.Places.{place}
use Rattle.lists.proofs.Weights.{ltb_cases, weigh_parts}
use Rattle.lists.proofs.Places.{beyond, place_some}
use Rattle.model.specs.Order.{Order, depth_of}
use Rattle.model.specs.Windows.{noted, absent}
use Rattle.model.specs.Rows.{above, up_to}
use Rattle.model.specs.Pager.{cut, fault, reclaim}

-- A page was new exactly if it has no place anywhere.
pub absent_is : (p : ℕ) (o : Order) → absent (depth_of p o) ≡ fault p o
absent_is p o = elim (ltb_cases 0 (occ p o.top)) [
  | inl h ↦ rw h.1 refl
  | inr h ↦ rw h.1 (elim (ltb_cases 0 (occ p o.bottom)) [ inl y ↦ rw y.1 refl | inr n ↦ rw n.1 refl ])
]

module _ (l p : ℕ) (o : Order) (once : occ p o.bottom ≤ 1) where
  -- Of a page that stands in the bottom: the first l have it exactly if it is not deeper than l.
  near : 0 < occ p o.bottom → occ p (take l o.bottom) + one (ltb l (place p o.bottom)) ≡ 1
  near y = omega (arith, once, weigh_parts (λ x. one (eqb x p)) l o.bottom, beyond l p o.bottom once)

  -- New pages and depths above l are the faults.
  pub found_above : (xs : List ℕ) → absent (depth_of p o) + above l (noted (depth_of p o) xs) ≡ above l xs + fault p (cut l o)
  found_above xs = elim (ltb_cases 0 (occ p o.top)) [
    | inl h ↦ rw (h.1, le-ltb l 0 zero-le) (omega arith)
    | inr h ↦ rw h.1 (elim (ltb_cases 0 (occ p o.bottom)) [
      | inl y ↦ rw y.1 (elim (ltb_cases 0 (occ p (take l o.bottom))) [
        | inl z ↦ rw z.1 (omega (arith, z.0, near y.0))
        | inr z ↦ rw z.1 (omega (arith, z.0, near y.0))
      ])
      | inr n ↦ let z : occ p (take l o.bottom) ≤ 0 = omega (arith, n.0, weigh_parts (λ x. one (eqb x p)) l o.bottom) in rw (n.1, le-ltb 0 (occ p (take l o.bottom)) z) (omega arith)
    ])
  ]

  -- Depths from 1 to l are the reclaims.
  pub found_up_to : (xs : List ℕ) → up_to l (noted (depth_of p o) xs) ≡ up_to l xs + reclaim p (cut l o)
  found_up_to xs = elim (ltb_cases 0 (occ p o.top)) [
    | inl h ↦ rw h.1 (omega arith)
    | inr h ↦ rw h.1 (elim (ltb_cases 0 (occ p o.bottom)) [
      | inl y ↦ rw (y.1, lt-ltb 0 (place p o.bottom) (place_some 0 p o.bottom y.0)) (elim (ltb_cases l (place p o.bottom)) [
        | inl z ↦ let w : occ p (take l o.bottom) ≤ 0 = omega (arith, rw z.1 at (near y.0)) in rw (z.1, le-ltb 0 (occ p (take l o.bottom)) w) (omega arith)
        | inr z ↦ let w : 0 < occ p (take l o.bottom) = omega (arith, rw z.1 at (near y.0)) in rw (z.1, lt-ltb 0 (occ p (take l o.bottom)) w) (omega arith)
      ])
      | inr n ↦ let z : occ p (take l o.bottom) ≤ 0 = omega (arith, n.0, weigh_parts (λ x. one (eqb x p)) l o.bottom) in rw (n.1, le-ltb 0 (occ p (take l o.bottom)) z) (omega arith)
    ])
  ]
