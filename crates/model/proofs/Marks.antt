-- A mark that is stored when its page is used, and joined with the page's depth when it is asked for,
-- is the mark that every call raises: no use leaves another page less deep.
use Rattle.std.proofs.Common.{◌≡◌, ℕ, ◌+◌, ◌<◌, ◌≤◌, ◌≢◌, List, [], ◌∷◌, length, get_or, Some, None, Option, sym, refl, ap, ◌∙◌, inl, inr, zero-le, arith}
use Rattle.lists.specs.Weights.{occ}
use Rattle.lists.specs.Places.{without, place_from, place}
use Rattle.lists.proofs.Weights.{eqb_cases, ltb_cases}
use Rattle.lists.proofs.Places.{place_none}
use Rattle.model.specs.Order.{Rule, Order, used}
use Rattle.model.specs.Sound.{Sound}
use Rattle.model.specs.Windows.{raised}
use Rattle.model.proofs.Uses.{only_bottom, slot_in}

pub raised_twice : (m : Option ℕ) (d e : ℕ) → d ≤ e → raised (raised m d) e ≡ raised m e
raised_twice None d e h = refl
raised_twice (Some m) d e h = ap Some (omega arith)

pub raised_none : (m : Option ℕ) → raised m 0 ≡ m
raised_none None = refl
raised_none (Some m) = ap Some (omega arith)

-- One page ahead is taken out and a new one comes first: no other page moves up.
stays : (d p q : ℕ) (bs : List ℕ) → p ≢ q → place_from d q bs ≤ place_from (d + 1) q (without p bs)
stays d p q [] ne = zero-le
stays d p q (b ∷ bs) ne = elim (eqb_cases b p) [
  | inl e ↦ elim (eqb_cases b q) [
    | inl f ↦ absurd (ne (sym e.0 ∙ f.0))
    | inr g ↦ rw (e.1, g.1) (omega arith)
  ]
  | inr m ↦ elim (eqb_cases b q) [
    | inl f ↦ rw (m.1, f.1) (omega arith)
    | inr g ↦ rw (m.1, g.1) (stays (d + 1) p q bs ne)
  ]
]

pub place_grows : (n k p q : ℕ) (r : Rule) (o : Order) → Sound n k o → r.slot o.told k < k → p ≢ q → place q o.bottom ≤ place q (used r k p o).bottom
place_grows n k p q r o s slots ne = elim (ltb_cases 0 (occ p o.top)) [
  | inl h ↦ rw h.1 (omega arith)
  | inr h ↦ rw h.1 (elim (ltb_cases (length o.top) k) [
    | inl y ↦ rw y.1 (omega arith)
    | inr m ↦ rw m.1 (elim (eqb_cases (get_or o.top (r.slot o.told k) 0) q) [
      | inl e ↦ rw e.1 (omega (arith, place_none 0 q o.bottom (only_bottom s q (held m.0 e.0))))
      | inr g ↦ rw g.1 (stays 0 p q o.bottom ne)
    ])
  ])
] where
  held : k ≤ length o.top → get_or o.top (r.slot o.told k) 0 ≡ q → 0 < occ q o.top
  held m e = rw e at (slot_in o.top (r.slot o.told k) (omega arith))
