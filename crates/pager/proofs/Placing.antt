-- Where a page is, told by its frame.
use Rattle.std.proofs.Common.{◌≡◌, ℕ, ◌-◌, List, map, Some, None, Option, refl, ap, ◌∙◌, inl, inr, arith}
use Rattle.std.proofs.lemmas.Bool.{lt-ltb, le-ltb}
use Rattle.lists.specs.Weights.{occ}
use Rattle.lists.specs.Places.{place}
use Rattle.lists.proofs.Weights.{ltb_cases}
use Rattle.lists.proofs.Renamed.{occ_renamed, place_renamed}
use Rattle.model.specs.Order.{Order, depth_of, slot_of}
use Rattle.order.specs.declared.parts.TwoParts.{TwoParts}
use Rattle.order.specs.Stands.{Arranged}
use Rattle.pager.specs.declared.frame.Frame.{Frame}
use Rattle.pager.specs.declared.places.Place.TheVariants.{InTop, InBottom}
use Rattle.pager.specs.Frames.{page_in, seats_of, In, Absent, Apart}
use Rattle.pager.specs.Framed.{Framed, Alone}
use Rattle.pager.specs.Where.{where_in}
use Rattle.pager.proofs.Seating.{taken_seated, tells_top, tells_bottom}
use Rattle.pager.proofs.Holders.{none_in}

module _ {X : Type 0} (told : X → ℕ) (c : TwoParts X) (t : List Frame) (o : Order) (f : Framed told c t o) (p : ℕ) where
  pub where_absent : Absent t p → None ≡ where_in p o
  where_absent none = let z = none_in told c t o f p none in rw (le-ltb 0 (occ p o.top) (omega arith), le-ltb 0 (occ p o.bottom) (omega arith)) refl

  module _ (apart : Apart t) (i : ℕ) (here : In t p i) where
    a : Arranged c (seats_of t) f.seats
    a = f.stands.arranged

    alone : Alone t i
    alone j h = apart p j i (record { within = h.within; held = h.held; here = h.here ∙ here.here }) here

    top_named : o.top ≡ map (page_in t) f.seats.top
    top_named = ap (λ (x : Order). x.top) f.names

    bottom_named : o.bottom ≡ map (page_in t) f.seats.bottom
    bottom_named = ap (λ (x : Order). x.bottom) f.names

    top_occ : occ p o.top ≡ occ i f.seats.top
    top_occ = rw (top_named, ← here.here) (occ_renamed (page_in t) i f.seats.top (tells_top c t f.seats a i alone))

    bottom_occ : occ p o.bottom ≡ occ i f.seats.bottom
    bottom_occ = rw (bottom_named, ← here.here) (occ_renamed (page_in t) i f.seats.bottom (tells_bottom c t f.seats a i alone))

    top_place : place p o.top ≡ place i f.seats.top
    top_place = rw (top_named, ← here.here) (place_renamed (page_in t) 0 i f.seats.top (tells_top c t f.seats a i alone))

    bottom_place : place p o.bottom ≡ place i f.seats.bottom
    bottom_place = rw (bottom_named, ← here.here) (place_renamed (page_in t) 0 i f.seats.bottom (tells_bottom c t f.seats a i alone))

    pub where_top : (slot : ℕ) → Some slot ≡ slot_of i f.seats → Some (InTop slot) ≡ where_in p o
    where_top slot e = elim (ltb_cases 0 (occ i f.seats.top)) [
      | inl y ↦ let is : slot ≡ place i f.seats.top - 1 = cc (rw y.1 at e) in rw (lt-ltb 0 (occ p o.top) (omega (arith, y.0, top_occ)), top_place) (ap (λ x. Some (InTop x)) is)
      | inr n ↦ let z : ◌≡◌ {A = ℕ} 0 1 = cc (rw n.1 at e) in absurd (omega arith)
    ]

    pub where_bottom : None ≡ slot_of i f.seats → (d : Option ℕ) → d ≡ depth_of i f.seats → (depth : ℕ) → d ≡ Some depth → Some (InBottom depth) ≡ where_in p o
    where_bottom none d e depth some = elim (ltb_cases 0 (occ i f.seats.top)) [
      | inl y ↦ let z : ◌≡◌ {A = ℕ} 0 1 = cc (rw y.1 at none) in absurd (omega arith)
      | inr n ↦ elim (ltb_cases 0 (occ i f.seats.bottom)) [
        | inl y ↦ let is : depth ≡ place i f.seats.bottom = cc (rw (n.1, y.1) at e, some) in rw (le-ltb 0 (occ p o.top) (omega (arith, n.0, top_occ)), lt-ltb 0 (occ p o.bottom) (omega (arith, y.0, bottom_occ)), bottom_place) (ap (λ x. Some (InBottom x)) is)
        | inr m ↦ absurd (omega (arith, n.0, m.0, taken_seated c t f.seats a i here.within here.held))
      ]
    ]

    pub never_nowhere : None ≡ slot_of i f.seats → (d : Option ℕ) → d ≡ depth_of i f.seats → d ≡ None → None ≡ where_in p o
    never_nowhere none d e is = elim (ltb_cases 0 (occ i f.seats.top)) [
      | inl y ↦ let z : ◌≡◌ {A = ℕ} 0 1 = cc (rw y.1 at none) in absurd (omega arith)
      | inr n ↦ elim (ltb_cases 0 (occ i f.seats.bottom)) [
        | inl y ↦ let z : ◌≡◌ {A = ℕ} 0 1 = cc (rw (n.1, y.1) at e, is) in absurd (omega arith)
        | inr m ↦ absurd (omega (arith, n.0, m.0, taken_seated c t f.seats a i here.within here.held))
      ]
    ]
