-- Pages and the frames that hold them, in a table that shows an order.
use Rattle.std.proofs.Common.{◌≡◌, ℕ, ◌+◌, ◌<◌, ◌≤◌, Bool, true, false, eqb, ltb, List, ◌∷◌, ◌++◌, map, length, sym, ap, ◌∙◌, inl, inr, arith}
use Rattle.std.proofs.lemmas.List.{length-map, length-append}
use Rattle.std.proofs.lemmas.Bool.{cases_lt, lt-ltb, le-ltb, ne_eqb}
use Rattle.links.specs.declared.Part.TheVariants.{Unused, Top, Bottom}
use Rattle.lists.specs.Weights.{one, occ, has}
use Rattle.lists.proofs.Weights.{eqb_cases, ltb_cases, weigh-append}
use Rattle.lists.proofs.Totals.{pigeons, crowded}
use Rattle.lists.proofs.Renamed.{occ_renamed, occ-named, named_by}
use Rattle.model.specs.Order.{Order}
use Rattle.model.specs.Pager.{holds, frames}
use Rattle.model.proofs.Moves.{holds_cases}
use Rattle.order.specs.declared.parts.TwoParts.{TwoParts}
use Rattle.order.specs.Stands.{Arranged}
use Rattle.pager.specs.declared.frame.Frame.{Frame}
use Rattle.pager.specs.Frames.{at, page_in, seats_of, taken, In, Absent, Apart}
use Rattle.pager.specs.Framed.{Framed, Alone}
use Rattle.pager.proofs.Seating.{part_is, seated_low, seated_taken, taken_seated, tells_top}

-- The frames are arranged as an order of frames.
module _ {X : Type 0} (c : TwoParts X) (t : List Frame) (o : Order) (a : Arranged c (seats_of t) o) where
  both_once : (q : ℕ) → occ q (o.top ++ o.bottom) ≤ one (ltb q (length t))
  both_once q = omega (arith, weigh-append (λ x. one (eqb x q)) o.top o.bottom, a.sound.once q)

  one_most : (b : Bool) → one b ≤ 1
  one_most true = omega arith
  one_most false = omega arith

  both_low : (q : ℕ) → length t ≤ q → occ q (o.top ++ o.bottom) ≡ 0
  both_low q h = omega (arith, rw (le-ltb q (length t) h) at (both_once q))

  seats_long : length (o.top ++ o.bottom) ≡ length o.top + length o.bottom
  seats_long = length-append o.top o.bottom

  -- No more frames are seated than there are.
  pub seats_fit : length o.top + length o.bottom ≤ length t
  seats_fit = omega (arith, seats_long, pigeons (length t) (o.top ++ o.bottom) (λ q. omega (arith, both_once q, one_most (ltb q (length t)))) both_low)

  -- Where a frame is not seated, fewer are.
  pub seats_left : (i : ℕ) → i < length t → (at t i).links.part ≡ Unused → length o.top + length o.bottom + 1 ≤ length t
  seats_left i low idle = omega (arith, seats_long, pigeons (length t) (i ∷ (o.top ++ o.bottom)) each (λ q h. rw (ne_eqb i q (λ e. omega (arith, e))) (omega (arith, both_low q h)))) where
    away : occ i (o.top ++ o.bottom) ≡ 0
    away = elim (cases_lt 0 (occ i o.top + occ i o.bottom)) [
      | inl y ↦ let w = sym (ap taken idle) ∙ seated_taken c t o a i y in let z : ◌≡◌ {A = ℕ} 0 1 = cc w in absurd (omega arith)
      | inr m ↦ omega (arith, weigh-append (λ x. one (eqb x i)) o.top o.bottom)
    ]

    each : (q : ℕ) → occ q (i ∷ (o.top ++ o.bottom)) ≤ 1
    each q = elim (eqb_cases i q) [
      | inl e ↦ rw e.1 (let w = rw e.0 at away in omega (arith, w))
      | inr m ↦ rw m.1 (omega (arith, both_once q, one_most (ltb q (length t))))
    ]

  -- Where every frame holds a page, all are seated.
  pub seats_all : ((i : ℕ) → i < length t → taken (at t i).links.part ≡ true) → length o.top + length o.bottom ≡ length t
  seats_all h = sym seats_long ∙ crowded (length t) (o.top ++ o.bottom) each both_low where
    each : (q : ℕ) → q < length t → occ q (o.top ++ o.bottom) ≡ 1
    each q low = omega (arith, taken_seated c t o a q low (h q low), weigh-append (λ x. one (eqb x q)) o.top o.bottom, rw (lt-ltb q (length t) low) at (both_once q))

  -- The part of a frame tells where it is seated.
  pub in_top : (i : ℕ) → i < length t → (at t i).links.part ≡ Top → 0 < occ i o.top
  in_top i low e = elim (ltb_cases 0 (occ i o.top)) [
    | inl y ↦ y.0
    | inr n ↦ elim (ltb_cases 0 (occ i o.bottom)) [
      | inl y ↦ let z : ◌≡◌ {A = ℕ} 0 1 = cc (rw (n.1, y.1) at (sym (part_is c t o a i low) ∙ e)) in absurd (omega arith)
      | inr m ↦ let z : ◌≡◌ {A = ℕ} 0 1 = cc (rw (n.1, m.1) at (sym (part_is c t o a i low) ∙ e)) in absurd (omega arith)
    ]
  ]

  pub in_bottom : (i : ℕ) → i < length t → (at t i).links.part ≡ Bottom → (occ i o.top ≡ 0) × (0 < occ i o.bottom)
  in_bottom i low e = elim (ltb_cases 0 (occ i o.top)) [
    | inl y ↦ let z : ◌≡◌ {A = ℕ} 0 1 = cc (rw y.1 at (sym (part_is c t o a i low) ∙ e)) in absurd (omega arith)
    | inr n ↦ elim (ltb_cases 0 (occ i o.bottom)) [
      | inl y ↦ (omega (arith, n.0), y.0)
      | inr m ↦ let z : ◌≡◌ {A = ℕ} 0 1 = cc (rw (n.1, m.1) at (sym (part_is c t o a i low) ∙ e)) in absurd (omega arith)
    ]
  ]

-- The table shows an order of pages.
module _ {X : Type 0} (told : X → ℕ) (c : TwoParts X) (t : List Frame) (o : Order) (f : Framed told c t o) where
  arranged : Arranged c (seats_of t) f.seats
  arranged = f.stands.arranged

  top_named : o.top ≡ map (page_in t) f.seats.top
  top_named = ap (λ (x : Order). x.top) f.names

  bottom_named : o.bottom ≡ map (page_in t) f.seats.bottom
  bottom_named = ap (λ (x : Order). x.bottom) f.names

  pub top_long : length o.top ≡ length f.seats.top
  top_long = ap length top_named ∙ length-map f.seats.top (page_in t)

  pub bottom_long : length o.bottom ≡ length f.seats.bottom
  bottom_long = ap length bottom_named ∙ length-map f.seats.bottom (page_in t)

  -- A page that a frame holds is in the order.
  pub in_order : (q i : ℕ) → In t q i → 0 < frames q o
  in_order q i h = rw (top_named, bottom_named, ← h.here) (omega (arith, taken_seated c t f.seats arranged i h.within h.held, occ-named (page_in t) i f.seats.top, occ-named (page_in t) i f.seats.bottom))

  -- A page in the order is in a frame.
  pub order_in : (q : ℕ) → 0 < frames q o → (i : ℕ) × In t q i
  order_in q h = elim (cases_lt 0 (occ q (map (page_in t) f.seats.top))) [
    | inl y ↦ let w = named_by (page_in t) q f.seats.top y in here w.0 (omega (arith, w.1)) w.2
    | inr n ↦ let w = named_by (page_in t) q f.seats.bottom (omega (arith, rw (top_named, bottom_named) at h)) in here w.0 (omega (arith, w.1)) w.2
  ] where
    here : (j : ℕ) → 0 < occ j f.seats.top + occ j f.seats.bottom → page_in t j ≡ q → (i : ℕ) × In t q i
    here j s e = (j, record { within = seated_low c t f.seats arranged j s; held = seated_taken c t f.seats arranged j s; here = e })

  pub none_in : (q : ℕ) → Absent t q → frames q o ≡ 0
  none_in q none = elim (cases_lt 0 (frames q o)) [
    | inl y ↦ let w = order_in q y in absurd (none w.0 w.1)
    | inr n ↦ omega arith
  ]

  alone : Apart t → (q i : ℕ) → In t q i → Alone t i
  alone a q i h j k = a q j i (record { within = k.within; held = k.held; here = k.here ∙ h.here }) h

  -- The part of a page's frame tells where the page is.
  pub page_in_top : (q i : ℕ) → In t q i → (at t i).links.part ≡ Top → has q o.top ≡ true
  page_in_top q i h e = lt-ltb 0 (occ q o.top) (rw (top_named, ← h.here) (omega (arith, in_top c t f.seats arranged i h.within e, occ-named (page_in t) i f.seats.top)))

  pub page_in_bottom : Apart t → (q i : ℕ) → In t q i → (at t i).links.part ≡ Bottom → (has q o.top ≡ false) × (has q o.bottom ≡ true)
  page_in_bottom a q i h e =
      let w = in_bottom c t f.seats arranged i h.within e in (
        le-ltb 0 (occ q o.top) (rw (top_named, ← h.here) (omega (arith, w.0, occ_renamed (page_in t) i f.seats.top (tells_top c t f.seats arranged i (alone a q i h))))),
        lt-ltb 0 (occ q o.bottom) (rw (bottom_named, ← h.here) (omega (arith, w.1, occ-named (page_in t) i f.seats.bottom))),
      )

  -- With k slots and k + l frames the bottom never has more than l pages.
  pub bottom_fits : (l : ℕ) → length t ≡ c.slots + l → length o.bottom ≤ l
  bottom_fits l room = elim (cases_lt (length f.seats.top) c.slots) [
    | inl y ↦ omega (arith, bottom_long, ap length (arranged.sound.full y))
    | inr m ↦ omega (arith, bottom_long, seats_fit c t f.seats arranged)
  ]

  -- Whether a page has a frame is told by the order.
  pub in_holds : (q i : ℕ) → In t q i → holds q o ≡ true
  in_holds q i h = elim (holds_cases q o) [ inl y ↦ y.1 | inr n ↦ absurd (omega (arith, n.0, in_order q i h)) ]

  pub absent_holds : (q : ℕ) → Absent t q → holds q o ≡ false
  absent_holds q none = elim (holds_cases q o) [ inl y ↦ absurd (omega (arith, y.0, none_in q none)) | inr n ↦ n.1 ]
