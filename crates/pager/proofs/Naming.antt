-- What a frame table shows after one frame was written in its seat.
use Rattle.std.proofs.Common.{◌≡◌, ℕ, ◌+◌, ◌<◌, true, ◌≢◌, ◌⊎◌, List, map, length, get_or, set, Option, sym, refl, ap, ◌∙◌, subst, inl, inr, arith}
use Rattle.std.proofs.Math.Seq.{map-set_same}
use Rattle.std.proofs.lemmas.List.{length-set, get_or_read, get_or-set_same, get_or-set_other}
use Rattle.std.proofs.lemmas.Simd.{map-map}
use Rattle.std.proofs.lemmas.Bool.{cases_eq, eq-eqb, ne_eqb}
use Rattle.links.specs.declared.Part.{Part}
use Rattle.links.specs.declared.Part.TheVariants.{Unused}
use Rattle.lists.specs.Weights.{occ}
use Rattle.lists.proofs.Renamed.{same_names}
use Rattle.model.specs.Order.{Order}
use Rattle.model.specs.Named.{named}
use Rattle.model.proofs.Named.{same_order, named_alike}
use Rattle.order.specs.declared.parts.TwoParts.{TwoParts}
use Rattle.order.specs.Views.{Views}
use Rattle.order.specs.Stands.{Arranged, Stands}
use Rattle.pager.specs.declared.frame.Frame.{Frame}
use Rattle.pager.specs.Frames.{blank, at, page_in, seats_of, taken, In, Absent, Apart}
use Rattle.pager.specs.Seats.{Seated}
use Rattle.pager.specs.Framed.{Framed, replacing}
use Rattle.pager.proofs.Seating.{seated_low, seated_taken}

same_views : (n n' : ℕ) (a a' b b' : List (Option ℕ)) (p p' : List Part) → n ≡ n' → a ≡ a' → b ≡ b' → p ≡ p' → ◌≡◌ {A = Views} (record { size = n; nexts = a; prevs = b; parts = p }) (record { size = n'; nexts = a'; prevs = b'; parts = p' })
same_views n n' a a' b b' p p' e f g h = cc

-- Frame i is f now, in the same seat.
module _ (t t' : List Frame) (i : ℕ) (f : Frame) (is : t' ≡ set t i f) (low : i < length t) (next : f.links.next ≡ (at t i).links.next) (prev : f.links.prev ≡ (at t i).links.prev) (part : f.links.part ≡ (at t i).links.part) where
  pub views_kept : seats_of t' ≡ seats_of t
  views_kept = ap seats_of is ∙ same_views _ _ _ _ _ _ _ _ (length-set t i f)
      (map-set_same (λ (x : Frame). x.links.next) t i f blank next) (map-set_same (λ (x : Frame). x.links.prev) t i f blank prev) (map-set_same (λ (x : Frame). x.links.part) t i f blank part)

  pub at_here : at t' i ≡ f
  at_here = ap (λ xs. get_or xs i blank) is ∙ get_or-set_same t i f blank low

  pub at_other : (j : ℕ) → j ≢ i → at t' j ≡ at t j
  at_other j ne = ap (λ xs. get_or xs j blank) is ∙ get_or-set_other t i j f blank ne

  pub as_long : length t' ≡ length t
  as_long = ap length is ∙ length-set t i f

  pub in_other : (p j : ℕ) → j ≢ i → In t' p j → In t p j
  in_other p j ne h = record { within = rw (← as_long) h.within; held = ap (λ (x : Frame). taken x.links.part) (sym (at_other j ne)) ∙ h.held; here = ap (λ (x : Frame). x.page) (sym (at_other j ne)) ∙ h.here }

  in_here : (p : ℕ) → In t' p i → (taken (at t i).links.part ≡ true) × (f.page ≡ p)
  in_here p h = (ap taken (sym part) ∙ (ap (λ (x : Frame). taken x.links.part) (sym at_here) ∙ h.held), ap (λ (x : Frame). x.page) (sym at_here) ∙ h.here)

  -- the frame keeps its page, or takes one that no frame holds
  pub apart_kept : Apart t → (f.page ≡ page_in t i) ⊎ Absent t f.page → Apart t'
  apart_kept a w p j k hj hk = elim (cases_eq j i) [
    | inl ej ↦ elim (cases_eq k i) [
      | inl ek ↦ ej ∙ sym ek
      | inr nk ↦ ej ∙ sym (by_page k nk hk (subst (In t' p) ej hj))
    ]
    | inr nj ↦ elim (cases_eq k i) [
      | inl ek ↦ by_page j nj hj (subst (In t' p) ek hk) ∙ sym ek
      | inr nk ↦ a p j k (in_other p j nj hj) (in_other p k nk hk)
    ]
  ] where
    by_page : (x : ℕ) → x ≢ i → In t' p x → In t' p i → x ≡ i
    by_page x nx hx hi = elim w [
      | inl e ↦ a p x i (in_other p x nx hx) (record { within = low; held = (in_here p hi).0; here = sym e ∙ (in_here p hi).1 })
      | inr none ↦ absurd (none x (subst (λ y. In t y x) (sym (in_here p hi).1) (in_other p x nx hx)))
    ]

  pub seated_kept : {X : Type 0} (c : TwoParts X) → (f.page ≡ page_in t i) ⊎ Absent t f.page → Seated c t → Seated c t'
  seated_kept c w s = (s.0, subst (λ v. Arranged c v s.0) (sym views_kept) s.1, apart_kept s.2 w)

  module _ {X : Type 0} (told : X → ℕ) (c : TwoParts X) (o : Order) (s : Framed told c t o) where
    stands_kept : Stands told c (seats_of t') s.seats
    stands_kept = subst (λ v. Stands told c v s.seats) (sym views_kept) s.stands

    page_other : (j : ℕ) → j ≢ i → page_in t' j ≡ page_in t j
    page_other j ne = ap (λ (x : Frame). x.page) (at_other j ne)

    -- the page is the same
    pub framed_kept : f.page ≡ page_in t i → Framed told c t' o
    framed_kept e = record { seats = s.seats; stands = stands_kept; names = s.names ∙ named_alike (page_in t) (page_in t') s.seats (λ j h. alike j) (λ j h. alike j) } where
      alike : (j : ℕ) → page_in t j ≡ page_in t' j
      alike j = elim (cases_eq j i) [
        | inl y ↦ ap (page_in t) y ∙ (sym e ∙ (ap (λ (x : Frame). x.page) (sym at_here) ∙ ap (page_in t') (sym y)))
        | inr n ↦ sym (page_other j n)
      ]

    -- the frame holds no page
    pub framed_idle : (at t i).links.part ≡ Unused → Framed told c t' o
    framed_idle idle = record { seats = s.seats; stands = stands_kept; names = s.names ∙ named_alike (page_in t) (page_in t') s.seats (λ j h. sym (page_other j (not_here j (omega arith)))) (λ j h. sym (page_other j (not_here j (omega arith)))) } where
      not_here : (j : ℕ) → 0 < occ j s.seats.top + occ j s.seats.bottom → j ≢ i
      not_here j h e = let w = sym (ap (λ x. taken (at t x).links.part) e ∙ ap taken idle) ∙ seated_taken c t s.seats s.stands.arranged j h in let z : ◌≡◌ {A = ℕ} 0 1 = cc w in omega arith

    -- another page takes the place of the frame's
    pub framed_replaced : Apart t → taken (at t i).links.part ≡ true → Framed told c t' (named (replacing (page_in t i) f.page) o)
    framed_replaced a held = record { seats = s.seats; stands = stands_kept; names = ap (named (replacing (page_in t i) f.page)) s.names ∙ same_order _ _ _ _ _ _ (both s.seats.top (λ j h. low_of j (omega (arith, h)))) (both s.seats.bottom (λ j h. low_of j (omega (arith, h)))) refl } where
      low_of : (j : ℕ) → 0 < occ j s.seats.top + occ j s.seats.bottom → In t (page_in t j) j
      low_of j h = record { within = seated_low c t s.seats s.stands.arranged j h; held = seated_taken c t s.seats s.stands.arranged j h; here = refl }

      both : (xs : List ℕ) → ((j : ℕ) → 0 < occ j xs → In t (page_in t j) j) → map (replacing (page_in t i) f.page) (map (page_in t) xs) ≡ map (page_in t') xs
      both xs ins = map-map (replacing (page_in t i) f.page) (page_in t) xs ∙ same_names (λ j. replacing (page_in t i) f.page (page_in t j)) (page_in t') xs (λ j h. elim (cases_eq j i) [
        | inl y ↦ rw (eq-eqb (page_in t j) (page_in t i) (ap (page_in t) y)) (ap (λ (x : Frame). x.page) (sym at_here) ∙ ap (page_in t') (sym y))
        | inr n ↦ rw (ne_eqb (page_in t j) (page_in t i) (λ e. n (a (page_in t i) j i (record { within = (ins j h).within; held = (ins j h).held; here = e }) (record { within = low; held = held; here = refl })))) (sym (page_other j n))
      ])

-- A frame that is altered in its seat and keeps its page leaves the table seated.
pub seated_lent : {X : Type 0} (c : TwoParts X) (t : List Frame) (i : ℕ) (was f : Frame) → i < length t → was ≡ get_or t i was → f.links.next ≡ was.links.next → f.links.prev ≡ was.links.prev → f.links.part ≡ was.links.part → f.page ≡ was.page → Seated c t → Seated c (set t i f)
seated_lent c t i was f low read next prev part page s =
    let e = get_or_read t i was low read blank in
    seated_kept t (set t i f) i f refl low (next ∙ ap (λ (x : Frame). x.links.next) e) (prev ∙ ap (λ (x : Frame). x.links.prev) e) (part ∙ ap (λ (x : Frame). x.links.part) e) c (inl (page ∙ ap (λ (x : Frame). x.page) e)) s
