-- What a frame table shows after its frames were seated anew.
use Rattle.std.proofs.Common.{◌≡◌, ℕ, zero, suc, ◌+◌, ◌<◌, true, ◌≢◌, List, [], ◌∷◌, map, length, get_or, sym, refl, ap, ◌∙◌, subst, inl, inr, arith}
use mathlib.Core.Logic.{∥∥₁_elim}
use native.Mathlib.Nat.{ℕ_set}
use Rattle.std.proofs.lemmas.List.{get_or-map, length-map}
use Rattle.std.proofs.lemmas.Bool.{cases_lt, cases_eq, lt-ltb, le-ltb}
use Rattle.links.specs.declared.Part.TheVariants.{Unused}
use Rattle.lists.specs.Weights.{occ}
use Rattle.lists.specs.Renamed.{Tells}
use Rattle.lists.proofs.Weights.{ltb_cases}
use Rattle.model.specs.Order.{Rule, Order, used}
use Rattle.model.proofs.Named.{used-named, named_alike}
use Rattle.model.proofs.Uses.{used_in}
use Rattle.model.proofs.Moves.{others}
use Rattle.order.specs.declared.parts.TwoParts.{TwoParts}
use Rattle.order.specs.Stands.{part_of, Arranged, Stands}
use Rattle.order.proofs.Standing.{arranged_stands}
use Rattle.pager.specs.declared.frame.Frame.{Frame}
use Rattle.pager.specs.Frames.{blank, at, page_in, contents, seats_of, taken, In, Apart}
use Rattle.pager.specs.Seats.{Seated}
use Rattle.pager.specs.Framed.{Framed, Alone, SameContents, Sat}

at_contents : (t : List Frame) (j : ℕ) → get_or (map contents t) j blank ≡ contents (at t j)
at_contents [] j = refl
at_contents (f ∷ t) zero = refl
at_contents (f ∷ t) (suc j) = at_contents t j

-- Frames that are only seated differently hold the same.
pub same_at : (t u : List Frame) → SameContents t u → (j : ℕ) → contents (at u j) ≡ contents (at t j)
same_at t u e j = sym (at_contents u j) ∙ (ap (λ xs. get_or xs j blank) e ∙ at_contents t j)

pub same_page : (t u : List Frame) → SameContents t u → (j : ℕ) → page_in u j ≡ page_in t j
same_page t u e j = ap (λ (f : Frame). f.page) (same_at t u e j)

pub same_length : (t u : List Frame) → SameContents t u → length u ≡ length t
same_length t u e = sym (length-map u contents) ∙ (ap length e ∙ length-map t contents)

-- A frame holds a page exactly if it is seated.
module _ {X : Type 0} (c : TwoParts X) (t : List Frame) (o : Order) (a : Arranged c (seats_of t) o) where
  pub part_is : (j : ℕ) → j < length t → (at t j).links.part ≡ part_of o j
  part_is j low = sym (get_or-map (λ (f : Frame). f.links.part) t j blank Unused low) ∙ a.parts_are j low

  pub seated_low : (j : ℕ) → 0 < occ j o.top + occ j o.bottom → j < length t
  seated_low j h = elim (cases_lt j (length t)) [ inl y ↦ y | inr m ↦ absurd (omega (arith, rw (le-ltb j (length t) m) at (a.sound.once j))) ]

  pub seated_taken : (j : ℕ) → 0 < occ j o.top + occ j o.bottom → taken (at t j).links.part ≡ true
  seated_taken j h = ap taken (part_is j (seated_low j h)) ∙ elim (ltb_cases 0 (occ j o.top)) [
    | inl y ↦ rw y.1 refl
    | inr n ↦ rw (n.1, lt-ltb 0 (occ j o.bottom) (omega (arith, n.0))) refl
  ]

  pub taken_seated : (j : ℕ) → j < length t → taken (at t j).links.part ≡ true → 0 < occ j o.top + occ j o.bottom
  taken_seated j low h = elim (ltb_cases 0 (occ j o.top)) [
    | inl y ↦ omega (arith, y.0)
    | inr n ↦ elim (ltb_cases 0 (occ j o.bottom)) [
      | inl y ↦ omega (arith, y.0)
      | inr m ↦ let w = sym (ap taken (part_is j low)) ∙ h in let z : ◌≡◌ {A = ℕ} 0 1 = cc (rw (n.1, m.1) at w) in absurd (omega arith)
    ]
  ]

  pub tells_top : (i : ℕ) → Alone t i → Tells (page_in t) i o.top
  tells_top i alone j h e = alone j (record { within = seated_low j (omega arith); held = seated_taken j (omega arith); here = e })

  pub tells_bottom : (i : ℕ) → Alone t i → Tells (page_in t) i o.bottom
  tells_bottom i alone j h e = alone j (record { within = seated_low j (omega arith); held = seated_taken j (omega arith); here = e })

-- A frame that takes its seat: the page that it is named after is used.
module _ {X : Type 0} (told : X → ℕ) (r : Rule) (c c' : TwoParts X) (t t' : List Frame) (i : ℕ) (low : i < length t) (alone : Alone t i) (same : SameContents t t')
    (slots : (s : ℕ) → r.slot s c.slots < c.slots) (step : (o : Order) → Stands told c (seats_of t) o → i < length t → Stands told c' (seats_of t') (used r c.slots i o)) where
  pub seat_framed : (o : Order) → Framed told c t o → Framed told c' t' (used r c.slots (page_in t i) o)
  seat_framed o f =
      let a = f.stands.arranged in
      record {
        seats = used r c.slots i f.seats;
        stands = step f.seats f.stands low;
        names = ap (used r c.slots (page_in t i)) f.names
            ∙ (sym (used-named (page_in t) r c.slots i f.seats (tells_top c t f.seats a i alone) (tells_bottom c t f.seats a i alone) (λ h. omega (arith, slots f.seats.told, h)))
            ∙ named_alike (page_in t) (page_in t') (used r c.slots i f.seats) (λ j h. sym (same_page t t' same j)) (λ j h. sym (same_page t t' same j)));
      }

  kept_in : (o : Order) → Stands told c (seats_of t) o → (p j : ℕ) → j ≢ i → In t' p j → In t p j
  kept_in o s p j ne h = record {
    within = rw (← (same_length t t' same)) h.within;
    held = seated_taken c t o s.arranged j (omega (arith, taken_seated c' t' (used r c.slots i o) (step o s low).arranged j h.within h.held, others r (length t) c.slots i o s.arranged.sound (slots o.told) j (λ z. ne (sym z))));
    here = sym (same_page t t' same j) ∙ h.here;
  }

  pub seat_sat : (o : Order) → Framed told c t o → Sat told r c.slots t o i c' t'
  seat_sat o f =
      let a = (step f.seats f.stands low).arranged in
      let there : 0 < occ i (used r c.slots i f.seats).top + occ i (used r c.slots i f.seats).bottom = omega (arith, used_in (length t) c.slots i f.seats r (slots f.seats.told)) in
      record {
        shows = seat_framed o f;
        here = record { within = seated_low c' t' (used r c.slots i f.seats) a i there; held = seated_taken c' t' (used r c.slots i f.seats) a i there; here = same_page t t' same i };
        others = kept_in f.seats f.stands;
      }

  pub seat_apart : (o : Order) → Stands told c (seats_of t) o → Apart t → Apart t'
  seat_apart o s ap' p j k hj hk = elim (cases_eq j i) [
    | inl ej ↦ elim (cases_eq k i) [
      | inl ek ↦ ej ∙ sym ek
      | inr nk ↦ ej ∙ sym (by_name k nk hk hj.here ej)
    ]
    | inr nj ↦ elim (cases_eq k i) [
      | inl ek ↦ by_name j nj hj hk.here ek ∙ sym ek
      | inr nk ↦ ap' p j k (kept_in o s p j nj hj) (kept_in o s p k nk hk)
    ]
  ] where
    by_name : (x : ℕ) → x ≢ i → In t' p x → {y : ℕ} → page_in t' y ≡ p → y ≡ i → x ≡ i
    by_name x nx hx {y} e ey = alone x (record {
      within = (kept_in o s p x nx hx).within;
      held = (kept_in o s p x nx hx).held;
      here = (kept_in o s p x nx hx).here ∙ (sym e ∙ (ap (page_in t') ey ∙ same_page t t' same i));
    })

-- The same where the frames were lent out as u and came back as t'.
module _ {X : Type 0} (told : X → ℕ) (r : Rule) (c c' : TwoParts X) (t u ws t' : List Frame) (i : ℕ) (lent : u ≡ t) (back : t' ≡ ws) (low : i < length t) (alone : Alone t i) (same : SameContents u ws)
    (slots : (s : ℕ) → r.slot s c.slots < c.slots) (step : (o : Order) → Stands told c (seats_of u) o → i < length u → Stands told c' (seats_of ws) (used r c.slots i o)) where
  pub seat_same : SameContents t t'
  seat_same = ap (map contents) back ∙ (same ∙ ap (map contents) lent)

  seat_step : (o : Order) → Stands told c (seats_of t) o → i < length t → Stands told c' (seats_of t') (used r c.slots i o)
  seat_step o s h = subst (λ x. Stands told c' (seats_of x) (used r c.slots i o)) (sym back) (step o (subst (λ x. Stands told c (seats_of x) o) (sym lent) s) (rw lent h))

  pub seat_shows : (o : Order) → Framed told c t o → Framed told c' t' (used r c.slots (page_in t i) o)
  seat_shows = seat_framed told r c c' t t' i low alone seat_same slots seat_step

  pub seat_sits : (o : Order) → Framed told c t o → Sat told r c.slots t o i c' t'
  seat_sits = seat_sat told r c c' t t' i low alone seat_same slots seat_step

  pub seat_seated : Seated c t → Seated c' t'
  seat_seated w =
      let s = arranged_stands told c (seats_of t) w.0 w.1 in
      (_, (seat_step _ s low).arranged, seat_apart told r c c' t t' i low alone seat_same slots seat_step _ s w.2)

-- In every table that exists no page is in two frames.
pub apart_in : {X : Type 0} (c : TwoParts X) (t : List Frame) → ∥ Seated c t ∥₁ → Apart t
apart_in c t seated p i j h k = ∥∥₁_elim seated (ℕ_set i j) (λ w. w.2 p i j h k)
