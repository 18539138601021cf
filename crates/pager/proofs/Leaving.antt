-- What a frame table shows once a frame left its bottom, or once the rule was asked for a slot.
use Rattle.std.proofs.Common.{◌≡◌, ℕ, ◌+◌, ◌-◌, ◌<◌, ◌≤◌, eqb, List, [], ◌∷◌, ◌++◌, map, length, get_or, take, Some, None, Option, sym, refl, ap, ◌∙◌, subst, inl, inr, arith, MatchOption}
use Rattle.std.proofs.lemmas.List.{get_or-map, length-map, take-map, map_push}
use Rattle.std.proofs.lemmas.Bool.{eq-eqb, le-ltb}
use Rattle.links.specs.declared.Part.TheVariants.{Unused}
use Rattle.links.specs.Segs.{end_of}
use Rattle.lists.specs.Weights.{occ, one}
use Rattle.lists.proofs.Weights.{weigh_parts, weigh_push, ltb_cases}
use Rattle.model.specs.Order.{Rule, Order}
use Rattle.model.proofs.Named.{same_order, named_alike}
use Rattle.model.proofs.Uses.{slot_in}
use Rattle.order.specs.declared.parts.TwoParts.{TwoParts}
use Rattle.order.specs.Views.{Views}
use Rattle.order.specs.Stands.{Arranged, Stands}
use Rattle.order.specs.Steps.{without_last, asked}
use Rattle.order.proofs.Standing.{arranged_stands}
use Rattle.order.proofs.Dropping.{all_but_last, ends_nowhere}
use Rattle.pager.specs.declared.frame.Frame.{Frame}
use Rattle.pager.specs.Frames.{blank, at, page_in, contents, seats_of, In, Apart}
use Rattle.pager.specs.Seats.{Seated}
use Rattle.pager.specs.Framed.{Framed, SameContents, Released, Left, Slotted}
use Rattle.pager.proofs.Seating.{same_page, same_length, seated_low, seated_taken, taken_seated}

-- The rule was asked, and no frame moved.
module _ {X : Type 0} (told : X → ℕ) (r : Rule) (c c' : TwoParts X) (t : List Frame) (step : (v : Views) (o : Order) → Stands told c v o → Stands told c' v (asked r c.slots o)) where
  pub slot_seated : Seated c t → Seated c' t
  slot_seated w = (_, (step (seats_of t) _ (arranged_stands told c (seats_of t) w.0 w.1)).arranged, w.2)

  pub slot_shows : (o : Order) (i : ℕ) → Framed told c t o → r.slot o.told c.slots < c.slots → c.slots ≤ length o.top →
      ((v : Views) (p : Order) → Stands told c v p → c.slots ≤ length p.top → i ≡ get_or p.top (r.slot p.told c.slots) 0) → Slotted told r c.slots t o i c'
  slot_shows o i f inside full chosen = record {
    held = record { within = seated_low c t f.seats a i there; held = seated_taken c t f.seats a i there; here = refl };
    page = ap (page_in t) is ∙ (sym (get_or-map (page_in t) f.seats.top (r.slot f.seats.told c.slots) 0 0 low) ∙ sym (ap (λ (x : Order). get_or x.top (r.slot x.told c.slots) 0) f.names));
    shows = record { seats = asked r c.slots f.seats; stands = step (seats_of t) f.seats f.stands; names = ap (asked r c.slots) f.names };
  } where
    a : Arranged c (seats_of t) f.seats
    a = f.stands.arranged

    told_same : o.told ≡ f.seats.told
    told_same = ap (λ (x : Order). x.told) f.names

    long : length o.top ≡ length f.seats.top
    long = ap (λ (x : Order). length x.top) f.names ∙ length-map f.seats.top (page_in t)

    is : i ≡ get_or f.seats.top (r.slot f.seats.told c.slots) 0
    is = chosen (seats_of t) f.seats f.stands (omega (arith, long))

    low : r.slot f.seats.told c.slots < length f.seats.top
    low = omega (arith, ap (λ s. r.slot s c.slots) told_same, long)

    there : 0 < occ i f.seats.top + occ i f.seats.bottom
    there = omega (arith, subst (λ x. 0 < occ x f.seats.top) (sym is) (slot_in f.seats.top (r.slot f.seats.told c.slots) low))

-- The last frame of the bottom left. The frames were lent out as u and came back as t'.
module _ {X : Type 0} (told : X → ℕ) (c c' : TwoParts X) (t u ws t' : List Frame) (lent : u ≡ t) (back : t' ≡ ws) (same : SameContents u ws)
    (step : (o : Order) → Stands told c (seats_of u) o → Stands told c' (seats_of ws) (without_last o)) where
  pub leave_same : SameContents t t'
  leave_same = ap (map contents) back ∙ (same ∙ ap (map contents) lent)

  leave_step : (o : Order) → Stands told c (seats_of t) o → Stands told c' (seats_of t') (without_last o)
  leave_step o s = subst (λ x. Stands told c' (seats_of x) (without_last o)) (sym back) (step o (subst (λ x. Stands told c (seats_of x) o) (sym lent) s))

  fewer : (o : Order) (j : ℕ) → occ j (without_last o).bottom ≤ occ j o.bottom
  fewer o j = omega (arith, weigh_parts (λ x. one (eqb x j)) (length o.bottom - 1) o.bottom)

  leave_before : (o : Order) → Stands told c (seats_of t) o → (p x : ℕ) → In t' p x → In t p x
  leave_before o s p x h =
      let there : 0 < occ x o.top + occ x o.bottom = omega (arith, taken_seated c' t' (without_last o) (leave_step o s).arranged x h.within h.held, fewer o x) in
      record { within = seated_low c t o s.arranged x there; held = seated_taken c t o s.arranged x there; here = sym (same_page t t' leave_same x) ∙ h.here }

  leave_apart : (o : Order) → Stands told c (seats_of t) o → Apart t → Apart t'
  leave_apart o s a p j k hj hk = a p j k (leave_before o s p j hj) (leave_before o s p k hk)

  pub leave_seated : Seated c t → Seated c' t'
  leave_seated w = let s = arranged_stands told c (seats_of t) w.0 w.1 in (_, (leave_step _ s).arranged, leave_apart _ s w.2)

  module _ (o : Order) (f : Framed told c t o) where
    names_bottom : o.bottom ≡ map (page_in t) f.seats.bottom
    names_bottom = ap (λ (x : Order). x.bottom) f.names

    leave_shows : Framed told c' t' (without_last o)
    leave_shows = record {
      seats = without_last f.seats;
      stands = leave_step f.seats f.stands;
      names = ap without_last f.names ∙ (same_order _ _ _ _ _ _ refl (ap (λ n. take (n - 1) (map (page_in t) f.seats.bottom)) (length-map f.seats.bottom (page_in t)) ∙ take-map (page_in t) (length f.seats.bottom - 1) f.seats.bottom) refl
          ∙ named_alike (page_in t) (page_in t') (without_last f.seats) (λ j h. sym (same_page t t' leave_same j)) (λ j h. sym (same_page t t' leave_same j)));
    }

    by_last : (i : ℕ) → end_of None f.seats.bottom ≡ Some i → Released told t o i c' t'
    by_last i e = record {
      within = seated_low c t f.seats a i there;
      was = record { within = seated_low c t f.seats a i there; held = seated_taken c t f.seats a i there; here = refl };
      oldest = names_bottom ∙ (ap (map (page_in t)) (sym split) ∙ (map_push (page_in t) (take (length f.seats.bottom - 1) f.seats.bottom) i
          ∙ ap (λ xs. xs ++ page_in t i ∷ []) (sym (take-map (page_in t) (length f.seats.bottom - 1) f.seats.bottom) ∙ (ap (λ n. take (n - 1) (map (page_in t) f.seats.bottom)) (sym (length-map f.seats.bottom (page_in t))) ∙ ap (λ xs. take (length xs - 1) xs) (sym names_bottom)))));
      idle = idle;
      shows = leave_shows;
    } where
      a : Arranged c (seats_of t) f.seats
      a = f.stands.arranged

      a' : Arranged c' (seats_of t') (without_last f.seats)
      a' = (leave_step f.seats f.stands).arranged

      split : take (length f.seats.bottom - 1) f.seats.bottom ++ i ∷ [] ≡ f.seats.bottom
      split = all_but_last i f.seats.bottom e

      self : one (eqb i i) ≡ 1
      self = rw (eq-eqb i i refl)

      counted : occ i f.seats.bottom ≡ occ i (without_last f.seats).bottom + 1
      counted = ap (occ i) (sym split) ∙ (weigh_push (λ x. one (eqb x i)) (take (length f.seats.bottom - 1) f.seats.bottom) i ∙ ap (λ n. occ i (without_last f.seats).bottom + n) self)

      there : 0 < occ i f.seats.top + occ i f.seats.bottom
      there = omega (arith, counted)

      once : occ i f.seats.top + occ i f.seats.bottom ≤ 1
      once = elim (ltb_cases i (length t)) [
        | inl y ↦ omega (arith, rw y.1 at (a.sound.once i))
        | inr n ↦ omega (arith, rw n.1 at (a.sound.once i))
      ]

      idle : (at t' i).links.part ≡ Unused
      idle = sym (get_or-map (λ (x : Frame). x.links.part) t' i blank Unused low) ∙ (a'.parts_are i low
          ∙ rw (le-ltb 0 (occ i f.seats.top) (omega (arith, once, counted)), le-ltb 0 (occ i (without_last f.seats).bottom) (omega (arith, once, counted))) refl) where
            low : i < length t'
            low = omega (arith, seated_low c t f.seats a i there, same_length t t' leave_same)

    no_last : (bs : List ℕ) → end_of None bs ≡ None → bs ≡ []
    no_last [] e = refl
    no_last (b ∷ bs) e = absurd (ends_nowhere b bs e)

    pub leave_cases : (q : Option ℕ) → q ≡ end_of None f.seats.bottom → MatchOption q (o.bottom ≡ []) (λ i. Released told t o i c' t')
    leave_cases None e = names_bottom ∙ ap (map (page_in t)) (no_last f.seats.bottom (sym e))
    leave_cases (Some i) e = by_last i (sym e)

    pub left_cases : (q : Option ℕ) → q ≡ end_of None f.seats.bottom → MatchOption q (o.bottom ≡ []) (λ i. Left told t o i c' t')
    left_cases None e = leave_cases None e
    left_cases (Some i) e = record { released = by_last i (sym e); before = leave_before f.seats f.stands }
