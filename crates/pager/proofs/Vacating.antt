-- The frame that a page without one gets: a free one, that of the last page of the bottom, or that of a slot.
use Rattle.std.proofs.Common.{◌≡◌, ℕ, ◌+◌, ◌<◌, ◌≤◌, true, cond, ◌≢◌, List, [], ◌∷◌, length, get_or, set, sym, refl, ap, ◌∙◌, subst, inl, inr, arith}
use Rattle.std.proofs.lemmas.Bool.{lt-ltb}
use Rattle.links.specs.declared.Part.TheVariants.{Unused}
use Rattle.lists.specs.Weights.{occ}
use Rattle.lists.proofs.Weights.{ltb_cases}
use Rattle.model.specs.Order.{Rule, Order, used}
use Rattle.model.specs.Sound.{Sound}
use Rattle.model.specs.Named.{named}
use Rattle.order.specs.Steps.{asked, without_last}
use Rattle.model.specs.Pager.{cut, frames, evicted}
use Rattle.model.proofs.Uses.{sound_used, used_in}
use Rattle.pager.proofs.Faults.{room_leads, room_drives, last_leads, last_drives, slot_named, slot_drives}
use Rattle.order.specs.declared.parts.TwoParts.{TwoParts}
use Rattle.pager.specs.declared.frame.Frame.{Frame}
use Rattle.pager.specs.Frames.{at, page_in, contents, taken, In, Absent, Apart}
use Rattle.pager.specs.Framed.{Framed, SameContents, replacing, renamed, Sat, Left, Slotted}
use Rattle.pager.specs.Vacant.{Vacant, Taken}
use Rattle.pager.proofs.Seating.{same_at, same_page}
use Rattle.pager.proofs.Naming.{at_here, at_other, in_other, framed_idle, framed_replaced}
use Rattle.pager.proofs.Holders.{seats_left, seats_all, top_long, bottom_long, none_in, bottom_fits}

-- A use of a page in the top alters nothing.
pub used_stays : (r : Rule) (k p : ℕ) (o : Order) → 0 < occ p o.top → used r k p o ≡ o
used_stays r k p o h = rw (lt-ltb 0 (occ p o.top) h) refl

-- A table that shows the order o has k slots and k + l frames, and every frame holds a page.
module _ {X : Type 0} (told : X → ℕ) (l : ℕ) (c : TwoParts X) (t : List Frame) (o : Order) (f : Framed told c t o) (room : length t ≡ c.slots + l) (all : (i : ℕ) → i < length t → taken (at t i).links.part ≡ true) where
  whole : length o.top + length o.bottom ≡ c.slots + l
  whole = omega (arith, seats_all c t f.seats f.stands.arranged all, top_long told c t o f, bottom_long told c t o f, room)

  pub top_full : c.slots ≤ length o.top
  top_full = omega (arith, whole, bottom_fits told c t o f l room)

  pub bottom_full : length o.top ≤ c.slots → length o.bottom ≡ l
  bottom_full fits = omega (arith, whole, top_full)

-- In a table that shows the order o, with k slots and k + l frames, page p has no frame.
module _ {X : Type 0} (told : X → ℕ) (r : Rule) (n l p : ℕ) (c : TwoParts X) (t : List Frame) (o : Order) (f : Framed told c t o) (s : Sound n c.slots o)
    (slots : r.slot o.told c.slots < c.slots) (room : length t ≡ c.slots + l) (none : Absent t p) where
  gone : frames p o ≡ 0
  gone = none_in told c t o f p none

  -- A frame holds no page.
  pub vacant_free : p < n → (i : ℕ) → i < length t → (at t i).links.part ≡ Unused → Vacant told r c.slots l t o p i c t
  vacant_free low i within idle = record {
    within = within;
    before = λ q j h. h;
    drives = room_drives r n c.slots l p o s sound'.fits sound'.full left gone ∙ sym (ap (λ x. cond (taken x) (page_in t i ∷ []) []) idle);
    between = o;
    shows = framed_idle t (set t i (renamed p (at t i))) i (renamed p (at t i)) refl within refl refl refl told c o f idle;
    leads = room_leads r n c.slots l p o s sound'.fits sound'.full left gone;
  } where
    sound' : Sound n c.slots (used r c.slots p o)
    sound' = sound_used n c.slots p o s low r slots

    left : length o.top + length o.bottom + 1 ≤ c.slots + l
    left = omega (arith, seats_left c t f.seats f.stands.arranged i within idle, top_long told c t o f, bottom_long told c t o f, room)

  -- Every frame holds a page.
  module _ (all : (i : ℕ) → i < length t → taken (at t i).links.part ≡ true) where
    full : c.slots ≤ length o.top
    full = top_full told l c t o f room all

    bottom_is : length o.bottom ≡ l
    bottom_is = bottom_full told l c t o f room all s.fits

    pub vacant_last : (i : ℕ) (c' : TwoParts X) (t' : List Frame) → length t' ≡ length t → Left told t o i c' t' → Vacant told r c.slots l t o p i c' t'
    vacant_last i c' t' long h = record {
      within = h.released.within;
      before = h.before;
      drives = ap (λ x. evicted r c.slots x p o) (sym bottom_is) ∙ (last_drives r c.slots p o full gone (page_in t i) h.released.oldest ∙ sym (ap (λ x. cond x (page_in t i ∷ []) []) h.released.was.held));
      between = without_last o;
      shows = framed_idle t' (set t' i (renamed p (at t' i))) i (renamed p (at t' i)) refl (rw long h.released.within) refl refl refl told c' (without_last o) h.released.shows h.released.idle;
      leads = last_leads r c.slots p o full gone (page_in t i) h.released.oldest ∙ ap (λ x. cut x (used r c.slots p o)) bottom_is;
    }

    pub vacant_slot : o.bottom ≡ [] → (i : ℕ) (c' : TwoParts X) → Apart t → Slotted told r c.slots t o i c' → Vacant told r c.slots l t o p i c' t
    vacant_slot bare i c' apart h = record {
      within = h.held.within;
      before = λ q j y. y;
      drives = ap (λ x. evicted r c.slots x p o) is_0 ∙ (slot_drives r c.slots p o full gone low once bare ∙ (ap (λ x. x ∷ []) (sym h.page) ∙ sym (ap (λ x. cond x (page_in t i ∷ []) []) h.held.held)));
      between = cut 0 (used r c.slots p o);
      shows = subst (λ x. Framed told c' (set t i (renamed p (at t i))) x) named_is (framed_replaced t (set t i (renamed p (at t i))) i (renamed p (at t i)) refl h.held.within refl refl refl told c' (asked r c.slots o) h.shows apart h.held.held);
      leads = used_stays r c.slots p (cut 0 (used r c.slots p o)) (used_in n c.slots p o r slots) ∙ ap (λ x. cut x (used r c.slots p o)) (sym is_0);
    } where
      is_0 : l ≡ 0
      is_0 = omega (arith, bottom_is, ap length bare)

      low : r.slot o.told c.slots < length o.top
      low = omega (arith, full, slots)

      once : occ (get_or o.top (r.slot o.told c.slots) 0) o.top ≤ 1
      once = elim (ltb_cases (get_or o.top (r.slot o.told c.slots) 0) n) [
        | inl y ↦ omega (arith, rw y.1 at (s.once (get_or o.top (r.slot o.told c.slots) 0)))
        | inr m ↦ omega (arith, rw m.1 at (s.once (get_or o.top (r.slot o.told c.slots) 0)))
      ]

      named_is : named (replacing (page_in t i) p) (asked r c.slots o) ≡ cut 0 (used r c.slots p o)
      named_is = ap (λ x. named (replacing x p) (asked r c.slots o)) h.page ∙ slot_named r c.slots p o full gone low once bare

-- The last of an empty bottom was asked for, which altered nothing, and then the rule.
module _ {X : Type 0} (told : X → ℕ) (r : Rule) (l : ℕ) (c c₁ c₂ : TwoParts X) (t t₁ t₂ : List Frame) (i : ℕ) (ec : c₁ ≡ c) (et : t₁ ≡ t) (e₂ : t₂ ≡ t₁) (all : (j : ℕ) → j < length t → taken (at t j).links.part ≡ true)
    (step : (o : Order) → Framed told c₁ t₁ o → c₁.slots ≤ length o.top → Slotted told r c₁.slots t₁ o i c₂) where
  pub slot_held : (o : Order) → Framed told c t o → length t ≡ c.slots + l → Slotted told r c.slots t o i c₂
  slot_held o f room = moved f (top_full told l c t o f room all) where
    moved : Framed told c t o → c.slots ≤ length o.top → Slotted told r c.slots t o i c₂
    moved = subst (λ x. Framed told x t o → x.slots ≤ length o.top → Slotted told r x.slots t o i c₂) ec (subst (λ y. Framed told c₁ y o → c₁.slots ≤ length o.top → Slotted told r c₁.slots y o i c₂) et (step o))

  pub vacant_none : (n p : ℕ) (o : Order) → Framed told c t o → Sound n c.slots o → r.slot o.told c.slots < c.slots → length t ≡ c.slots + l → Absent t p → o.bottom ≡ [] → Apart t → Vacant told r c.slots l t o p i c₂ t₂
  vacant_none n p o f s slots room none bare apart =
      subst (λ x. Vacant told r c.slots l t o p i c₂ x) (sym (e₂ ∙ et)) (vacant_slot told r n l p c t o f s slots room none all bare i c₂ apart (slot_held o f room))

-- A frame that was named after a page that no frame held took its seat.
module _ {X : Type 0} (told : X → ℕ) (r : Rule) (c c₁ c₂ : TwoParts X) (t t₁ t₂ : List Frame) (p i : ℕ) (low : i < length t) (ec : c₁ ≡ c) (is : t₁ ≡ set t i (renamed p (at t i))) (same : SameContents t₁ t₂)
    (step : (o : Order) → Framed told c₁ t₁ o → Sat told r c₁.slots t₁ o i c₂ t₂) where
  page_is : page_in t₁ i ≡ p
  page_is = ap (λ (f : Frame). f.page) (at_here t t₁ i (renamed p (at t i)) is low refl refl refl)

  pub takes : (o : Order) → Framed told c (set t i (renamed p (at t i))) o → Taken told r c.slots t o i p c₂ t₂
  takes o f =
      let s = step o (subst (λ x. Framed told x t₁ o) (sym ec) (subst (λ y. Framed told c y o) (sym is) f)) in
      record {
        shows = subst (λ q. Framed told c₂ t₂ (used r c.slots q o)) page_is (subst (λ (x : TwoParts X). Framed told c₂ t₂ (used r x.slots (page_in t₁ i) o)) ec s.shows);
        here = subst (λ q. In t₂ q i) page_is s.here;
        clean = ap (λ (x : Frame). x.dirty) (same_at t₁ t₂ same i) ∙ ap (λ (x : Frame). x.dirty) (at_here t t₁ i (renamed p (at t i)) is low refl refl refl);
        others = λ q j ne h.
            let away : j ≢ i = λ e. ne (sym h.here ∙ (same_page t₁ t₂ same j ∙ (ap (page_in t₁) e ∙ page_is))) in
            (away, in_other t t₁ i (renamed p (at t i)) is low refl refl refl q j away (s.others q j away h), same_at t₁ t₂ same j ∙ ap contents (at_other t t₁ i (renamed p (at t i)) is low refl refl refl j away));
      }
