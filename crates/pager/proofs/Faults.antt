-- What a fault does to an order whose frames are all taken, and to one that has room.
use Rattle.std.proofs.Common.{◌≡◌, ℕ, zero, suc, ◌+◌, ◌-◌, ◌<◌, ◌≤◌, false, eqb, ltb, List, [], ◌∷◌, ◌++◌, map, length, get_or, take, drop, set, sym, refl, ap, ◌∙◌, inl, inr, arith}
use Rattle.std.proofs.lemmas.List.{take_all, drop_all, drop_at, length-append, length-take}
use Rattle.std.proofs.lemmas.Bool.{cases_lt, le-ltb, eq-eqb}
use Rattle.lists.specs.Weights.{one, occ}
use Rattle.lists.proofs.Weights.{eqb_cases, weigh_parts, without_none}
use Rattle.model.specs.Order.{Rule, Order, exchanged, used}
use Rattle.model.specs.Sound.{Sound}
use Rattle.model.specs.Named.{named}
use Rattle.order.specs.Steps.{asked, without_last}
use Rattle.model.specs.Pager.{cut, frames, fault, evicted}
use Rattle.model.proofs.Named.{same_order}
use Rattle.model.proofs.Uses.{slot_in}
use Rattle.model.proofs.Moves.{grown}
use Rattle.pager.specs.Framed.{replacing}

-- An order whose bottom has at most l pages is not altered by a cut.
pub cut_none : (l : ℕ) (o : Order) → length o.bottom ≤ l → cut l o ≡ o
cut_none l o h = same_order _ _ _ _ _ _ refl (take_all l o.bottom h) refl

pub fault_one : (p : ℕ) (o : Order) → frames p o ≡ 0 → fault p o ≡ 1
fault_one p o none = rw (le-ltb 0 (occ p o.top) (omega arith), le-ltb 0 (occ p o.bottom) (omega arith)) refl

-- There is a frame left over: nothing is driven out.
module _ (r : Rule) (n k l p : ℕ) (o : Order) (s : Sound n k o) (fits : length (used r k p o).top ≤ k) (short : length (used r k p o).top < k → (used r k p o).bottom ≡ [])
    (room : length o.top + length o.bottom + 1 ≤ k + l) (none : frames p o ≡ 0) where
  few : length (used r k p o).bottom ≤ l
  few = elim (cases_lt (length (used r k p o).top) k) [
    | inl y ↦ omega (arith, ap length (short y))
    | inr m ↦ omega (arith, grown r k p o s.full, fault_one p o none)
  ]

  pub room_leads : used r k p o ≡ cut l (used r k p o)
  room_leads = sym (cut_none l (used r k p o) few)

  pub room_drives : evicted r k l p o ≡ []
  room_drives = drop_all l (used r k p o).bottom few

-- The top is full and page p has no frame.
module _ (r : Rule) (k p : ℕ) (o : Order) (full : k ≤ length o.top) (none : frames p o ≡ 0) where
  not_there : ltb 0 (occ p o.top) ≡ false
  not_there = le-ltb 0 (occ p o.top) (omega arith)

  faulted : used r k p o ≡ exchanged r k p o
  faulted = rw (not_there, le-ltb (length o.top) k full) refl

  -- The bottom is full too, and its last page is driven out.
  module _ (e : ℕ) (last : o.bottom ≡ (without_last o).bottom ++ e ∷ []) where
    some : 0 < length o.bottom
    some = omega (arith, ap length last, length-append (without_last o).bottom (e ∷ []))

    front_none : occ p (take (length o.bottom - 1) o.bottom) ≡ 0
    front_none = omega (arith, weigh_parts (λ x. one (eqb x p)) (length o.bottom - 1) o.bottom)

    pub last_leads : used r k p (without_last o) ≡ cut (length o.bottom) (used r k p o)
    last_leads = rw (not_there, le-ltb (length o.top) k full) (same_order _ _ _ _ _ _ refl
        (ap (λ xs. get_or o.top (r.slot o.told k) 0 ∷ xs) (without_none p (take (length o.bottom - 1) o.bottom) front_none)
        ∙ (shifted (length o.bottom) (get_or o.top (r.slot o.told k) 0) o.bottom some ∙ ap (λ xs. take (length o.bottom) (get_or o.top (r.slot o.told k) 0 ∷ xs)) (sym (without_none p o.bottom (omega arith))))) refl) where
          shifted : (m x : ℕ) (xs : List ℕ) → 0 < m → x ∷ take (m - 1) xs ≡ take m (x ∷ xs)
          shifted zero x xs h = absurd (omega arith)
          shifted (suc m) x xs h = let z : suc m - 1 ≡ m = omega arith in ap (λ i. x ∷ take i xs) z

    pub last_drives : evicted r k (length o.bottom) p o ≡ e ∷ []
    last_drives = rw (not_there, le-ltb (length o.top) k full, without_none p o.bottom (omega arith))
        (shifted (length o.bottom) (get_or o.top (r.slot o.told k) 0) o.bottom some ∙ (ap (drop (length o.bottom - 1)) last ∙ drop_at (without_last o).bottom (e ∷ []) (length o.bottom - 1) (rw (length-take (length o.bottom - 1) o.bottom) (omega arith)))) where
          shifted : (m x : ℕ) (xs : List ℕ) → 0 < m → drop m (x ∷ xs) ≡ drop (m - 1) xs
          shifted zero x xs h = absurd (omega arith)
          shifted (suc m) x xs h = let z : m ≡ suc m - 1 = omega arith in ap (λ i. drop i xs) z

  -- There is no bottom, and the page of the slot that the rule names is driven out.
  module _ (low : r.slot o.told k < length o.top) (once : occ (get_or o.top (r.slot o.told k) 0) o.top ≤ 1) (bare : o.bottom ≡ []) where
    abbrev out : ℕ
    out = get_or o.top (r.slot o.told k) 0

    pub slot_drives : evicted r k 0 p o ≡ out ∷ []
    slot_drives = rw (not_there, le-ltb (length o.top) k full, bare) refl

    renamed_none : (xs : List ℕ) → occ out xs ≡ 0 → map (replacing out p) xs ≡ xs
    renamed_none [] h = refl
    renamed_none (x ∷ xs) h = elim (eqb_cases x out) [
      | inl y ↦ absurd (omega (arith, rw y.1 at h))
      | inr m ↦ rw m.1 (ap (λ ys. x ∷ ys) (renamed_none xs (omega (arith, rw m.1 at h))))
    ]

    renamed_at : (xs : List ℕ) (i : ℕ) → i < length xs → get_or xs i 0 ≡ out → occ out xs ≤ 1 → map (replacing out p) xs ≡ set xs i p
    renamed_at [] i h e c = absurd (omega arith)
    renamed_at (x ∷ xs) zero h e c = rw (eq-eqb x out e) (ap (λ ys. p ∷ ys) (renamed_none xs (omega (arith, rw (eq-eqb x out e) at c))))
    renamed_at (x ∷ xs) (suc i) h e c = elim (eqb_cases x out) [
      | inl y ↦ absurd (omega (arith, rw y.1 at c, rw e at (slot_in xs i (omega arith))))
      | inr m ↦ rw m.1 (ap (λ ys. x ∷ ys) (renamed_at xs i (omega arith) e (omega (arith, rw m.1 at c))))
    ]

    pub slot_named : named (replacing out p) (asked r k o) ≡ cut 0 (used r k p o)
    slot_named = rw (not_there, le-ltb (length o.top) k full, bare) (same_order _ _ _ _ _ _ (renamed_at o.top (r.slot o.told k) low refl once) refl refl)
