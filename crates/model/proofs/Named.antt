-- A use in an order of frames is the use of the page in the order of pages.
use Rattle.std.proofs.Common.{◌≡◌, ℕ, ◌<◌, ◌≤◌, ltb, List, ◌∷◌, map, length, get_or, sym, refl, ap, ◌∙◌, inl, inr}
use Rattle.std.proofs.lemmas.List.{length-map, map_push, map-set, get_or-map}
use Rattle.lists.specs.Weights.{occ, has}
use Rattle.lists.specs.Places.{without}
use Rattle.lists.specs.Renamed.{Tells}
use Rattle.lists.proofs.Weights.{ltb_cases}
use Rattle.lists.proofs.Renamed.{occ_renamed, without_renamed, same_names}
use Rattle.model.specs.Order.{Rule, Order, entered, exchanged, used}
use Rattle.model.specs.Named.{named}

-- Orders are equal part by part.
pub same_order : (t t' b b' : List ℕ) (s s' : ℕ) → t ≡ t' → b ≡ b' → s ≡ s' → ◌≡◌ {A = Order} (record { top = t; bottom = b; told = s }) (record { top = t'; bottom = b'; told = s' })
same_order t t' b b' s s' e f g =
    ap (λ x. record { top = x; bottom = b; told = s }) e ∙ (ap (λ x. record { top = t'; bottom = x; told = s }) f ∙ ap (λ x. record { top = t'; bottom = b'; told = x }) g)

module _ (f : ℕ → ℕ) (r : Rule) (k i : ℕ) (o : Order) (tops : Tells f i o.top) (bottoms : Tells f i o.bottom) where
  pub has_named : has (f i) (map f o.top) ≡ has i o.top
  has_named = ap (ltb 0) (occ_renamed f i o.top tops)

  named-entered : named f (entered i o) ≡ entered (f i) (named f o)
  named-entered = same_order _ _ _ _ _ _ (map_push f o.top i) refl refl

  named-exchanged : r.slot o.told k < length o.top → named f (exchanged r k i o) ≡ exchanged r k (f i) (named f o)
  named-exchanged h = same_order _ _ _ _ _ _
      (map-set f o.top (r.slot o.told k) i)
      (ap (λ x. x ∷ map f (without i o.bottom)) (sym (get_or-map f o.top (r.slot o.told k) 0 0 h)) ∙ ap (λ xs. get_or (map f o.top) (r.slot o.told k) 0 ∷ xs) (without_renamed f i o.bottom bottoms))
      refl

  pub used-named : (k ≤ length o.top → r.slot o.told k < length o.top) → named f (used r k i o) ≡ used r k (f i) (named f o)
  used-named slots = elim (ltb_cases 0 (occ i o.top)) [
    | inl h ↦ rw (h.1, has_named ∙ h.1) refl
    | inr h ↦ rw (h.1, has_named ∙ h.1, length-map o.top f) (elim (ltb_cases (length o.top) k) [
      | inl y ↦ rw y.1 named-entered
      | inr m ↦ rw m.1 (named-exchanged (slots m.0))
    ])
  ]

-- Two ways of naming that agree on the frames that are in it name an order alike.
pub named_alike : (f g : ℕ → ℕ) (o : Order) → ((j : ℕ) → 0 < occ j o.top → f j ≡ g j) → ((j : ℕ) → 0 < occ j o.bottom → f j ≡ g j) → named f o ≡ named g o
named_alike f g o t b = same_order _ _ _ _ _ _ (same_names f g o.top t) (same_names f g o.bottom b) refl
