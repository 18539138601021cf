-- What one use does to an order without limit and to the same order cut after the first l of its bottom.
use Rattle.std.proofs.Common.{◌≡◌, ℕ, zero, suc, ◌+◌, ◌<◌, ◌≤◌, true, false, cond, eqb, ◌≢◌, ◌⊎◌, List, [], ◌∷◌, length, get_or, take, drop, sym, refl, ap, ◌∙◌, inl, inr, arith}
use Rattle.std.proofs.lemmas.List.{length-append, length-set, length-take, take-take, drop_all}
use Rattle.std.proofs.lemmas.Bool.{ne_eqb}
use Rattle.lists.specs.Weights.{one, occ}
use Rattle.lists.specs.Places.{without}
use Rattle.lists.proofs.Weights.{eqb_cases, ltb_cases, weigh_push, weigh-set, weigh_parts, weigh_ones, weigh-without, without_none, occ-without}
use Rattle.model.specs.Order.{Rule, Order, fresh, used}
use Rattle.model.specs.Sound.{Sound}
use Rattle.model.specs.Pager.{cut, holds, frames, fault, evicted}
use Rattle.model.proofs.Uses.{once_bottom}

pub length_without : (p : ℕ) (xs : List ℕ) → 0 < occ p xs → length (without p xs) + 1 ≡ length xs
length_without p xs h = omega (arith, weigh-without (λ x. 1) p xs h, weigh_ones xs, weigh_ones (without p xs))

-- The first n of a list without p depend on its first n + 1 alone.
first_without : (n p : ℕ) (bs : List ℕ) → take n (without p (take (suc n) bs)) ≡ take n (without p bs)
first_without zero p bs = refl
first_without (suc n) p [] = refl
first_without (suc n) p (b ∷ bs) = elim (eqb_cases b p) [
  | inl e ↦ rw e.1 (take-take (suc n) (suc n) bs (omega arith))
  | inr m ↦ rw m.1 (ap (λ xs. b ∷ xs) (first_without n p bs))
]

inclusion : (n p out : ℕ) (bs : List ℕ) → take n (out ∷ without p (take n bs)) ≡ take n (out ∷ without p bs)
inclusion zero p out bs = refl
inclusion (suc n) p out bs = ap (λ xs. out ∷ xs) (first_without n p bs)

drop_of_take : (l : ℕ) (bs : List ℕ) → drop l (take l bs) ≡ []
drop_of_take l bs = drop_all l (take l bs) (rw (length-take l bs) (omega arith))

pub take_nil : (l : ℕ) → take {A = ℕ} l [] ≡ []
take_nil zero = refl
take_nil (suc l) = refl

pub cut_fresh : (l told : ℕ) → cut l (fresh told) ≡ fresh told
cut_fresh l told = ap (λ bs. record { top = []; bottom = bs; told = told }) (take_nil l)

-- A cut order keeps what a sound order keeps.
pub sound_cut : (n k l : ℕ) (o : Order) → Sound n k o → Sound n k (cut l o)
sound_cut n k l o s = record {
  once = λ q. omega (arith, s.once q, weigh_parts (λ x. one (eqb x q)) l o.bottom);
  fits = s.fits;
  full = λ z. ap (take l) (s.full z) ∙ take_nil l;
}

-- A page has a frame or it has none.
pub holds_cases : (p : ℕ) (o : Order) → ((0 < frames p o) × (holds p o ≡ true)) ⊎ ((frames p o ≤ 0) × (holds p o ≡ false))
holds_cases p o = elim (ltb_cases 0 (occ p o.top)) [
  | inl h ↦ inl (omega (arith, h.0), rw h.1 refl)
  | inr h ↦ elim (ltb_cases 0 (occ p o.bottom)) [
    | inl y ↦ inl (omega (arith, y.0), rw (h.1, y.1) refl)
    | inr n ↦ inr (omega (arith, h.0, n.0), rw (h.1, n.1) refl)
  ]
]

module _ (r : Rule) (k l p : ℕ) (o : Order) where
  -- Cutting before the use or after it comes to the same.
  pub cut-used : cut l (used r k p (cut l o)) ≡ cut l (used r k p o)
  cut-used = elim (ltb_cases 0 (occ p o.top)) [
    | inl h ↦ rw (h.1, take-take l l o.bottom (omega arith))
    | inr h ↦ rw h.1 (elim (ltb_cases (length o.top) k) [
      | inl y ↦ rw (y.1, take-take l l o.bottom (omega arith))
      | inr m ↦ rw (m.1, inclusion l p (get_or o.top (r.slot o.told k) 0) o.bottom)
    ])
  ]

module _ (r : Rule) (k p : ℕ) (o : Order) where
  -- A fault takes one frame more, and no other use does.
  pub grown : (length o.top < k → o.bottom ≡ []) → length (used r k p o).top + length (used r k p o).bottom ≡ length o.top + length o.bottom + fault p o
  grown full = elim (ltb_cases 0 (occ p o.top)) [
    | inl h ↦ rw h.1 (omega arith)
    | inr h ↦ rw h.1 (elim (ltb_cases (length o.top) k) [
      | inl y ↦ rw (y.1, full y.0) (simp length-append (omega arith))
      | inr m ↦ rw m.1 (simp length-set (elim (ltb_cases 0 (occ p o.bottom)) [
        | inl b ↦ rw b.1 (omega (arith, length_without p o.bottom b.0))
        | inr b ↦ rw b.1 (omega (arith, ap length (without_none p o.bottom (omega (arith, b.0)))))
      ]))
    ])
  ]

module _ (r : Rule) (n k p : ℕ) (o : Order) (s : Sound n k o) (slots : r.slot o.told k < k) where
  -- No other page comes or goes where the bottom has no limit.
  pub others : (q : ℕ) → p ≢ q → occ q (used r k p o).top + occ q (used r k p o).bottom ≡ occ q o.top + occ q o.bottom
  others q ne = elim (ltb_cases 0 (occ p o.top)) [
    | inl h ↦ rw h.1 refl
    | inr h ↦ rw h.1 (elim (ltb_cases (length o.top) k) [
      | inl y ↦ rw y.1 (omega (arith, rw (ne_eqb p q ne) at (weigh_push (λ x. one (eqb x q)) o.top p)))
      | inr m ↦ rw m.1 (omega (arith, rw (ne_eqb p q ne) at (weigh-set (λ x. one (eqb x q)) o.top (r.slot o.told k) p (omega (arith, slots, m.0))), rw (ne_eqb p q ne) at (occ-without q p o.bottom (once_bottom s p))))
    ])
  ]

  -- Of the pages among the first l, those behind the first l after the use are those that it drives out of a bottom of at most l.
  pub moved : (l q : ℕ) → occ q (drop l o.bottom) ≡ 0 → occ q (drop l (used r k p o).bottom) ≡ occ q (drop l (used r k p (cut l o)).bottom)
  moved l q z = elim (ltb_cases 0 (occ p o.top)) [
    | inl h ↦ rw (h.1, drop_of_take l o.bottom) z
    | inr h ↦ rw h.1 (elim (ltb_cases (length o.top) k) [
      | inl y ↦ rw (y.1, drop_of_take l o.bottom) z
      | inr m ↦ rw m.1 (
          let out = get_or o.top (r.slot o.told k) 0 in
          let same : occ q (take l (out ∷ without p (take l o.bottom))) ≡ occ q (take l (out ∷ without p o.bottom)) = ap (occ q) (inclusion l p out o.bottom) in
          let a = occ-without q p o.bottom (once_bottom s p) in
          let b = occ-without q p (take l o.bottom) (once_bottom (sound_cut n k l o s) p) in
          let e : occ q o.bottom ≡ occ q (take l o.bottom) = omega (arith, weigh_parts (λ x. one (eqb x q)) l o.bottom) in
          let ab : occ q (without p o.bottom) ≡ occ q (without p (take l o.bottom)) = a ∙ ap (λ i. cond (eqb p q) 0 i) e ∙ sym b in
          omega (arith, weigh_parts (λ x. one (eqb x q)) l (out ∷ without p o.bottom), weigh_parts (λ x. one (eqb x q)) l (out ∷ without p (take l o.bottom))))
    ])
  ]

  -- The frames of another page after the use of a pager of bottom l, and those that it lost, are the frames before it.
  pub parted : (l q : ℕ) → p ≢ q → frames q (cut l (used r k p o)) + occ q (evicted r k l p o) ≡ frames q o
  parted l q ne = omega (arith, others q ne, weigh_parts (λ x. one (eqb x q)) l (used r k p o).bottom)
