-- Laws of a list's parts: they split and join at ++, and writes elsewhere keep them.
use Rattle.std.proofs.Common.{◌≡◌, ℕ, ◌+◌, ◌<◌, ◌≤◌, ◌≢◌, List, [], ◌∷◌, ◌++◌, length, get_or, Some, None, Option, sym, refl, ap, ◌∙◌, inl, inr, arith, get_or-set_other, get_or-set_same}
use Rattle.std.proofs.lemmas.Bool.{eq-eqb, ne_eqb}
use Rattle.lists.specs.Weights.{occ, Once}
use Rattle.lists.proofs.Weights.{eqb_cases}
use Rattle.links.specs.Segs.{head_of, end_of, Seg}
use Rattle.links.specs.Writes.{set_link, end_link}

-- A number that stands in a list counts there.
pub occ_here : (b : ℕ) (bs : List ℕ) → occ b (b ∷ bs) ≡ 1 + occ b bs
occ_here b bs = rw (eq-eqb b b refl)

-- A number that does not stand in b ∷ bs is not b.
pub occ_apart : (q b : ℕ) (bs : List ℕ) → occ q (b ∷ bs) ≡ 0 → (b ≢ q) × (occ q bs ≡ 0)
occ_apart q b bs h = elim (eqb_cases b q) [
  | inl e ↦ absurd (omega (arith, rw e.1 at h))
  | inr m ↦ (m.0, omega (arith, rw m.1 at h))
]

-- A later part of a list without repeats has none either.
pub once_tail : (b : ℕ) (bs : List ℕ) → Once (b ∷ bs) → Once bs
once_tail b bs o q = omega (arith, o q)

-- The first of a list without repeats does not stand in its rest.
pub once_head : (b : ℕ) (bs : List ℕ) → Once (b ∷ bs) → occ b bs ≡ 0
once_head b bs o = omega (arith, o b, occ_here b bs)

-- The end of a list that is not empty stands in it.
pub end_occ : (c : ℕ) (xs : List ℕ) (q : ℕ) → end_of (Some c) xs ≡ Some q → 0 < occ q (c ∷ xs)
end_occ c [] q e = let same : c ≡ q = cc in rw same (omega (arith, occ_here q []))
end_occ c (x ∷ xs) q e = omega (arith, end_occ x xs q e)

-- The first of a list stands in it.
pub head_occ : (xs : List ℕ) (q : ℕ) → head_of xs None ≡ Some q → 0 < occ q xs
head_occ [] q e = let z : ◌≡◌ {A = ℕ} 0 1 = cc in absurd (omega arith)
head_occ (x ∷ xs) q e = let same : x ≡ q = cc in rw same (omega (arith, occ_here q xs))

-- The last of a list stands in it.
pub last_occ : (xs : List ℕ) (q : ℕ) → end_of None xs ≡ Some q → 0 < occ q xs
last_occ [] q e = let z : ◌≡◌ {A = ℕ} 0 1 = cc in absurd (omega arith)
last_occ (x ∷ xs) q e = end_occ x xs q e

pub end_append : (prev : Option ℕ) (xs ys : List ℕ) → end_of prev (xs ++ ys) ≡ end_of (end_of prev xs) ys
end_append prev [] ys = refl
end_append prev (x ∷ xs) ys = end_append (Some x) xs ys

pub end_link_end : (e : Option ℕ) (c : ℕ) (xs : List ℕ) (to : Option ℕ) → end_link e (end_of (Some c) xs) to ≡ e
end_link_end e c [] to = refl
end_link_end e c (x ∷ xs) to = end_link_end e x xs to

-- A write of one link leaves the others.
pub set_link_other : (ls : List (Option ℕ)) (at to : Option ℕ) (q : ℕ) → (at ≡ Some q → ⊥) → get_or (set_link ls at to) q None ≡ get_or ls q None
set_link_other ls None to q h = refl
set_link_other ls (Some b) to q h = let ne : q ≢ b = λ e. h (ap Some (sym e)) in rw get_or-set_other

module _ (ns ps : List (Option ℕ)) (n : ℕ) where
  pub seg_left : (prev : Option ℕ) (xs zs : List ℕ) (stop : Option ℕ) → Seg ns ps n prev (xs ++ zs) stop → Seg ns ps n prev xs (head_of zs stop)
  seg_left prev [] zs stop s = tt
  seg_left prev (x ∷ []) zs stop s = (s.0, s.1, s.2, tt)
  seg_left prev (x ∷ y ∷ xs) zs stop s = (s.0, s.1, s.2, seg_left (Some x) (y ∷ xs) zs stop s.3)

  pub seg_right : (prev : Option ℕ) (xs zs : List ℕ) (stop : Option ℕ) → Seg ns ps n prev (xs ++ zs) stop → Seg ns ps n (end_of prev xs) zs stop
  seg_right prev [] zs stop s = s
  seg_right prev (x ∷ xs) zs stop s = seg_right (Some x) xs zs stop s.3

  pub seg_join : (prev : Option ℕ) (xs zs : List ℕ) (stop : Option ℕ) → Seg ns ps n prev xs (head_of zs stop) → Seg ns ps n (end_of prev xs) zs stop → Seg ns ps n prev (xs ++ zs) stop
  seg_join prev [] zs stop s t = t
  seg_join prev (x ∷ []) zs stop s t = (s.0, s.1, s.2, t)
  seg_join prev (x ∷ y ∷ xs) zs stop s t = (s.0, s.1, s.2, seg_join (Some x) (y ∷ xs) zs stop s.3 t)

  -- Every number of a part is below n.
  pub seg_below : (prev : Option ℕ) (bs : List ℕ) (stop : Option ℕ) → Seg ns ps n prev bs stop → (q : ℕ) → n ≤ q → occ q bs ≡ 0
  seg_below prev [] stop s q h = refl
  seg_below prev (b ∷ bs) stop s q h =
      let ne : b ≡ q → ⊥ = λ e. omega (arith, s.0) in
      rw (ne_eqb b q ne) (omega (arith, seg_below (Some b) bs stop s.3 q h))

  -- A write to the links of what does not stand in a part leaves it as it is.
  pub seg_next_kept : (at to prev : Option ℕ) (bs : List ℕ) (stop : Option ℕ) → ((q : ℕ) → at ≡ Some q → occ q bs ≡ 0) → Seg ns ps n prev bs stop → Seg (set_link ns at to) ps n prev bs stop
  seg_next_kept at to prev [] stop out s = tt
  seg_next_kept at to prev (b ∷ bs) stop out s = (
    s.0,
    s.1,
    set_link_other ns at to b (λ e. (occ_apart b b bs (out b e)).0 refl) ∙ s.2,
    seg_next_kept at to (Some b) bs stop (λ q e. (occ_apart q b bs (out q e)).1) s.3,
  )

  pub seg_prev_kept : (at to prev : Option ℕ) (bs : List ℕ) (stop : Option ℕ) → ((q : ℕ) → at ≡ Some q → occ q bs ≡ 0) → Seg ns ps n prev bs stop → Seg ns (set_link ps at to) n prev bs stop
  seg_prev_kept at to prev [] stop out s = tt
  seg_prev_kept at to prev (b ∷ bs) stop out s = (
    s.0,
    set_link_other ps at to b (λ e. (occ_apart b b bs (out b e)).0 refl) ∙ s.1,
    s.2,
    seg_prev_kept at to (Some b) bs stop (λ q e. (occ_apart q b bs (out q e)).1) s.3,
  )

  -- A part that is not empty, with another link at its end.
  seg_end : n ≤ length ns → (prev : Option ℕ) (b : ℕ) (xs : List ℕ) (stop to : Option ℕ) → Once (b ∷ xs) → Seg ns ps n prev (b ∷ xs) stop → Seg (set_link ns (end_of (Some b) xs) to) ps n prev (b ∷ xs) to
  seg_end le prev b [] stop to o s =
      let lt : b < length ns = omega (arith, s.0) in (s.0, s.1, get_or-set_same ns b to None lt, tt)
  seg_end le prev b (c ∷ xs) stop to o s = (
    s.0,
    s.1,
    set_link_other ns (end_of (Some c) xs) to b (λ e. omega (arith, once_head b (c ∷ xs) o, end_occ c xs b e)) ∙ s.2,
    seg_end le (Some b) c xs stop to (once_tail b (c ∷ xs) o) s.3,
  )

  -- A part that begins a list, with another link at its end.
  pub seg_new_end : n ≤ length ns → (xs : List ℕ) (stop to : Option ℕ) → Once xs → Seg ns ps n None xs stop → Seg (set_link ns (end_of None xs) to) ps n None xs to
  seg_new_end le [] stop to o s = tt
  seg_new_end le (b ∷ xs) stop to o s = seg_end le None b xs stop to o s

  -- A part that ends a list, with another link at its beginning.
  pub seg_new_start : n ≤ length ps → (ys : List ℕ) (prev to : Option ℕ) → Once ys → Seg ns ps n prev ys None → Seg ns (set_link ps (head_of ys None) to) n to ys None
  seg_new_start le [] prev to o s = tt
  seg_new_start le (b ∷ ys) prev to o s =
      let lt : b < length ps = omega (arith, s.0) in
      (s.0, get_or-set_same ps b to None lt, s.2, seg_prev_kept (Some b) to (Some b) ys None alone s.3) where
        alone : (q : ℕ) → Some b ≡ Some q → occ q ys ≡ 0
        alone q e = let same : b ≡ q = cc in rw (← same) (once_head b ys o)
