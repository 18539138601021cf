-- The last of the bottom is taken out.
use Rattle.std.proofs.Common.{◌≡◌, ℕ, suc, ◌+◌, ◌-◌, ◌<◌, ◌≤◌, eqb, ◌≢◌, List, [], ◌∷◌, ◌++◌, length, get_or, take, set, Some, None, sym, refl, ap, ◌∙◌, inl, inr, append-nil, arith}
use Rattle.std.proofs.lemmas.List.{get_or-set_same, get_or-set_other}
use Rattle.std.proofs.lemmas.Bool.{eq-eqb, ne_eqb}
use Rattle.lists.specs.Weights.{one, occ}
use Rattle.lists.proofs.Weights.{eqb_cases, ltb_cases, weigh_push}
use Rattle.links.specs.declared.Part.{Part}
use Rattle.links.specs.declared.Part.TheVariants.{Unused}
use Rattle.links.specs.Segs.{end_of}
use Rattle.links.proofs.Segs.{last_occ}
use Rattle.links.proofs.Holding.{holds_member}
use Rattle.model.specs.Order.{Order}
use Rattle.model.specs.Sound.{Sound}
use Rattle.order.specs.declared.parts.TwoParts.{TwoParts}
use Rattle.order.specs.Views.{Views, LinkedAs}
use Rattle.order.specs.Stands.{part_of, Arranged, Stands}
use Rattle.order.specs.Steps.{without_last}
use Rattle.order.proofs.Standing.{same_part, none_part}

ends_at : (c e : ℕ) (xs : List ℕ) → end_of (Some c) xs ≡ Some e → take (length xs) (c ∷ xs) ++ e ∷ [] ≡ c ∷ xs
ends_at c e [] h = let same : c ≡ e = cc in rw same refl
ends_at c e (x ∷ xs) h = ap (λ ys. c ∷ ys) (ends_at x e xs h)

-- A list is all but its last, and then its last.
pub all_but_last : (e : ℕ) (bs : List ℕ) → end_of None bs ≡ Some e → take (length bs - 1) bs ++ e ∷ [] ≡ bs
all_but_last e [] h = let z : ◌≡◌ {A = ℕ} 0 1 = cc in absurd (omega arith)
all_but_last e (b ∷ bs) h = let n : suc (length bs) - 1 ≡ length bs = omega arith in rw n (ends_at b e bs h)

-- A list that ends nowhere is empty.
pub ends_nowhere : (b : ℕ) (bs : List ℕ) → end_of (Some b) bs ≡ None → ⊥
ends_nowhere b [] h = let z : ◌≡◌ {A = ℕ} 0 1 = cc in omega arith
ends_nowhere b (c ∷ bs) h = ends_nowhere c bs h

same_without : (bs : List ℕ) → end_of None bs ≡ None → bs ≡ take (length bs - 1) bs
same_without [] h = refl
same_without (b ∷ bs) h = absurd (ends_nowhere b bs h)

-- Nothing is taken out of an empty bottom.
pub none_dropped : {X : Type 0} (told : X → ℕ) (c : TwoParts X) (v : Views) (o : Order) → c.bottom.last ≡ None → Stands told c v o → Stands told c v (without_last o)
none_dropped told c v o e s =
    let same : take (length o.bottom - 1) o.bottom ≡ o.bottom = sym (same_without o.bottom (sym s.arranged.bottom_is.last_is ∙ e)) in
    rw same (record {
      arranged = record {
        sound = record { once = s.arranged.sound.once; fits = s.arranged.sound.fits; full = s.arranged.sound.full };
        top_is = s.arranged.top_is;
        bottom_is = s.arranged.bottom_is;
        parts_are = s.arranged.parts_are;
      };
      told_is = s.told_is;
    })

module _ {X : Type 0} (c : TwoParts X) (v : Views) (o : Order) (e : ℕ) (s : Arranged c v o) (last : c.bottom.last ≡ Some e) where
  ends : end_of None o.bottom ≡ Some e
  ends = sym s.bottom_is.last_is ∙ last

  split : take (length o.bottom - 1) o.bottom ++ e ∷ [] ≡ o.bottom
  split = all_but_last e o.bottom ends

  -- The last of the bottom is a record of the table.
  pub last_low : e < v.size
  last_low = holds_member v.nexts v.prevs v.size c.bottom.first c.bottom.last e o.bottom s.bottom_is (last_occ o.bottom e ends)

  counts : (q : ℕ) → occ q (take (length o.bottom - 1) o.bottom) + one (eqb e q) ≡ occ q o.bottom
  counts q = sym (weigh_push (λ x. one (eqb x q)) (take (length o.bottom - 1) o.bottom) e) ∙ ap (occ q) split

  at_most : (q : ℕ) → occ q o.top + occ q o.bottom ≤ 1
  at_most q = elim (ltb_cases q v.size) [
    | inl y ↦ omega (arith, rw y.1 at (s.sound.once q))
    | inr n ↦ omega (arith, rw n.1 at (s.sound.once q))
  ]

  self : one (eqb e e) ≡ 1
  self = rw (eq-eqb e e refl)

  other : (q : ℕ) → q ≢ e → one (eqb e q) ≡ 0
  other q ne = rw (ne_eqb e q (λ z. ne (sym z)))

  parts_dropped : (parts : List Part) → length v.parts ≡ v.size → parts ≡ set v.parts e Unused → (q : ℕ) → q < v.size → get_or parts q Unused ≡ part_of (without_last o) q
  parts_dropped parts sized p q h = rw p (elim (eqb_cases q e) [
    | inl y ↦ rw y.0 (get_or-set_same v.parts e Unused Unused (omega (arith, last_low)) ∙ none_part (occ e o.top) (occ e (take (length o.bottom - 1) o.bottom)) (omega (arith, at_most e, counts e, self)) (omega (arith, at_most e, counts e, self)))
    | inr n ↦ get_or-set_other v.parts e q Unused Unused n.0 ∙ (s.parts_are q h ∙ same_part (occ q o.top) (occ q o.top) (occ q o.bottom) (occ q (take (length o.bottom - 1) o.bottom)) refl (omega (arith, counts q, other q n.0)))
  ])

  sound_dropped : Sound v.size c.slots (without_last o)
  sound_dropped = record {
    once = λ q. omega (arith, s.sound.once q, counts q);
    fits = s.sound.fits;
    full = λ h. let none = s.sound.full h in rw none refl;
  }

-- The steps of a removal: the last is unlinked, and its record is noted as in no part.
pub last_dropped : {X : Type 0} (told : X → ℕ) (c c' : TwoParts X) (v v₁ v' : Views) (o : Order) (e : ℕ) →
    (s : Stands told c v o) → c.bottom.last ≡ Some e → length v.parts ≡ v.size → v₁.size ≡ v.size → v'.size ≡ v₁.size →
    ((xs ys : List ℕ) → LinkedAs v c.bottom (xs ++ (e ∷ ys)) → LinkedAs v₁ c'.bottom (xs ++ ys)) →
    v₁.parts ≡ v.parts → v'.nexts ≡ v₁.nexts → v'.prevs ≡ v₁.prevs → v'.parts ≡ set v₁.parts e Unused →
    c'.slots ≡ c.slots → c'.top ≡ c.top → told c'.rule ≡ told c.rule → Stands told c' v' (without_last o)
last_dropped told c c' v v₁ v' o e st last sized l₁ l₂ cuts a₁ ns ps a₂ sl to ru =
    let s = st.arranged in
    let front : List ℕ = take (length o.bottom - 1) o.bottom in
    let long : v'.size ≡ v.size = omega (arith, l₁, l₂) in
    let whole : LinkedAs v c.bottom (front ++ e ∷ []) = rw (split c v o e s last) s.bottom_is in
    let cut : LinkedAs v₁ c'.bottom front = rw append-nil at (cuts front [] whole) in
    record {
      arranged = record {
        sound = rw (long, sl) (sound_dropped c v o e s last);
        top_is = rw to s.top_is;
        bottom_is = rw (ns, ps, l₂) cut;
        parts_are = rw long (parts_dropped c v o e s last v'.parts sized (a₂ ∙ ap (λ xs. set xs e Unused) a₁));
      };
      told_is = ru ∙ st.told_is;
    }
