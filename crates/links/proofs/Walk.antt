-- One step of a walk along the links, and its ends.
use Rattle.std.proofs.Common.{◌≡◌, ℕ, zero, suc, ◌+◌, ◌-◌, ◌<◌, ◌≤◌, ◌≢◌, List, [], ◌∷◌, map, length, get_or, Some, None, Option, sym, refl, ap, ◌∙◌, add-one, inl, inr, arith}
use Rattle.std.proofs.lemmas.List.{get_or-map}
use Rattle.std.proofs.lemmas.Bool.{cases_lt, lt-ltb, le-ltb, eq-eqb, ne_eqb}
use Rattle.lists.specs.Weights.{occ}
use Rattle.lists.specs.Places.{place_from, place}
use Rattle.lists.proofs.Places.{place_some, place_none}
use Rattle.links.specs.Chain.{Chain}
use Rattle.links.specs.Stepped.{stepped}
use Rattle.links.specs.PlaceIn.{place_in}
use Rattle.links.specs.Left.{Left}

-- What is read from a record of the table is that of the table's view.
pub link_read : {X Y : Type 0} (f : X → Y) (t : List X) (b : ℕ) (x : X) (e found : Y) → b < length t → x ≡ get_or t b x → found ≡ f x → found ≡ get_or (map f t) b e
link_read f t b x e found lt is to = to ∙ ap f is ∙ sym (get_or-map f t b x e lt)

-- One step more, from where the steps so far have led.
stepped_suc : (links : List (Option ℕ)) (k : ℕ) (at : Option ℕ) (b : ℕ) → stepped links k at ≡ Some b → stepped links (suc k) at ≡ get_or links b None
stepped_suc links zero None b e = let z : ◌≡◌ {A = ℕ} 0 1 = cc in absurd (omega arith)
stepped_suc links zero (Some a) b e = let same : a ≡ b = cc in rw same
stepped_suc links (suc k) None b e = let z : ◌≡◌ {A = ℕ} 0 1 = cc in absurd (omega arith)
stepped_suc links (suc k) (Some a) b e = stepped_suc links k (get_or links a None) b e

pub stepped_more : (links : List (Option ℕ)) (k : ℕ) (at here next : Option ℕ) (b : ℕ) → stepped links k at ≡ here → here ≡ Some b → next ≡ get_or links b None → stepped links (k + 1) at ≡ next
stepped_more links k at here next b e h to = rw add-one (stepped_suc links k at b (e ∙ h) ∙ sym to)

-- The steps before the last counted one led to p.
pub stepped_met : (links : List (Option ℕ)) (k : ℕ) (at here : Option ℕ) (p b : ℕ) → stepped links k at ≡ here → here ≡ Some b → b ≡ p → stepped links (k + 1 - 1) at ≡ Some p
stepped_met links k at here p b e h same = let back : k + 1 - 1 ≡ k = omega arith in rw back (e ∙ h ∙ ap Some same)

module _ (links : List (Option ℕ)) (n p : ℕ) where
  -- A place of 0 is none.
  place_out : (bs : List ℕ) → 0 ≡ place p bs → None ≡ place_in p bs
  place_out bs e = elim (cases_lt 0 (occ p bs)) [
    | inl y ↦ absurd (omega (arith, place_some 0 p bs y))
    | inr n ↦ rw (le-ltb 0 (occ p bs) n) refl
  ]

  -- A place above 0 is one in the list.
  place_there : (d : ℕ) (bs : List ℕ) → 0 < d → d ≡ place p bs → Some d ≡ place_in p bs
  place_there d bs h e = elim (cases_lt 0 (occ p bs)) [
    | inl y ↦ rw (lt-ltb 0 (occ p bs) y) (ap Some e)
    | inr n ↦ absurd (omega (arith, place_none 0 p bs (omega arith)))
  ]

  ended : (at : Option ℕ) (walked whole : ℕ) (rest : List ℕ) → at ≡ None → Chain links n at rest → place_from walked p rest ≡ whole → 0 ≡ whole
  ended at walked whole [] e ch g = g
  ended at walked whole (b ∷ bs) e ch g = let h = ch.0 in let z : ◌≡◌ {A = ℕ} 0 1 = cc (h, e) in absurd (omega arith)

  -- With no link, p was not in the list.
  pub walk_ends : (at : Option ℕ) (walked : ℕ) (bs : List ℕ) → at ≡ None → Left links n at walked p (place p bs) → None ≡ place_in p bs
  walk_ends at walked bs e l = place_out bs (ended at walked (place p bs) l.rest e l.chain l.gives)

  inside : (at : Option ℕ) (walked b : ℕ) (rest : List ℕ) → at ≡ Some b → Chain links n at rest → walked + length rest ≤ n → (walked < n) × (b < n)
  inside at walked b [] e ch f = let z : ◌≡◌ {A = ℕ} 0 1 = cc (ch, e) in absurd (omega arith)
  inside at walked b (x ∷ xs) e ch f = let h = ch.0 in let same : x ≡ b = cc (h, e) in (omega arith, omega (arith, ch.1))

  -- At a link, the walk has not gone too far and the link is within the table.
  pub walk_inside : (at : Option ℕ) (walked b whole : ℕ) → at ≡ Some b → Left links n at walked p whole → (walked < n) × (b < n)
  walk_inside at walked b whole e l = inside at walked b l.rest e l.chain l.fits

  met : (at : Option ℕ) (walked whole : ℕ) (rest : List ℕ) → at ≡ Some p → Chain links n at rest → place_from walked p rest ≡ whole → walked + 1 ≡ whole
  met at walked whole [] e ch g = let z : ◌≡◌ {A = ℕ} 0 1 = cc (ch, e) in absurd (omega arith)
  met at walked whole (x ∷ xs) e ch g = let h = ch.0 in let same : x ≡ p = cc (h, e) in rw (eq-eqb x p same) at g

  -- A link to p: the walk's next step is p's place.
  pub walk_meets : (at : Option ℕ) (walked : ℕ) (bs : List ℕ) → at ≡ Some p → Left links n at walked p (place p bs) → Some (walked + 1) ≡ place_in p bs
  walk_meets at walked bs e l = place_there (walked + 1) bs (omega arith) (met at walked (place p bs) l.rest e l.chain l.gives)

  moved : (at next : Option ℕ) (walked b whole : ℕ) (rest : List ℕ) → at ≡ Some b → next ≡ get_or links b None → b ≢ p → Chain links n at rest → walked + length rest ≤ n → place_from walked p rest ≡ whole → Left links n next (walked + 1) p whole
  moved at next walked b whole [] e to ne ch f g = let z : ◌≡◌ {A = ℕ} 0 1 = cc (ch, e) in absurd (omega arith)
  moved at next walked b whole (x ∷ xs) e to ne ch f g =
      let h = ch.0 in
      let same : x ≡ b = cc (h, e) in
      let other : x ≡ p → ⊥ = λ q. ne (sym same ∙ q) in
      let there : next ≡ get_or links x None = rw same to in
      record { rest = xs; chain = rw there ch.2; fits = omega arith; gives = rw (ne_eqb x p other) at g }

  -- A link to another than p: the walk goes on.
  pub walk_goes : (at next : Option ℕ) (walked b whole : ℕ) → at ≡ Some b → next ≡ get_or links b None → b ≢ p → Left links n at walked p whole → Left links n next (walked + 1) p whole
  walk_goes at next walked b whole e to ne l = moved at next walked b whole l.rest e to ne l.chain l.fits l.gives
