-- What follows from links that hold a list.
use Rattle.std.proofs.Common.{◌≡◌, ℕ, ◌<◌, ◌≤◌, List, [], ◌∷◌, ◌++◌, length, get_or, Some, None, Option, refl, inl, inr, arith}
use Rattle.std.proofs.lemmas.Bool.{cases_lt, eq-eqb}
use Rattle.lists.specs.Weights.{occ}
use Rattle.lists.specs.Places.{without}
use Rattle.lists.proofs.Weights.{split_at, occ-without}
use Rattle.lists.proofs.Totals.{pigeons}
use Rattle.links.specs.Chain.{Chain}
use Rattle.links.specs.Segs.{head_of, Seg}
use Rattle.links.specs.Holds.{Holds}
use Rattle.links.proofs.Segs.{seg_below}

chained : (ns ps : List (Option ℕ)) (n : ℕ) (prev at : Option ℕ) (bs : List ℕ) → at ≡ head_of bs None → Seg ns ps n prev bs None → Chain ns n at bs
chained ns ps n prev at [] e s = e
chained ns ps n prev at (b ∷ bs) e s = (e, s.0, chained ns ps n (Some b) (get_or ns b None) bs s.2 s.3)

-- A list that links hold is what they give, followed from its first.
pub holds_chain : (ns ps : List (Option ℕ)) (n : ℕ) (first last : Option ℕ) (bs : List ℕ) → Holds ns ps n first last bs → Chain ns n first bs
holds_chain ns ps n first last bs h = chained ns ps n None first bs h.first_is h.linked

-- Every number in a list that links hold is below n.
pub holds_below : (ns ps : List (Option ℕ)) (n : ℕ) (first last : Option ℕ) (bs : List ℕ) → Holds ns ps n first last bs → (q : ℕ) → n ≤ q → occ q bs ≡ 0
holds_below ns ps n first last bs h = seg_below ns ps n None bs None h.linked

-- A list that links hold is no longer than the table.
pub holds_fits : (ns ps : List (Option ℕ)) (n : ℕ) (first last : Option ℕ) (bs : List ℕ) → Holds ns ps n first last bs → length bs ≤ n
holds_fits ns ps n first last bs h = pigeons n bs h.once (holds_below ns ps n first last bs h)

-- A number in a list that links hold is below n.
pub holds_member : (ns ps : List (Option ℕ)) (n : ℕ) (first last : Option ℕ) (p : ℕ) (bs : List ℕ) → Holds ns ps n first last bs → 0 < occ p bs → p < n
holds_member ns ps n first last p bs h y = elim (cases_lt p n) [
  | inl lt ↦ lt
  | inr le ↦ absurd (omega (arith, holds_below ns ps n first last bs h p le))
]

-- Once p is taken out of a list that links hold, it stands there no more.
pub holds_gone : (ns ps : List (Option ℕ)) (n : ℕ) (first last : Option ℕ) (p : ℕ) (bs : List ℕ) → Holds ns ps n first last bs → occ p (without p bs) ≡ 0
holds_gone ns ps n first last p bs h = rw (eq-eqb p p refl) at (occ-without p p bs (h.once p))

-- What a removal promises of each split, said of the list without p.
pub unlinked : (ns ps ns' ps' : List (Option ℕ)) (n n' : ℕ) (first last first' last' : Option ℕ) (p : ℕ) (bs : List ℕ) → ((xs ys : List ℕ) → Holds ns ps n first last (xs ++ (p ∷ ys)) → Holds ns' ps' n' first' last' (xs ++ ys)) → Holds ns ps n first last bs → 0 < occ p bs → Holds ns' ps' n' first' last' (without p bs)
unlinked ns ps ns' ps' n n' first last first' last' p bs list h y =
    let s = split_at p bs y in
    rw s.rest (list s.before s.after (rw s.is at h))
