-- What the writes of a removal and of a push do to a list that links hold.
use Rattle.std.proofs.Common.{◌≡◌, ℕ, ◌+◌, ◌<◌, ◌≤◌, eqb, List, [], ◌∷◌, ◌++◌, map, length, get_or, set, Some, None, Option, sym, refl, ap, ◌∙◌, inl, inr, arith, get_or-set_same}
use Rattle.std.proofs.lemmas.List.{length-set, length-map, get_or-map}
use Rattle.lists.specs.Weights.{one, occ, Once}
use Rattle.lists.proofs.Weights.{eqb_cases, weigh-append}
use Rattle.links.specs.Segs.{head_of, end_of, Seg}
use Rattle.links.specs.Holds.{Holds}
use Rattle.links.specs.Writes.{set_link, end_link}
use Rattle.links.proofs.Segs.{head_occ, last_occ, end_append, end_link_end, set_link_other, seg_left, seg_right, seg_join, seg_next_kept, seg_prev_kept, seg_new_end, seg_new_start}

-- The same list, where each part is known under another name.
pub holds_as : {ns ps ns' ps' : List (Option ℕ)} {n n' : ℕ} {first last first' last' : Option ℕ} {bs : List ℕ} → ns' ≡ ns → ps' ≡ ps → n' ≡ n → first' ≡ first → last' ≡ last → Holds ns ps n first last bs → Holds ns' ps' n' first' last' bs
holds_as a b c d e h = rw (a, b, c, d, e) h

-- The first end once p is taken out.
first_after : (first : Option ℕ) (xs ys : List ℕ) (p : ℕ) → first ≡ head_of (xs ++ (p ∷ ys)) None → end_link first (end_of None xs) (head_of ys None) ≡ head_of (xs ++ ys) None
first_after first [] ys p e = refl
first_after first (x ∷ xs) ys p e = end_link_end first x xs (head_of ys None) ∙ e

-- The last end once p is taken out.
last_after : (last : Option ℕ) (xs ys : List ℕ) (p : ℕ) → last ≡ end_of None (xs ++ (p ∷ ys)) → end_link last (head_of ys None) (end_of None xs) ≡ end_of None (xs ++ ys)
last_after last xs [] p e = sym (end_append None xs [])
last_after last xs (y ∷ ys) p e = e ∙ end_append None xs (p ∷ y ∷ ys) ∙ sym (end_append None xs (y ∷ ys))

module _ (ns ps : List (Option ℕ)) (n : ℕ) (to-ns : n ≤ length ns) (to-ps : n ≤ length ps) where
  module _ (xs ys : List ℕ) (p : ℕ) (o : Once (xs ++ (p ∷ ys))) where
    -- What stands in one part of the list does not stand in the other.
    sides : (q : ℕ) → occ q xs + occ q ys ≤ 1
    sides q = omega (arith, o q, weigh-append (λ x. one (eqb x q)) xs (p ∷ ys))

    -- The two sides of p, joined over it.
    joined : Seg ns ps n None (xs ++ (p ∷ ys)) None → Seg (set_link ns (end_of None xs) (head_of ys None)) (set_link ps (head_of ys None) (end_of None xs)) n None (xs ++ ys) None
    joined s = seg_join ns₁ ps₁ n None xs ys None left right where
      ns₁ : List (Option ℕ)
      ns₁ = set_link ns (end_of None xs) (head_of ys None)

      ps₁ : List (Option ℕ)
      ps₁ = set_link ps (head_of ys None) (end_of None xs)

      left : Seg ns₁ ps₁ n None xs (head_of ys None)
      left =
          seg_prev_kept ns₁ ps n (head_of ys None) (end_of None xs) None xs (head_of ys None)
          (λ q e. omega (arith, sides q, head_occ ys q e))
          (seg_new_end ns ps n to-ns xs (Some p) (head_of ys None) (λ q. omega (arith, sides q)) (seg_left ns ps n None xs (p ∷ ys) None s))

      right : Seg ns₁ ps₁ n (end_of None xs) ys None
      right =
          seg_next_kept ns ps₁ n (end_of None xs) (head_of ys None) (end_of None xs) ys None
          (λ q e. omega (arith, sides q, last_occ xs q e))
          (seg_new_start ns ps n to-ps ys (Some p) (end_of None xs) (λ q. omega (arith, sides q)) (seg_right ns ps n None xs (p ∷ ys) None s).3)

    pub taken_out : (first last : Option ℕ) → Holds ns ps n first last (xs ++ (p ∷ ys)) → Holds (set_link ns (end_of None xs) (head_of ys None)) (set_link ps (head_of ys None) (end_of None xs)) n (end_link first (end_of None xs) (head_of ys None)) (end_link last (head_of ys None) (end_of None xs)) (xs ++ ys)
    taken_out first last h =
        record {
          first_is = first_after first xs ys p h.first_is;
          last_is = last_after last xs ys p h.last_is;
          linked = joined h.linked;
          once = λ q. omega (arith, sides q, weigh-append (λ x. one (eqb x q)) xs ys);
        }

  last_pushed : (last : Option ℕ) (p : ℕ) (bs : List ℕ) → last ≡ end_of None bs → end_link last (head_of bs None) (Some p) ≡ end_of (Some p) bs
  last_pushed last p [] e = refl
  last_pushed last p (b ∷ bs) e = e

  once_pushed : (p : ℕ) (bs : List ℕ) → occ p bs ≡ 0 → Once bs → Once (p ∷ bs)
  once_pushed p bs out o q = elim (eqb_cases p q) [
    | inl e ↦ rw e.1 (omega (arith, ap (λ x. occ x bs) (sym e.0) ∙ out))
    | inr m ↦ rw m.1 (omega (arith, o q))
  ]

  seg_pushed : (p : ℕ) (bs : List ℕ) → p < n → occ p bs ≡ 0 → Once bs → Seg ns ps n None bs None → Seg (set ns p (head_of bs None)) (set_link (set ps p None) (head_of bs None) (Some p)) n None (p ∷ bs) None
  seg_pushed p bs lt out o s = (
    lt,
    set_link_other ps₁ (head_of bs None) (Some p) p (λ e. omega (arith, head_occ bs p e)) ∙ get_or-set_same ps p None None (omega arith),
    get_or-set_same ns p (head_of bs None) None (omega arith),
    seg_new_start ns₁ ps₁ n (omega (arith, length-set ps p None)) bs None (Some p) o
        (seg_prev_kept ns₁ ps n (Some p) None None bs None alone (seg_next_kept ns ps n (Some p) (head_of bs None) None bs None alone s)),
  ) where
    ns₁ : List (Option ℕ)
    ns₁ = set ns p (head_of bs None)

    ps₁ : List (Option ℕ)
    ps₁ = set ps p None

    alone : (q : ℕ) → Some p ≡ Some q → occ q bs ≡ 0
    alone q e = let same : p ≡ q = cc in rw (← same) out

  pub pushed : (first last : Option ℕ) (p : ℕ) (bs : List ℕ) → Holds ns ps n first last bs → p < n → occ p bs ≡ 0 → Holds (set ns p first) (set_link (set ps p None) first (Some p)) n (Some p) (end_link last first (Some p)) (p ∷ bs)
  pushed first last p bs h lt out = rw h.first_is (record {
    first_is = refl;
    last_is = last_pushed last p bs h.last_is;
    linked = seg_pushed p bs lt out h.once h.linked;
    once = once_pushed p bs out h.once;
  })

-- What a removal's calls promise, taken together.
module _ {X : Type 0} (after before : X → Option ℕ) (t t' : List X) (d d' : X) (p : ℕ) (first last first' last' b a : Option ℕ) where
  pub removes : length t' ≡ length t → b ≡ before (get_or t p d) → a ≡ after (get_or t p d')
      → map after t' ≡ set_link (map after t) b a → map before t' ≡ set_link (map before t) a b → first' ≡ end_link first b a → last' ≡ end_link last a b
      → (xs ys : List ℕ) → Holds (map after t) (map before t) (length t) first last (xs ++ (p ∷ ys)) → Holds (map after t') (map before t') (length t') first' last' (xs ++ ys)
  removes len b-is a-is after' before' f l xs ys h =
      holds_as (after' ∙ links) (before' ∙ backs) len (f ∙ begins) (l ∙ ends)
      (taken_out (map after t) (map before t) (length t) (omega (arith, length-map t after)) (omega (arith, length-map t before)) xs ys p h.once first last h) where
        here : Seg (map after t) (map before t) (length t) (end_of None xs) (p ∷ ys) None
        here = seg_right (map after t) (map before t) (length t) None xs (p ∷ ys) None h.linked

        b_end : b ≡ end_of None xs
        b_end = b-is ∙ sym (get_or-map before t p d None here.0) ∙ here.1

        a_head : a ≡ head_of ys None
        a_head = a-is ∙ sym (get_or-map after t p d' None here.0) ∙ here.2

        links : set_link (map after t) b a ≡ set_link (map after t) (end_of None xs) (head_of ys None)
        links = rw (b_end, a_head)

        backs : set_link (map before t) a b ≡ set_link (map before t) (head_of ys None) (end_of None xs)
        backs = rw (b_end, a_head)

        begins : end_link first b a ≡ end_link first (end_of None xs) (head_of ys None)
        begins = rw (b_end, a_head)

        ends : end_link last a b ≡ end_link last (head_of ys None) (end_of None xs)
        ends = rw (b_end, a_head)

-- A removal of what lies past the table: no list has it.
pub removes_none : (ns ps : List (Option ℕ)) (n : ℕ) (first last : Option ℕ) (p : ℕ) → n ≤ p → {G : Type 0} (xs ys : List ℕ) → Holds ns ps n first last (xs ++ (p ∷ ys)) → G
removes_none ns ps n first last p le xs ys h = absurd (omega (arith, (seg_right ns ps n None xs (p ∷ ys) None h.linked).0))
