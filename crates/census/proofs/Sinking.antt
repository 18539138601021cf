-- The open windows with a mark above l: those whose stored mark is, and those whose page has sunk below l since.
use Rattle.std.proofs.Common.{◌≡◌, ℕ, zero, suc, ◌+◌, ◌-◌, ◌<◌, ◌≤◌, max, Bool, false, cond, eqb, ltb, List, [], ◌∷◌, length, get_or, take, drop, Some, None, Option, sym, refl, ap, ◌∙◌, inl, inr, add-one, arith}
use Rattle.std.specs.List.{count_by}
use Rattle.std.proofs.lemmas.List.{get_or-map, take_all}
use Rattle.std.proofs.lemmas.List.Sums.{sum_by_more}
use Rattle.std.proofs.lemmas.Bool.{lt-ltb, le-ltb}
use Rattle.lists.specs.Weights.{occ, one, total, weigh}
use Rattle.lists.specs.Places.{place}
use Rattle.lists.proofs.Weights.{ltb_cases, weigh_parts}
use Rattle.lists.proofs.Totals.{total_add, total-occ}
use Rattle.lists.proofs.Places.{beyond}
use Rattle.links.specs.Chain.{Chain}
use Rattle.model.specs.Windows.{raised, over, shallow}
use Rattle.census.specs.declared.page.PageRecord.{PageRecord}
use Rattle.census.specs.Views.{marks, blank}
use Rattle.census.specs.Sinking.{shallow_at, Sinking}

-- Whether a window is open with a mark above l.
abbrev pub is_over : ℕ → Option ℕ → Bool
is_over l None = false
is_over l (Some m) = ltb l m

one_over : (l : ℕ) (m : Option ℕ) → over l m ≡ one (is_over l m)
one_over l None = refl
one_over l (Some m) = refl

-- The records whose mark is above l, counted one after the other and as a total over their places.
abbrev over_here : ℕ → PageRecord → Bool
over_here l r = is_over l r.mark

counted_over : (l : ℕ) (t : List PageRecord) (k : ℕ) → k ≤ length t → count_by (over_here l) (take k t) ≡ total k (λ q. over l (get_or (marks t) q None))
counted_over l t zero h = refl
counted_over l t (suc k) h =
    let low : k < length t = omega arith in
    let here : over l (get_or (marks t) k None) ≡ one (over_here l (get_or t k blank)) = ap (over l) (get_or-map (λ (r : PageRecord). r.mark) t k blank None low) ∙ one_over l (get_or t k blank).mark in
    rw (← add-one k) (sum_by_more (λ r. cond (over_here l r) 1 0) t k blank low ∙ omega (arith, counted_over l t k (omega arith), here))

pub count_over : (l : ℕ) (t : List PageRecord) → count_by (λ (r : PageRecord). is_over l r.mark) t ≡ total (length t) (λ q. over l (get_or (marks t) q None))
count_over l t = ap (count_by (over_here l)) (sym (take_all (length t) t (omega arith))) ∙ counted_over l t (length t) (omega arith)

module _ (links stored : List (Option ℕ)) (n l : ℕ) where
  nothing_left : (i sunk whole : ℕ) (rest : List ℕ) → length rest ≡ 0 → sunk + weigh (shallow_at l stored) (drop i rest) ≡ whole → sunk ≡ whole
  nothing_left zero sunk whole [] z g = omega (arith, g)
  nothing_left (suc i) sunk whole [] z g = omega (arith, g)
  nothing_left i sunk whole (x ∷ xs) z g = absurd (omega arith)

  ended : (at : Option ℕ) (rest : List ℕ) → at ≡ None → Chain links n at rest → length rest ≡ 0
  ended at [] e ch = refl
  ended at (x ∷ xs) e ch = let h = ch.0 in let z : ◌≡◌ {A = ℕ} 0 1 = cc (h, e) in absurd (omega arith)

  -- The walk ends where there is no link.
  pub sink_ends : (at : Option ℕ) (ahead sunk whole : ℕ) → at ≡ None → Sinking links stored n l at ahead sunk whole → sunk ≡ whole
  sink_ends at ahead sunk whole e s = nothing_left (l - ahead) sunk whole s.rest (ended at s.rest e s.chain) s.sums

  inside : (at : Option ℕ) (ahead b : ℕ) (rest : List ℕ) → at ≡ Some b → Chain links n at rest → ahead + length rest ≤ n → (ahead < n) × (b < n)
  inside at ahead b [] e ch f = let z : ◌≡◌ {A = ℕ} 0 1 = cc (ch, e) in absurd (omega arith)
  inside at ahead b (x ∷ xs) e ch f = let h = ch.0 in let same : x ≡ b = cc (h, e) in (omega arith, omega (arith, ch.1))

  pub sink_inside : (at : Option ℕ) (ahead b sunk whole : ℕ) → at ≡ Some b → Sinking links stored n l at ahead sunk whole → (ahead < n) × (b < n)
  sink_inside at ahead b sunk whole e s = inside at ahead b s.rest e s.chain s.fits

  -- one page of the walk
  counts_one : (ahead x : ℕ) (xs : List ℕ) → weigh (shallow_at l stored) (drop (l - ahead) (x ∷ xs)) ≡ cond (ltb ahead l) 0 (shallow_at l stored x) + weigh (shallow_at l stored) (drop (l - (ahead + 1)) xs)
  counts_one ahead x xs = elim (ltb_cases ahead l) [
    | inl y ↦ let z : l - ahead ≡ suc (l - (ahead + 1)) = omega (arith, y.0) in rw (y.1, z) (omega arith)
    | inr m ↦ let z : l - ahead ≡ 0 = omega (arith, m.0) in let w : l - (ahead + 1) ≡ 0 = omega (arith, m.0) in rw (m.1, z, w) refl
  ]

  moved : (at next : Option ℕ) (ahead b sunk here whole : ℕ) (rest : List ℕ) → at ≡ Some b → next ≡ get_or links b None → here ≡ cond (ltb ahead l) 0 (shallow_at l stored b) → Chain links n at rest → ahead + length rest ≤ n →
      sunk + weigh (shallow_at l stored) (drop (l - ahead) rest) ≡ whole → Sinking links stored n l next (ahead + 1) (sunk + here) whole
  moved at next ahead b sunk here whole [] e to hd ch f g = let z : ◌≡◌ {A = ℕ} 0 1 = cc (ch, e) in absurd (omega arith)
  moved at next ahead b sunk here whole (x ∷ xs) e to hd ch f g =
      let h = ch.0 in
      let same : x ≡ b = cc (h, e) in
      let there : next ≡ get_or links x None = rw same to in
      let found : here ≡ cond (ltb ahead l) 0 (shallow_at l stored x) = hd ∙ ap (λ i. cond (ltb ahead l) 0 (shallow_at l stored i)) (sym same) in
      record { rest = xs; chain = rw there ch.2; fits = omega arith; sums = omega (arith, g, counts_one ahead x xs, found) }

  pub sink_goes : (at next : Option ℕ) (ahead b sunk here whole : ℕ) → at ≡ Some b → next ≡ get_or links b None → here ≡ cond (ltb ahead l) 0 (shallow_at l stored b) → Sinking links stored n l at ahead sunk whole → Sinking links stored n l next (ahead + 1) (sunk + here) whole
  sink_goes at next ahead b sunk here whole e to hd s = moved at next ahead b sunk here whole s.rest e to hd s.chain s.fits s.sums

-- A mark raised to a depth is above l if it was, or if the page is behind the first l.
over-raised : (l q : ℕ) (bs : List ℕ) → occ q bs ≤ 1 → (m : Option ℕ) → over l (raised m (place q bs)) ≡ over l m + cond (shallow l m) (occ q (drop l bs)) 0
over-raised l q bs h None = refl
over-raised l q bs h (Some m) = elim (ltb_cases l m) [
  | inl y ↦ let z : l < max m (place q bs) = omega (arith, y.0) in rw (y.1, lt-ltb l (max m (place q bs)) z)
  | inr n ↦ rw n.1 (elim (ltb_cases l (place q bs)) [
    | inl y ↦ let z : l < max m (place q bs) = omega (arith, y.0) in rw (lt-ltb l (max m (place q bs)) z) (omega (arith, rw y.1 at (beyond l q bs h)))
    | inr k ↦ let z : max m (place q bs) ≤ l = omega (arith, n.0, k.0) in rw (le-ltb l (max m (place q bs)) z) (omega (arith, rw k.1 at (beyond l q bs h)))
  ])
]

pub open_above : (n l : ℕ) (stored : List (Option ℕ)) (bs : List ℕ) → ((q : ℕ) → occ q bs ≤ 1) → ((q : ℕ) → n ≤ q → occ q bs ≡ 0) →
    total n (λ q. over l (raised (get_or stored q None) (place q bs))) ≡ total n (λ q. over l (get_or stored q None)) + weigh (shallow_at l stored) (drop l bs)
open_above n l stored bs once below =
    total_add (λ q. over l (raised (get_or stored q None) (place q bs))) (λ q. over l (get_or stored q None)) (λ q. cond (shallow l (get_or stored q None)) (occ q (drop l bs)) 0) (λ q. over-raised l q bs (once q) (get_or stored q None)) n
    ∙ ap (λ i. total n (λ q. over l (get_or stored q None)) + i) (total-occ (λ q. shallow l (get_or stored q None)) n (drop l bs) behind) where
      behind : (q : ℕ) → n ≤ q → occ q (drop l bs) ≡ 0
      behind q h = omega (arith, below q h, weigh_parts (λ x. one (eqb x q)) l bs)
