-- The list followed from its last: the exact reverse.
use Rattle.std.proofs.Common.{◌≡◌, ℕ, List, [], ◌∷◌, reverse, get_or, Some, None, Option, sym, refl, ap, ◌∙◌, arith}
use mathlib.Core.List.{reverse_aux}
use Rattle.links.specs.Chain.{Chain}
use Rattle.links.specs.Segs.{end_of, Seg}
use Rattle.links.specs.Holds.{Holds}

-- Links give one list at most.
pub chain_one : (links : List (Option ℕ)) (n : ℕ) (at : Option ℕ) (bs cs : List ℕ) → Chain links n at bs → Chain links n at cs → bs ≡ cs
chain_one links n at [] [] x y = refl
chain_one links n at [] (c ∷ cs) x y = let h = y.0 in let z : ◌≡◌ {A = ℕ} 0 1 = cc (x, h) in absurd (omega arith)
chain_one links n at (b ∷ bs) [] x y = let h = x.0 in let z : ◌≡◌ {A = ℕ} 0 1 = cc (y, h) in absurd (omega arith)
chain_one links n at (b ∷ bs) (c ∷ cs) x y =
    let e = x.0 in
    let f = y.0 in
    let same : c ≡ b = cc (e, f) in
    let tail = rw same at y.2 in
    ap (λ a. a ∷ bs) (sym same) ∙ ap (λ ds. c ∷ ds) (chain_one links n (get_or links b None) bs cs x.2 tail)

module _ (ns ps : List (Option ℕ)) (n : ℕ) where
  turned : (prev : Option ℕ) (bs done : List ℕ) (stop : Option ℕ) → Chain ps n prev done → Seg ns ps n prev bs stop → Chain ps n (end_of prev bs) (reverse_aux bs done)
  turned prev [] done stop ch s = ch
  turned prev (b ∷ bs) done stop ch s =
      let back = s.1 in turned (Some b) bs (b ∷ done) stop (refl, s.0, rw back ch) s.3

  -- Followed back from its last, a list that links hold is the exact reverse.
  pub holds_back : (first last : Option ℕ) (bs : List ℕ) → Holds ns ps n first last bs → Chain ps n last (reverse bs)
  holds_back first last bs h = rw h.last_is (turned None bs [] None refl h.linked)
