-- The pager of bottom l against plain LRU with l + 1 frames, use by use.
use Rattle.std.proofs.Common.{◌≡◌, ℕ, suc, ◌+◌, ◌<◌, ◌≤◌, Bool, true, false, not, eqb, ◌⊎◌, List, [], ◌∷◌, length, take, sym, refl, ap, inl, inr, zero-le, add-one, arith}
use Rattle.lists.specs.Weights.{one, occ, has}
use Rattle.lists.specs.Places.{without}
use Rattle.lists.proofs.Weights.{eqb_cases, ltb_cases}
use Rattle.model.specs.declared.UseKind.{UseKind}
use Rattle.model.specs.declared.UseKind.TheVariants.{Read, Write}
use Rattle.model.specs.declared.Call.{Call}
use Rattle.model.specs.declared.Call.TheVariants.{Use, Settle}
use Rattle.model.specs.Order.{Rule, Order, fresh, used}
use Rattle.model.specs.Pager.{cut, fault, Pager, pager_fresh, pager_use, pager_settle, pager_run}
use Rattle.model.specs.Lru.{uses_of, lru_used, lru_faults_from, lru_faults}
use Rattle.model.proofs.Moves.{take_nil, cut_fresh, cut-used}
use Rattle.model.specs.Pager.{frames}
use Rattle.model.proofs.Moves.{holds_cases}
use Rattle.agreement.proofs.Recency.{Recent, recent_used}
use Rattle.agreement.proofs.Plain.{Plain, plain_fresh, plain_used}

-- LRU faults at most once in each call.
pub lru_few : (m : ℕ) (past held : List ℕ) (calls : List Call) → lru_faults_from m past held (uses_of calls) ≤ length calls
lru_few m past held [] = zero-le
lru_few m past held (Use kind p ∷ calls) = omega (arith, lru_few m (p ∷ past) (lru_used m past p held) calls, most (has p held)) where
  most : (t : Bool) → one (not t) ≤ 1
  most true = omega arith
  most false = omega arith
lru_few m past held (Settle ∷ calls) = omega (arith, lru_few m past held calls)

-- With one slot, the top before the bottom is the order of last uses.
abbrev Single : Order → List ℕ → Type 0
Single o recent = ((o.top ≡ []) × (o.bottom ≡ []) × (recent ≡ [])) ⊎ ((y : ℕ) × (o.top ≡ y ∷ []) × (recent ≡ y ∷ o.bottom))

module _ (l p : ℕ) (o : Order) (past held recent : List ℕ) (c : Plain l past held recent) where
  -- A page that LRU holds has a frame.
  under : Recent o recent → fault p (cut l o) ≤ one (not (has p held))
  under h = elim (ltb_cases 0 (occ p held)) [
    | inl y ↦ rw y.1 (elim (holds_cases p (cut l o)) [
      | inl z ↦ rw z.1 (omega arith)
      | inr z ↦ absurd (omega (arith, z.0, h l p (omega (arith, y.0, c.same (λ x. one (eqb x p))))))
    ])
    | inr m ↦ rw m.1 (elim (holds_cases p (cut l o)) [ inl z ↦ rw z.1 zero-le | inr z ↦ rw z.1 (omega arith) ])
  ]

  -- With one slot, each holds what the other holds.
  single_frames : Single o recent → frames p (cut l o) ≡ occ p held
  single_frames (inl e) = rw (e.0, e.1) (omega (arith, ap (λ bs. occ p (take (suc l) bs)) e.2, c.same (λ x. one (eqb x p)), ap (occ p) (take_nil l)))
  single_frames (inr e) = rw e.1 (omega (arith, ap (λ bs. occ p (take (suc l) bs)) e.2, c.same (λ x. one (eqb x p))))

  level : Single o recent → fault p (cut l o) ≡ one (not (has p held))
  level h = let e = single_frames h in elim (holds_cases p (cut l o)) [
    | inl z ↦ rw (z.1, ← e) (elim (ltb_cases 0 (frames p (cut l o))) [ inl y ↦ rw y.1 refl | inr m ↦ absurd (omega (arith, m.0, z.0)) ])
    | inr z ↦ rw (z.1, ← e) (elim (ltb_cases 0 (frames p (cut l o))) [ inl y ↦ absurd (omega (arith, y.0, z.0)) | inr m ↦ rw m.1 refl ])
  ]

single_used : (r : Rule) (k : ℕ) → k ≡ 1 → (p : ℕ) (o : Order) (recent : List ℕ) → r.slot o.told k < k → Single o recent → Single (used r k p o) (p ∷ without p recent)
single_used r k i p o recent slots (inl e) = rw (i, e.0, e.1, e.2) (inr (p, refl, refl))
single_used r k i p o recent slots (inr e) = let z : r.slot o.told k ≡ 0 = omega arith in elim (eqb_cases e.0 p) [
  | inl y ↦ rw (e.1, e.2, y.1) (inr (e.0, refl, ap (λ x. x ∷ o.bottom) (sym y.0)))
  | inr m ↦ rw (e.1, e.2, m.1, z, i) (inr (p, refl, refl))
]

module _ (r : Rule) (n k l : ℕ) (slots : (state : ℕ) → r.slot state k < k) where
  -- Both kinds of use move the same, and fault the same.
  use_order : (kind : UseKind) (p : ℕ) (s : Pager) (o : Order) → s.order ≡ cut l o → (pager_use r k l kind p s).order ≡ cut l (used r k p o)
  use_order Read p s o e = rw e (cut-used r k l p o)
  use_order Write p s o e = rw e (cut-used r k l p o)

  use_faults : (kind : UseKind) (p : ℕ) (s : Pager) (o : Order) → s.order ≡ cut l o → (pager_use r k l kind p s).faults ≡ s.faults + fault p (cut l o)
  use_faults Read p s o e = rw e refl
  use_faults Write p s o e = rw e refl

  pub under_run : (s : Pager) (o : Order) → s.order ≡ cut l o → (past held recent : List ℕ) → Plain l past held recent → Recent o recent → (calls : List Call) → (pager_run r n k l s calls).faults ≤ s.faults + lru_faults_from (suc l) past held (uses_of calls)
  under_run s o e past held recent c h [] = omega arith
  under_run s o e past held recent c h (Use kind p ∷ calls) = omega (arith, use_faults kind p s o e, under l p o past held recent c h, under_run (pager_use r k l kind p s) (used r k p o) (use_order kind p s o e) (p ∷ past) (lru_used (suc l) past p held) (p ∷ without p recent) (plain_used l past held recent c p) (recent_used r k p o recent (slots o.told) h) calls)
  under_run s o e past held recent c h (Settle ∷ calls) = under_run (pager_settle n s) o e past held recent c h calls

  pub level_run : k ≡ 1 → (s : Pager) (o : Order) → s.order ≡ cut l o → (past held recent : List ℕ) → Plain l past held recent → Single o recent → (calls : List Call) → (pager_run r n k l s calls).faults ≡ s.faults + lru_faults_from (suc l) past held (uses_of calls)
  level_run i s o e past held recent c h [] = omega arith
  level_run i s o e past held recent c h (Use kind p ∷ calls) = omega (arith, use_faults kind p s o e, level l p o past held recent c h, level_run i (pager_use r k l kind p s) (used r k p o) (use_order kind p s o e) (p ∷ past) (lru_used (suc l) past p held) (p ∷ without p recent) (plain_used l past held recent c p) (single_used r k i p o recent (slots o.told) h) calls)
  level_run i s o e past held recent c h (Settle ∷ calls) = level_run i (pager_settle n s) o e past held recent c h calls

  -- From a fresh pager.
  pub under_lru : (told : ℕ) (calls : List Call) → (pager_run r n k l (pager_fresh told) calls).faults ≤ lru_faults (l + 1) calls
  under_lru told calls = rw (add-one l) (omega (arith, under_run (pager_fresh told) (fresh told) (sym (cut_fresh l told)) [] [] [] (plain_fresh l) (λ j q h. absurd (omega arith)) calls))

  pub level_lru : k ≡ 1 → (told : ℕ) (calls : List Call) → (pager_run r n k l (pager_fresh told) calls).faults ≡ lru_faults (l + 1) calls
  level_lru i told calls = rw (add-one l) (omega (arith, level_run i (pager_fresh told) (fresh told) (sym (cut_fresh l told)) [] [] [] (plain_fresh l) (inl (refl, refl, refl)) calls))
