-- Two pagers that differ in their bottoms alone: both go with the same census.
use Rattle.std.proofs.Common.{◌≡◌, ℕ, ◌≤◌, true, not, eqb, ltb, take, Some, None, Option, sym, ap, ◌∙◌, inl, inr, arith}
use Rattle.std.proofs.lemmas.List.{take-take}
use Rattle.std.proofs.lemmas.Bool.{both_ways, le-ltb}
use Rattle.lists.specs.Weights.{one, occ}
use Rattle.lists.proofs.Weights.{ltb_cases, weigh_parts}
use Rattle.model.specs.Windows.{shallow}
use Rattle.model.specs.Ledger.{Ledger, unseen, shown_all}
use Rattle.model.specs.Pager.{cut, holds, Pager, pager_fresh, pager_run}
use Rattle.model.specs.Bytes.{accepted, shown_of}
use Rattle.agreement.specs.Bigger.{Contained, BiggerHolds}
use Rattle.model.proofs.Moves.{holds_cases}
use Rattle.agreement.proofs.Agrees.{Agrees, agrees_run, agrees_fresh}
use Rattle.agreement.proofs.Joined.{accepted_within, shown_fits}

module _ (n k l m : ℕ) (less : l ≤ m) (s t : Pager) (b : Ledger) (a : Agrees n k l s b) (c : Agrees n k m t b) where
  -- The first l of the bottom are among its first m.
  more : (q : ℕ) → occ q (take l b.order.bottom) ≤ occ q (take m b.order.bottom)
  more q = omega (arith, ap (occ q) (take-take l m b.order.bottom less), weigh_parts (λ x. one (eqb x q)) l (take m b.order.bottom))

  framed : (q : ℕ) → holds q s.order ≡ true → holds q t.order ≡ true
  framed q h = elim (holds_cases q (cut m b.order)) [
    | inl y ↦ rw c.order y.1
    | inr z ↦ elim (holds_cases q (cut l b.order)) [
      | inl y ↦ absurd (omega (arith, y.0, z.0, more q))
      | inr x ↦ absurd (both_ways (holds q (cut l b.order)) x.1 (ap (holds q) (sym a.order) ∙ h))
    ]
  ]

  dirtier : (w : Option ℕ) → shallow l w ≡ true → shallow m w ≡ true
  dirtier None h = h
  dirtier (Some d) h = elim (ltb_cases l d) [
    | inl y ↦ absurd (both_ways (not (ltb l d)) (ap not y.1) h)
    | inr z ↦ ap not (le-ltb m d (omega (arith, z.0)))
  ]

  both : Contained s t
  both = record { framed = framed; dirty = λ q h. c.dirty q ∙ dirtier (b.marks q) (sym (a.dirty q) ∙ h) }

pub bigger_holds : BiggerHolds
bigger_holds r n k l m told pos slots less deeds =
    let calls = shown_of (accepted n deeds) in
    let fits = shown_fits n (accepted n deeds) (accepted_within n deeds) in
    both n k l m less (pager_run r n k l (pager_fresh told) calls) (pager_run r n k m (pager_fresh told) calls) (shown_all r n k (unseen told) calls)
    (agrees_run r n k l slots (pager_fresh told) (unseen told) (agrees_fresh n k l told) calls fits)
    (agrees_run r n k m slots (pager_fresh told) (unseen told) (agrees_fresh n k m told) calls fits)
