-- The cases that were worked out by hand, from the steps.
use Rattle.std.proofs.Common.{◌≡◌, ℕ, ◌<◌, cond, eqb, [], ◌∷◌, refl, ap, inl, inr, zero-le, arith}
use Rattle.std.proofs.lemmas.Bool.{le-ltb}
use Rattle.lists.specs.Weights.{one, total}
use Rattle.lists.proofs.Weights.{eqb_cases}
use Rattle.lists.proofs.Totals.{total_same, total_zero, total_at}
use Rattle.model.specs.declared.UseKind.TheVariants.{Write}
use Rattle.model.specs.declared.Call.TheVariants.{Use}
use Rattle.model.specs.Order.{Rule}
use Rattle.model.specs.Windows.{is_open, over}
use Rattle.model.specs.Ledger.{unseen, shown_all}
use Rattle.model.specs.Rows.{wrapped, above}
use Rattle.agreement.specs.Cases.{MarkedCases, row_after, empty_row, twice, apart}

zeros : (n : ℕ) → total n (λ q. 0) ≡ 0
zeros n = total_zero (λ q. 0) n (λ q lt. refl)

no_calls : (r : Rule) (n k l told : ℕ) → row_after r n k told [] l ≡ empty_row
no_calls r n k l told = nothing (row_after r n k told [] l).evictions (row_after r n k told [] l).saves (omega arith) (omega (arith, zeros n)) where
  nothing : (e s : ℕ) → e ≡ 0 → s ≡ 0 → record { fetches = 0; faults = 0; reclaims = 0; evictions = e; saves = s; rate = 0 } ≡ empty_row
  nothing e s i j = rw (i, j) refl

twice_saves_once : (r : Rule) (n l told : ℕ) → 0 < n → (row_after r n 1 told twice l).saves ≡ 1
twice_saves_once r n l told pos = omega (arith, total_same (λ q. is_open ((shown_all r n 1 (unseen told) (Use Write 0 ∷ Use Write 0 ∷ [])).marks q)) (λ q. cond (eqb q 0) 1 0) n each, total_at (λ q. 1) 0 n pos, zeros n, ap one (le-ltb l 0 zero-le)) where
  each : (q : ℕ) → q < n → is_open ((shown_all r n 1 (unseen told) (Use Write 0 ∷ Use Write 0 ∷ [])).marks q) ≡ cond (eqb q 0) 1 0
  each q lt = elim (eqb_cases q 0) [ inl e ↦ rw e.1 refl | inr m ↦ rw m.1 refl ]

-- After a write, a read of another page and a write again, the one open window has the mark 0.
module _ (r : Rule) (n told : ℕ) (slots : (state : ℕ) → r.slot state 1 < 1) where
  slot_0 : (state : ℕ) → r.slot state 1 ≡ 0
  slot_0 state = omega (arith, slots state)

  apart_open : (l : ℕ) → total n (λ q. over l ((shown_all r n 1 (unseen told) apart).marks q)) ≡ 0
  apart_open l = total_zero (λ q. over l ((shown_all r n 1 (unseen told) apart).marks q)) n (λ q lt. elim (eqb_cases q 0) [ inl e ↦ rw (e.1, le-ltb l 0 zero-le) refl | inr m ↦ rw m.1 refl ])

  apart_ended : (shown_all r n 1 (unseen told) apart).ended ≡ 1 ∷ []
  apart_ended = rw (slot_0 told) refl

  apart_saves : (l : ℕ) → (row_after r n 1 told apart l).saves ≡ wrapped (above l (1 ∷ []))
  apart_saves l = omega (arith, apart_open l, ap (above l) apart_ended)

pub marked : MarkedCases
marked = record {
  sample_row_0 = refl;
  sample_row_1 = refl;
  sample_row_2 = refl;
  sample_row_3 = refl;
  no_calls = no_calls;
  lottery_of_2 = refl;
  lottery_of_3 = refl;
  twice_saves_once = twice_saves_once;
  apart_saves_once = λ r n told slots. apart_saves r n told slots 0;
  apart_saves_none = λ r n told slots. apart_saves r n told slots 1;
}
