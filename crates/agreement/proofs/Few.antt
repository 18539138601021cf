-- No row counts more faults or saves than there were calls, and none more than the row before it.
use Rattle.std.proofs.Common.{◌≡◌, ℕ, ◌+◌, ◌<◌, ◌≤◌, cond, eqb, ltb, List, [], ◌∷◌, length, Some, None, Option, sym, refl, inl, inr, zero-le, arith}
use Rattle.std.specs.List.{AllByRecursion}
use Rattle.std.proofs.lemmas.Bool.{lt-ltb, eq-eqb}
use Rattle.lists.specs.Weights.{one, total}
use Rattle.lists.specs.Places.{place}
use Rattle.lists.proofs.Weights.{eqb_cases, ltb_cases, weigh_ones, weigh_le}
use Rattle.lists.proofs.Totals.{total_same, total_zero, total_le, total_but}
use Rattle.model.specs.declared.UseKind.TheVariants.{Read, Write}
use Rattle.model.specs.declared.Call.{Call}
use Rattle.model.specs.declared.Call.TheVariants.{Use, Settle}
use Rattle.model.specs.Order.{Rule, used, depth_of}
use Rattle.model.specs.Windows.{raised, watched, is_open, over, noted, absent}
use Rattle.model.specs.Ledger.{Ledger, unseen, shown_read, shown_write, shown_settle, shown_all}
use Rattle.model.specs.Rows.{above, row_faults, row_saves}
use Rattle.agreement.proofs.Marks.{open_parts}
use Rattle.agreement.proofs.Agrees.{Fits}

one_falls : (l d : ℕ) → one (ltb (l + 1) d) ≤ one (ltb l d)
one_falls l d = elim (ltb_cases (l + 1) d) [
  | inl y ↦ rw (y.1, lt-ltb l d (omega (arith, y.0))) (omega arith)
  | inr m ↦ rw m.1 zero-le
]

over_falls : (l : ℕ) (m : Option ℕ) → over (l + 1) m ≤ over l m
over_falls l None = zero-le
over_falls l (Some m) = one_falls l m

above_falls : (l : ℕ) (ds : List ℕ) → above (l + 1) ds ≤ above l ds
above_falls l ds = weigh_le (λ d. one (ltb (l + 1) d)) (λ d. one (ltb l d)) (one_falls l) ds

pub faults_fall : (l : ℕ) (b : Ledger) → row_faults (l + 1) b ≤ row_faults l b
faults_fall l b = omega (arith, above_falls l b.reads, above_falls l b.writes)

pub saves_fall : (n l : ℕ) (b : Ledger) → row_saves n (l + 1) b ≤ row_saves n l b
saves_fall n l b = omega (arith, above_falls l b.ended, total_le (λ q. over (l + 1) (b.marks q)) (λ q. over l (b.marks q)) (λ q. over_falls l (b.marks q)) n)

-- A use is counted once, and a write opens one window.
pub record Few (n : ℕ) (b : Ledger) : Type 0 where
  pub uses : (b.new_reads + length b.reads) + (b.new_writes + length b.writes) ≤ b.calls
  pub windows : b.settled + (length b.ended + total n (λ q. is_open (b.marks q))) ≤ b.calls

counted_once : (d : Option ℕ) (xs : List ℕ) → absent d + length (noted d xs) ≡ length xs + 1
counted_once None xs = omega arith
counted_once (Some d) xs = omega arith

ended_once : (m : Option ℕ) (xs : List ℕ) → length (noted m xs) ≡ is_open m + length xs
ended_once None xs = omega arith
ended_once (Some m) xs = omega arith

open_raised : (m : Option ℕ) (d : ℕ) → is_open (raised m d) ≡ is_open m
open_raised None d = refl
open_raised (Some m) d = refl

module _ (r : Rule) (n k : ℕ) where
  few_read : (p : ℕ) (b : Ledger) → Few n b → Few n (shown_read r k p b)
  few_read p b f = record {
    uses = omega (arith, f.uses, counted_once (depth_of p b.order) b.reads);
    windows = omega (arith, f.windows, total_same (λ q. is_open (watched (used r k p b.order) b.marks q)) (λ q. is_open (b.marks q)) n (λ q lt. open_raised (b.marks q) (place q (used r k p b.order).bottom)));
  }

  few_write : (p : ℕ) → p < n → (b : Ledger) → Few n b → Few n (shown_write r k p b)
  few_write p low b f = record {
    uses = omega (arith, f.uses, counted_once (depth_of p b.order) b.writes);
    windows = omega (arith, f.windows, ended_once (b.marks p) b.ended, total_but (λ q. is_open (b.marks q)) rest p n low (λ q. refl), total_but new rest p n low kept, opened);
  } where
    new : ℕ → ℕ
    new = λ q. is_open (cond (eqb q p) (Some 0) (watched (used r k p b.order) b.marks q))

    rest : ℕ → ℕ
    rest = λ q. cond (eqb q p) 0 (is_open (b.marks q))

    kept : (q : ℕ) → cond (eqb q p) 0 (is_open (b.marks q)) ≡ cond (eqb q p) 0 (is_open (cond (eqb q p) (Some 0) (watched (used r k p b.order) b.marks q)))
    kept q = elim (eqb_cases q p) [ inl e ↦ rw e.1 refl | inr m ↦ rw m.1 (sym (open_raised (b.marks q) (place q (used r k p b.order).bottom))) ]

    opened : is_open (cond (eqb p p) (Some 0) (watched (used r k p b.order) b.marks p)) ≡ 1
    opened = rw (eq-eqb p p refl) refl

  few_settle : (b : Ledger) → Few n b → Few n (shown_settle n b)
  few_settle b f = record {
    uses = omega (arith, f.uses);
    windows = omega (arith, f.windows, total_zero (λ q. 0) n (λ q lt. refl));
  }

  pub few_run : (b : Ledger) → Few n b → (calls : List Call) → AllByRecursion (Fits n) calls → Few n (shown_all r n k b calls)
  few_run b f [] h = f
  few_run b f (Use Read p ∷ calls) h = few_run (shown_read r k p b) (few_read p b f) calls h.1
  few_run b f (Use Write p ∷ calls) h = few_run (shown_write r k p b) (few_write p h.0 b f) calls h.1
  few_run b f (Settle ∷ calls) h = few_run (shown_settle n b) (few_settle b f) calls h.1

  pub calls_run : (b : Ledger) (calls : List Call) → (shown_all r n k b calls).calls ≡ b.calls + length calls
  calls_run b [] = omega arith
  calls_run b (Use Read p ∷ calls) = omega (arith, calls_run (shown_read r k p b) calls)
  calls_run b (Use Write p ∷ calls) = omega (arith, calls_run (shown_write r k p b) calls)
  calls_run b (Settle ∷ calls) = omega (arith, calls_run (shown_settle n b) calls)

pub few_fresh : (n told : ℕ) → Few n (unseen told)
few_fresh n told = record { uses = zero-le; windows = omega (arith, total_zero (λ q. 0) n (λ q lt. refl)) }

above_few : (l : ℕ) (ds : List ℕ) → above l ds ≤ length ds
above_few l ds = omega (arith, weigh_ones ds, weigh_le (λ d. one (ltb l d)) (λ d. 1) most ds) where
  most : (d : ℕ) → one (ltb l d) ≤ 1
  most d = elim (ltb_cases l d) [ inl y ↦ rw y.1 (omega arith) | inr m ↦ rw m.1 zero-le ]

pub few_faults : (n l : ℕ) (b : Ledger) → Few n b → row_faults l b ≤ b.calls
few_faults n l b f = omega (arith, f.uses, above_few l b.reads, above_few l b.writes)

pub few_saves : (n l : ℕ) (b : Ledger) → Few n b → row_saves n l b ≤ b.calls
few_saves n l b f = omega (arith, f.windows, above_few l b.ended, total_le (λ q. over l (b.marks q)) (λ q. is_open (b.marks q)) (λ q. omega (arith, open_parts l (b.marks q))) n)
